-- A number that may be there, written at a place. Assumes nothing.
use Rattle.std.proofs.Common.{◌≡◌, ℕ, ◌+◌, ◌<◌, ◌≤◌, List, [], ◌∷◌, ◌++◌, length, take, drop, Some, None, Option as Held, sym, refl, ap, ◌∙◌, append_assoc, arith, drop-drop, drop-set-lt}
use Rattle.std.proofs.lemmas.List.{take_more_set}
use Rattle.search.specs.Ways.{placed, place_after, with_number}

-- the number goes before those after it
pub number-written : (o : Held ℕ) (ks : List ℕ) (at : ℕ) (numbers : List ℕ) → at < length numbers → take (place_after at o) (placed numbers at o) ++ ks ≡ take at numbers ++ with_number o ks
number-written None ks at numbers within = refl
number-written (Some k) ks at numbers within = ap (λ l. l ++ ks) (take_more_set numbers at k within) ∙ append_assoc (take at numbers) (k ∷ []) ks

-- what lies beyond stays
pub beyond_stays : (number : Held ℕ) (at : ℕ) (numbers old : List ℕ) → drop at numbers ≡ drop at old → drop (place_after at number) (placed numbers at number) ≡ drop (place_after at number) old
beyond_stays None at numbers old same = same
beyond_stays (Some x) at numbers old same =
    drop-set-lt (at + 1) numbers at x (omega arith) ∙ sym (drop-drop 1 at numbers) ∙ ap (drop 1) same ∙ drop-drop 1 at old

pub place_after-le : (number : Held ℕ) (at : ℕ) → place_after at number ≤ at + 1
place_after-le None at = omega arith
place_after-le (Some x) at = omega arith
