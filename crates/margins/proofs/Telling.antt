-- Margins in memory, slot after slot. Assumes nothing.
use Rattle.std.proofs.Common.{◌≡◌, ℕ, zero, suc, ◌<◌, Bool, true, false, cond, ◌||◌, eqb, List, [], ◌∷◌, ◌++◌, length, take, drop, set, Option as Held, sym, refl, ap, ◌∙◌, arith, take-append-drop}
use mathlib.Core.Option.{Option, none, some}
use Rattle.theory.specs.Lists.{among}
use Rattle.theory.specs.Arcs.{Arc, numbers}
use Rattle.theory.specs.Margins.{on}
use Rattle.book.specs.declared.memory.Line.{Line}
use Rattle.standing.specs.Standing.{arc}
use Rattle.margins.specs.declared.margin.Margin.{Margin}
use Rattle.search.specs.Widths.{as_held}
use Rattle.margins.specs.Telling.{as_told, as_margin, margins_in}
use Rattle.margins.specs.Asked.{margin_off}

pub told_held : {G : Type 0} (o : Option G) → as_told (as_held o) ≡ o
told_held none = refl
told_held (some g) = refl

pub margin_path : {G : Type 0} {a b c d : Held G} → a ≡ b → c ≡ d → ◌≡◌ {A = Margin G} (record { low = a; high = c }) (record { low = b; high = d })
margin_path p q = λ i. record { low = p i; high = q i }

-- a line is on the route where its number is in the list
pub on_among : {G : Type 0} (p : List (Arc G)) (k : ℕ) → on p k ≡ among (numbers p) k
on_among [] k = refl
on_among (e ∷ p) k = ap (λ t. eqb e.number k || t) (on_among p k)

-- off the route
pub off_told : {G : Type 0} (w : G) (both : Bool) → margin_off w both ≡ as_margin (record { low = none; high = cond both (some w) none })
off_told w true = refl
off_told w false = refl

-- a free slot's record stays
pub margins_kept : {G : Type 0} (of : Arc G → Margin G) (k i : ℕ) (l : Line G) (ls : List (Line G)) (out : List (Margin G)) → i < length out → eqb l.near 0 ≡ true →
    take (suc i) out ++ margins_in of (suc k) ls (drop (suc i) out) ≡ take i out ++ margins_in of k (l ∷ ls) (drop i out)
margins_kept of k i l ls [] within free = absurd (omega arith)
margins_kept of k zero l ls (o ∷ out) within free = sym (ap (λ t. cond t o (of (arc k l)) ∷ margins_in of (suc k) ls out) free)
margins_kept {G} of k (suc i) l ls (o ∷ out) within free = ap (λ (xs : List (Margin G)). o ∷ xs) (margins_kept of k i l ls out (omega arith) free)

-- a standing line's is written
pub margins_put : {G : Type 0} (of : Arc G → Margin G) (k i : ℕ) (l : Line G) (ls : List (Line G)) (out : List (Margin G)) (r : Margin G) → i < length out → eqb l.near 0 ≡ false → r ≡ of (arc k l) →
    take (suc i) (set out i r) ++ margins_in of (suc k) ls (drop (suc i) (set out i r)) ≡ take i out ++ margins_in of k (l ∷ ls) (drop i out)
margins_put of k i l ls [] r within stands is = absurd (omega arith)
margins_put of k zero l ls (o ∷ out) r within stands is =
    ap (λ (m : Margin _). m ∷ margins_in of (suc k) ls out) is ∙ sym (ap (λ t. cond t o (of (arc k l)) ∷ margins_in of (suc k) ls out) stands)
margins_put {G} of k (suc i) l ls (o ∷ out) r within stands is = ap (λ (xs : List (Margin G)). o ∷ xs) (margins_put of k i l ls out r (omega arith) stands is)

-- past the last slot the memory stays
pub margins_done : {G : Type 0} (of : Arc G → Margin G) (i k : ℕ) (ls : List (Line G)) (out : List (Margin G)) → ls ≡ [] → out ≡ take i out ++ margins_in of k ls (drop i out)
margins_done {G} of i k ls out none_left = sym (ap (λ (xs : List (Line G)). take i out ++ margins_in of k xs (drop i out)) none_left ∙ take-append-drop i out)
