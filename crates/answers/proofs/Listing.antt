-- What is told of line slots, one after another. Assumes nothing.
use Rattle.std.proofs.Common.{◌≡◌, ℕ, suc, ◌+◌, ◌<◌, ◌≤◌, Bool, true, false, cond, not, eqb, List, [], ◌∷◌, ◌++◌, length, get_or, take, drop, set, Option, Some, None, sym, refl, ap, ◌∙◌, append_assoc, append-nil, arith}
use Rattle.std.proofs.lemmas.List.{drop_more, drop_all, take_more_set, take_all}
use Rattle.std.specs.Option.{MatchOption}
use Rattle.grade.specs.declared.slots.Slots.{Slots}
use Rattle.book.specs.declared.memory.Line.{Line}
use Rattle.margins.specs.declared.margin.Margin.{Margin}
use Rattle.margins.specs.Picking.{as_arc}
use Rattle.margins.proofs.Picking.{stood}
use Rattle.replies.specs.declared.margin.LineMargin.{LineMargin}
use Rattle.answers.specs.Answers.{is_there, row, rows}

-- a line stands where its near bridge is not 0
pub stood_there : (k : ℕ) (line : Line Slots) → not (eqb line.near 0) ≡ is_there (as_arc k (stood (Some line)))
stood_there k line = go (eqb line.near 0)
  where
    go : (free : Bool) → not free ≡ is_there (as_arc k (cond free None (Some line)))
    go true = refl
    go false = refl

-- what a test of the record at a number says
pub tested : (k : ℕ) (r : Option (Line Slots)) (b : Bool) {P : Line Slots → Type 0} → MatchOption r (b ≡ false) P → ((x : Line Slots) → P x → b ≡ not (eqb x.near 0)) → b ≡ is_there (as_arc k (stood r))
tested k None b h means = h
tested k (Some x) b h means = means x h ∙ stood_there k x

module _ (t : ℕ → Bool) where
  -- one row more
  pub rows_more : (i : ℕ) (margins : List (Margin Slots)) (table : List (Option LineMargin)) (m : Margin Slots) (r : Option LineMargin) → i < length table → i < length margins → m ≡ get_or margins i m → r ≡ row (t (suc i)) m →
      take (i + 1) (set table i r) ++ rows t (suc (i + 1)) (drop (i + 1) margins) ≡ take i table ++ rows t (suc i) (drop i margins)
  rows_more i margins table m r within there read is =
      let next : suc (i + 1) ≡ suc (suc i) = omega arith in
      ap (λ (xs : List (Option LineMargin)). xs ++ rows t (suc (i + 1)) (drop (i + 1) margins)) (take_more_set table i r within)
      ∙ append_assoc (take i table) (r ∷ []) (rows t (suc (i + 1)) (drop (i + 1) margins))
      ∙ ap (λ (k : ℕ). take i table ++ (r ∷ rows t k (drop (i + 1) margins))) next
      ∙ ap (λ (x : Option LineMargin). take i table ++ (x ∷ rows t (suc (suc i)) (drop (i + 1) margins))) (is ∙ ap (row (t (suc i))) read)
      ∙ sym (ap (λ (xs : List (Margin Slots)). take i table ++ rows t (suc i) xs) (drop_more margins i m there))

  -- past the last slot
  pub rows_done : (i : ℕ) (margins : List (Margin Slots)) (table : List (Option LineMargin)) → length table ≤ i → length margins ≤ i → table ≡ take i table ++ rows t (suc i) (drop i margins)
  rows_done i margins table all none_left =
      sym (ap (λ (xs : List (Margin Slots)). take i table ++ rows t (suc i) xs) (drop_all i margins none_left) ∙ append-nil (take i table) ∙ take_all i table all)
