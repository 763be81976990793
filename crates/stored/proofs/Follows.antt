-- The steps of following chains by marks. Assumes nothing.
use Rattle.std.proofs.Common.{◌≡◌, ℕ, zero, suc, ◌-◌, ◌<◌, Bool, true, false, cond, not, ◌&&◌, eqb, leb, List, get_or, set, Some, None, sym, ap, ◌∙◌, ⊎_elim, arith}
use Rattle.std.proofs.lemmas.Option.{none-some}
use Rattle.std.proofs.lemmas.Bool.{cond-true, cond-false, eq-eqb, ne_eqb, and_parts, and_left, and_right, and_from, and_cases, le-leb, both_ways, not_from_true, not_from_false}
use Rattle.stored.specs.declared.layout.Record.{Record}
use Rattle.grade.specs.Told.{answers, refuses}
use Rattle.stored.specs.Stored.{next_in}
use Rattle.stored.specs.Marks.{record_at, follow_marks}
use Rattle.grade.proofs.Replies.{by_cond}
use Rattle.stored.proofs.Chains.{names, names_none}

-- zero ends a chain
pub follow-zero : (next : ℕ → ℕ) (r left index : ℕ) (marks : List Bool) → index ≡ 0 → follow_marks next r left index marks ≡ answers marks
unfolding follow_marks
follow-zero next r zero index marks z = cond-true (eqb index 0) _ _ (eq-eqb index 0 z)
follow-zero next r (suc left) index marks z = cond-true (eqb index 0) _ _ (eq-eqb index 0 z)

-- an index that is too late is the place
pub follow_late : (next : ℕ → ℕ) (r left index : ℕ) (marks : List Bool) → left ≡ 0 → (index ≡ 0 → ⊥) → follow_marks next r left index marks ≡ refuses (14, index, 0)
unfolding follow_marks
follow_late next r left index marks z ne = ap (λ k. follow_marks next r k index marks) z ∙ cond-false (eqb index 0) _ _ (ne_eqb index 0 ne)

module _ (bytes : List ℕ) (base r left index : ℕ) (marks : List Bool) (ne : index ≡ 0 → ⊥) where
  -- an index that names no record, or one met before, is the place
  bad : None ≡ cond (get_or marks (index - 1) false) None (record_at bytes base r index) → (leb index r && not (get_or marks (index - 1) false)) ≡ false
  bad is =
      ⊎_elim
      (λ met. and_right (leb index r) (not (get_or marks (index - 1) false)) (not_from_true (get_or marks (index - 1) false) met.0))
      (λ fresh. and_left (leb index r) (not (get_or marks (index - 1) false))
      (⊎_elim (λ low. absurd (both_ways (leb 1 index) low (le-leb 1 index (omega arith)))) (λ high. high) (and_cases (leb 1 index) (leb index r) (names_none bytes base r index (sym fresh.1)))))
      (by_cond (get_or marks (index - 1) false) (sym is))

  pub follow_bad : None ≡ cond (get_or marks (index - 1) false) None (record_at bytes base r index) → follow_marks (next_in bytes base) r left index marks ≡ refuses (14, index, 0)
  unfolding follow_marks
  follow_bad is = stops left
    where
      stops : (k : ℕ) → follow_marks (next_in bytes base) r k index marks ≡ refuses (14, index, 0)
      stops zero = cond-false (eqb index 0) _ _ (ne_eqb index 0 ne)
      stops (suc k) = cond-false (eqb index 0) _ _ (ne_eqb index 0 ne) ∙ cond-false (leb index r && not (get_or marks (index - 1) false)) _ _ (bad is)

  -- a record met for the first time is marked, and the chain goes on
  pub follow-more : (rec : Record) → 0 < left → Some rec ≡ cond (get_or marks (index - 1) false) None (record_at bytes base r index) → follow_marks (next_in bytes base) r left index marks ≡ follow_marks (next_in bytes base) r (left - 1) rec.next (set marks (index - 1) true)
  unfolding follow_marks
  follow-more rec l is =
      let turns : left ≡ suc (left - 1) = omega arith in
      ⊎_elim
      (λ met. absurd (none-some _ met.1))
      (λ fresh.
      let named = names bytes base r index rec (sym fresh.1) in
      let good = and_from (leb index r) (not (get_or marks (index - 1) false)) (and_parts (leb 1 index) (leb index r) named.0).1 (not_from_false (get_or marks (index - 1) false) fresh.0) in
      ap (λ k. follow_marks (next_in bytes base) r k index marks) turns
      ∙ cond-false (eqb index 0) _ _ (ne_eqb index 0 ne)
      ∙ cond-true (leb index r && not (get_or marks (index - 1) false)) _ _ good
      ∙ ap (λ x. follow_marks (next_in bytes base) r (left - 1) x.next (set marks (index - 1) true)) (sym named.1))
      (by_cond (get_or marks (index - 1) false) (sym is))
