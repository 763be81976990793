-- One more bridge noted in working memory. Assumes nothing.
use Rattle.std.proofs.Common.{◌≡◌, ℕ, ◌+◌, ◌-◌, ◌<◌, ◌≤◌, false, ltb, ◌≢◌, List, [], ◌∷◌, ◌++◌, get_or, take, set, sym, ap, ◌∙◌, subst, ⊎_elim, arith, length-set}
use Rattle.std.proofs.lemmas.List.{take_more_set, get_or-set_same, get_or-set_other, length-take-le}
use Rattle.std.proofs.lemmas.Bool.{cases_eq, le-ltb, cond-false}
use Rattle.theory.specs.Lists.{In, Distinct, among}
use Rattle.theory.proofs.Tests.{clash}
use Rattle.theory.proofs.Lists.{in_snoc, in_last, in_among, distinct_snoc, length_snoc}
use Rattle.theory.proofs.Counting.{few}
use Rattle.survey.specs.Walk.{join}
use Rattle.survey.specs.Working.{FoundIn}
use Rattle.field.proofs.Members.{among_other}

module _ {n : ℕ} {order marks : List ℕ} {count : ℕ} (far : ℕ) (F : FoundIn n order marks count) (low : 1 ≤ far) (high : far ≤ n) where
  abbrev found : List ℕ
  found = take count order

  module _ (off : get_or marks (far - 1) 0 ≤ 0) where
    new : among found far ≡ false
    new = sym (F.marked far low high) ∙ le-ltb 0 (get_or marks (far - 1) 0) off

    apart : Distinct (found ++ (far ∷ []))
    apart = distinct_snoc far found F.once (λ i. clash (in_among found far i) new)

    inside : (b : ℕ) → In b (found ++ (far ∷ [])) → (1 ≤ b) × (b ≤ n)
    inside b i = ⊎_elim (F.within b) (λ e. subst (λ x. (1 ≤ x) × (x ≤ n)) (sym e) (low, high)) (in_snoc b far found i)

    pub below : count < n
    below =
        let long = length-take-le count order (omega (arith, F.few, F.long_order)) in
        omega (arith, few n (found ++ (far ∷ [])) apart inside, length_snoc far found)

    grown : take (count + 1) (set order count far) ≡ found ++ (far ∷ [])
    grown = take_more_set order count far (omega (arith, below, F.long_order))

    pub join-new : take (count + 1) (set order count far) ≡ join found far
    join-new = grown ∙ sym (cond-false (among found far) found (found ++ (far ∷ [])) new)

    marked_same : ltb 0 (get_or (set marks (far - 1) 1) (far - 1) 0) ≡ among (take (count + 1) (set order count far)) far
    marked_same =
        ap (ltb 0) (get_or-set_same marks (far - 1) 1 0 (omega (arith, F.long_marks)))
        ∙ sym (ap (λ xs. among xs far) grown ∙ in_among (found ++ (far ∷ [])) far (in_last far found))

    marked_other : (b : ℕ) → 1 ≤ b → b ≤ n → (b ≡ far → ⊥) → ltb 0 (get_or (set marks (far - 1) 1) (b - 1) 0) ≡ among (take (count + 1) (set order count far)) b
    marked_other b l h ne =
        let other : b - 1 ≢ far - 1 = omega arith in
        ap (ltb 0) (get_or-set_other marks (far - 1) (b - 1) 1 0 other)
        ∙ F.marked b l h
        ∙ sym (ap (λ xs. among xs b) grown ∙ among_other b found far ne)

    pub noted : FoundIn n (set order count far) (set marks (far - 1) 1) (count + 1)
    noted = record {
      marked = λ b l h. ⊎_elim (λ e. subst (λ x. ltb 0 (get_or (set marks (far - 1) 1) (x - 1) 0) ≡ among (take (count + 1) (set order count far)) x) (sym e) marked_same) (marked_other b l h) (cases_eq b far);
      once = subst Distinct (sym grown) apart;
      within = λ b i. inside b (subst (In b) grown i);
      few = omega (arith, below);
      long_order = rw length-set F.long_order;
      long_marks = rw length-set F.long_marks;
    }
