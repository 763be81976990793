-- Opening by marks answers what opening by lists of records does. Assumes nothing.
use Rattle.std.proofs.Common.{◌≡◌, ℕ, zero, suc, ◌-◌, ◌≤◌, Bool, true, false, cond, not, ◌&&◌, eqb, leb, ◌≢◌, List, [], ◌∷◌, ◌++◌, length, get_or, set, replicate, Some, None, Option, sym, refl, ap, ◌∙◌, subst, ⊎_elim, arith, length-set}
use Rattle.std.proofs.lemmas.List.{get_or-set_same, get_or-set_other, get_or-replicate, length-replicate}
use Rattle.std.proofs.lemmas.Bool.{cases_Bool, cases_eq, eqb-false, and_parts, leb-true, cond-true}
use Rattle.grade.specs.declared.slots.Slots.{Slots}
use Rattle.field.specs.Meaning.{Told}
use Rattle.grade.specs.Told.{Reply, answers, refuses, refused, and_then}
use Rattle.theory.specs.Lists.{among}
use Rattle.theory.proofs.Lists.{in_last, in_among}
use Rattle.field.proofs.Members.{among_other}
use Rattle.stored.specs.Stored.{bridges, records, base_of, head_of, next_in, stored_at, stored_tells, well_shaped, follow, follow_all, lowest, unless, wrong_slots, opened}
use Rattle.stored.specs.Marks.{follow_marks, follow_all_marks}
use Rattle.grade.proofs.Replies.{by_cond, refused-not, answers_same}
use Rattle.stored.proofs.Shapes.{few_records}
use Rattle.stored.proofs.Lowest.{lowest_same}

-- the marks are those of the records met
pub record Met (r : ℕ) (marks : List Bool) (met : List ℕ) : Type 0 where
  pub long : r ≤ length marks
  pub same : (i : ℕ) → 1 ≤ i → i ≤ r → get_or marks (i - 1) false ≡ among met i

abbrev Agree : ℕ → Reply (List Bool) → Reply (List ℕ) → Type 0
Agree r (answers marks) (answers met) = Met r marks met
Agree r (answers marks) (refuses y) = ⊥
Agree r (refuses x) (answers met) = ⊥
Agree r (refuses x) (refuses y) = x ≡ y

agree_cond : (r : ℕ) (b c : Bool) (p q : Reply (List Bool)) (s t : Reply (List ℕ)) → b ≡ c → (b ≡ true → Agree r p s) → (b ≡ false → Agree r q t) → Agree r (cond b p q) (cond c s t)
agree_cond r true c p q s t e yes' no' = subst (λ x. Agree r p (cond x s t)) e (yes' refl)
agree_cond r false c p q s t e yes' no' = subst (λ x. Agree r q (cond x s t)) e (no' refl)

met_more : (r : ℕ) (marks : List Bool) (met : List ℕ) (index : ℕ) → 1 ≤ index → index ≤ r → Met r marks met → Met r (set marks (index - 1) true) (met ++ (index ∷ []))
met_more r marks met index low high M = record {
  long = rw length-set M.long;
  same = λ i l h. ⊎_elim
      (λ e. subst (λ x. get_or (set marks (index - 1) true) (x - 1) false ≡ among (met ++ (index ∷ [])) x) (sym e) (get_or-set_same marks (index - 1) true false (omega (arith, M.long)) ∙ sym (in_among (met ++ (index ∷ [])) index (in_last index met))))
      (λ ne. let apart : i - 1 ≢ index - 1 = omega arith in get_or-set_other marks (index - 1) (i - 1) true false apart ∙ M.same i l h ∙ sym (among_other i met index ne))
      (cases_eq i index);
}

tests_same : (r : ℕ) (marks : List Bool) (met : List ℕ) (index : ℕ) → 1 ≤ index → Met r marks met → (leb index r && not (get_or marks (index - 1) false)) ≡ (leb index r && not (among met index))
tests_same r marks met index low M =
    ⊎_elim
    (λ e. ap (λ t. leb index r && not t) (M.same index low (leb-true index r e)))
    (λ e. rw e)
    (cases_Bool (leb index r))

follow_agree : (next : ℕ → ℕ) (r left index : ℕ) (marks : List Bool) (met : List ℕ) → Met r marks met → Agree r (follow_marks next r left index marks) (follow next r left index met)
unfolding follow_marks follow
follow_agree next r zero index marks met M = agree_cond r (eqb index 0) (eqb index 0) _ _ _ _ refl (λ e. M) (λ e. refl)
follow_agree next r (suc left) index marks met M =
    agree_cond r (eqb index 0) (eqb index 0) _ _ _ _ refl (λ e. M)
    (λ e. let low : 1 ≤ index = omega (arith, eqb-false index 0 e) in
    agree_cond r (leb index r && not (get_or marks (index - 1) false)) (leb index r && not (among met index)) _ _ _ _ (tests_same r marks met index low M)
    (λ t. follow_agree next r left (next index) (set marks (index - 1) true) (met ++ (index ∷ [])) (met_more r marks met index low (leb-true index r (and_parts (leb index r) (not (get_or marks (index - 1) false)) t).0) M))
    (λ t. refl))

agree_then : (r : ℕ) (a : Reply (List Bool)) (b : Reply (List ℕ)) (f : List Bool → Reply (List Bool)) (g : List ℕ → Reply (List ℕ)) → Agree r a b → ((marks : List Bool) (met : List ℕ) → Met r marks met → Agree r (f marks) (g met)) → Agree r (and_then a f) (and_then b g)
agree_then r (answers marks) (answers met) f g h k = k marks met h
agree_then r (answers marks) (refuses y) f g h k = absurd h
agree_then r (refuses x) (answers met) f g h k = absurd h
agree_then r (refuses x) (refuses y) f g h k = h

all_agree : (head next : ℕ → ℕ) (r b : ℕ) (start : List Bool) → Met r start [] → Agree r (follow_all_marks head next r b start) (follow_all head next r b)
all_agree head next r zero start M = M
all_agree head next r (suc b) start M =
    agree_then r (follow_all_marks head next r b start) (follow_all head next r b) (follow_marks next r 255 (head (suc b))) (follow next r 255 (head (suc b))) (all_agree head next r b start M) (λ marks met N. follow_agree next r 255 (head (suc b)) marks met N)

agree_no : (r : ℕ) (a : Reply (List Bool)) (b : Reply (List ℕ)) (x : ℕ × ℕ × ℕ) → Agree r a b → a ≡ refuses x → b ≡ refuses x
agree_no r (answers marks) (answers met) x h e = let z : ◌≡◌ {A = ℕ} 0 1 = cc in absurd (omega arith)
agree_no r (answers marks) (refuses y) x h e = absurd h
agree_no r (refuses w) (answers met) x h e = absurd h
agree_no r (refuses w) (refuses y) x h e = cc

agree_yes : (r : ℕ) (a : Reply (List Bool)) (b : Reply (List ℕ)) (marks : List Bool) → Agree r a b → a ≡ answers marks → (met : List ℕ) × (b ≡ answers met) × Met r marks met
agree_yes r (answers m) (answers met) marks h e = let same : m ≡ marks = cc in (met, refl, subst (λ x. Met r x met) same h)
agree_yes r (answers m) (refuses y) marks h e = absurd h
agree_yes r (refuses w) (answers met) marks h e = absurd h
agree_yes r (refuses w) (refuses y) marks h e = let z : ◌≡◌ {A = ℕ} 0 1 = cc in absurd (omega arith)

-- as many cleared marks as there may be records
met_none : (r : ℕ) → r ≤ 1024 → Met r (replicate 1024 false) []
met_none r h = record { long = rw length-replicate h; same = λ i l u. get_or-replicate 1024 (i - 1) false false (omega arith) }

-- bytes that were read mean what the bytes that were to be read do
pub opened_same : (bytes got : List ℕ) → answers got ≡ cond (well_shaped bytes) (answers bytes) (refused 13) → opened got ≡ opened bytes
opened_same bytes got h = ap opened (⊎_elim (λ good. answers_same (sym good.1)) (λ bad. absurd (refused-not bad.1)) (by_cond (well_shaped bytes) (sym h)))

module _ (bytes : List ℕ) (shaped : well_shaped bytes ≡ true) where
  abbrev next : ℕ → ℕ
  next = next_in bytes (base_of bytes)

  abbrev followed : Reply (List Bool)
  followed = follow_all_marks (head_of bytes) next (records bytes) (bridges bytes) (replicate 1024 false)

  abbrev right_slots : Reply (ℕ → Told Slots)
  right_slots = unless 15 (lowest (λ i. wrong_slots (stored_at bytes (base_of bytes) i).slots) (records bytes)) (answers (stored_tells bytes))

  abbrev rest : List ℕ → Reply (ℕ → Told Slots)
  rest met = unless 14 (lowest (λ i. not (among met i)) (records bytes)) right_slots

  opens : opened bytes ≡ and_then (follow_all (head_of bytes) next (records bytes) (bridges bytes)) rest
  opens = cond-true (well_shaped bytes) _ _ shaped

  agrees : Agree (records bytes) followed (follow_all (head_of bytes) next (records bytes) (bridges bytes))
  agrees = all_agree (head_of bytes) next (records bytes) (bridges bytes) (replicate 1024 false) (met_none (records bytes) (few_records bytes shaped))

  pub opened_broken : (x : ℕ × ℕ × ℕ) → refuses x ≡ followed → refuses x ≡ opened bytes
  opened_broken x is = sym (opens ∙ ap (λ a. and_then a rest) (agree_no (records bytes) _ _ x agrees (sym is)))

  module _ (marks : List Bool) (all-met : answers marks ≡ followed) where
    abbrev unmet : Option ℕ
    unmet = lowest (λ i. not (get_or marks (i - 1) false)) (records bytes)

    met_list : (met : List ℕ) × (follow_all (head_of bytes) next (records bytes) (bridges bytes) ≡ answers met) × Met (records bytes) marks met
    met_list = agree_yes (records bytes) _ _ marks agrees (sym all-met)

    left : opened bytes ≡ unless 14 unmet right_slots
    left =
        opens
        ∙ ap (λ a. and_then a rest) met_list.1
        ∙ ap (λ o. unless 14 o right_slots) (lowest_same (λ i. not (among met_list.0 i)) (λ i. not (get_or marks (i - 1) false)) (records bytes) (λ i l h. ap not (sym (met_list.2.same i l h))))

    pub opened_unmet : (place : ℕ) → Some place ≡ unmet → refuses (14, place, 0) ≡ opened bytes
    opened_unmet place is = sym (left ∙ ap (λ o. unless 14 o right_slots) (sym is))

    module _ (whole : None ≡ unmet) where
      checked : opened bytes ≡ right_slots
      checked = left ∙ ap (λ o. unless 14 o right_slots) (sym whole)

      pub opened-slots : (place : ℕ) → Some place ≡ lowest (λ i. wrong_slots (stored_at bytes (base_of bytes) i).slots) (records bytes) → refuses (15, place, 0) ≡ opened bytes
      opened-slots place is = sym (checked ∙ ap (λ o. unless 15 o (answers (stored_tells bytes))) (sym is))

      pub opened_good : None ≡ lowest (λ i. wrong_slots (stored_at bytes (base_of bytes) i).slots) (records bytes) → answers (stored_tells bytes) ≡ opened bytes
      opened_good is = sym (checked ∙ ap (λ o. unless 15 o (answers (stored_tells bytes))) (sym is))
