-- Surveys answer alike on memory and on the plain book, and keep the two in agreement. Assumes nothing.
use Rattle.std.proofs.Common.{◌≡◌, ℕ, ◌+◌, ◌*◌, ◌≤◌, Bool, true, false, cond, leb, List, length, sym, refl, ap, ◌∙◌, subst, ⊎_elim, arith}
use Rattle.std.proofs.lemmas.Bool.{cond-true, cond-false, cases_Bool, and_parts, leb-true}
use Rattle.grade.specs.Told.{Reply, answers, refuses, refused, unless_refused}
use Rattle.grade.proofs.Replies.{refused-not, answers_same}
use Rattle.book.specs.Memory.{Memory}
use Rattle.book.specs.Opening.{fresh}
use Rattle.book.specs.Lawful.{lawful}
use Rattle.book.specs.Admission.{is_bridge}
use Rattle.plain.specs.Plain.{Plain, Agrees, new_book}
use Rattle.plain.proofs.Agreement.{agrees_lawful}
use Rattle.plain.proofs.Same.{Alike}
use Rattle.field.specs.Meaning.{Told}
use Rattle.survey.specs.Walk.{Progress, walked, recorded, Complete}
use Rattle.survey.specs.Recording.{lay_all, recorded_over, surveying}
use Rattle.survey.specs.Plain.{plain_lay_all, plain_recorded_over, plain_surveying}
use Rattle.survey.proofs.Lays.{all_agree, can-recorded}
use Rattle.survey.proofs.Walks.{walks_all}
use Rattle.survey.proofs.Placing.{fresh_agrees, found-can}

alike_from : {G : Type 0} {x x' : Reply ℕ × Memory G} {y y' : Reply ℕ × Plain G} → x ≡ x' → y ≡ y' → Alike x' y' → Alike x y
alike_from {G} {x} {x'} {y} {y'} e f h =
    subst (λ (z : Reply ℕ × Memory G). Alike z y) (sym e) (subst (λ (z : Reply ℕ × Plain G). Alike x' z) (sym f) h)

enters : {G : Type 0} (b : Bool) (m : Memory G) (go : Reply ℕ × Memory G) → unless_refused {A = Unit {0}} (cond b (answers tt) (refused 2)) m go ≡ cond b go (refused 2, m)
enters true m go = refl
enters false m go = refl

module _ {G : Type 0} (tells : ℕ → Told G) (m : Memory G) (p : Plain G) (a : Agrees m p) (work start : ℕ) where
  law : lawful m ≡ true
  law = agrees_lawful m p a

  abbrev outcome : Memory G → ℕ → ℕ → Reply ℕ × Memory G
  outcome x n slots = recorded_over tells x (walked tells n slots start)

  -- both books put the same questions before a walk
  surveying_is : surveying tells m work start ≡ cond (leb (8 * p.bridges + p.slots) work) (cond (is_bridge p.bridges start) (outcome m p.bridges p.slots) (refused 3, m)) (refused 2, m)
  surveying_is =
      let F : ℕ → ℕ → Bool → Reply ℕ × Memory G = λ n slots legal.
      unless_refused (cond (leb (8 * n + slots) work) (cond legal (answers tt) (refused 1)) (refused 2)) m (cond (is_bridge n start) (outcome m n slots) (refused 3, m)) in
      ap (λ (n : ℕ). F n m.head.slots (lawful m)) a.bridges ∙ ap (λ (k : ℕ). F p.bridges k (lawful m)) a.slots ∙ ap (F p.bridges p.slots) law
      ∙ enters (leb (8 * p.bridges + p.slots) work) m (cond (is_bridge p.bridges start) (outcome m p.bridges p.slots) (refused 3, m))

  module _ (low : 1 ≤ start) (high : start ≤ p.bridges) where
    recorded_alike : (r : Reply Progress) → walked tells p.bridges p.slots start ≡ r → Alike (recorded_over tells m r) (plain_recorded_over tells p r)
    recorded_alike (refuses t) e = (refl, a)
    recorded_alike (answers w) e =
        let size = length m.lines in
        let walked_here : walked tells m.head.bridges m.head.slots start ≡ answers w =
        ap (λ (n : ℕ). walked tells n m.head.slots start) a.bridges ∙ ap (λ (k : ℕ). walked tells p.bridges k start) a.slots ∙ e in
        let can = can-recorded tells (new_book m.head.bridges size) w.found (found-can m law tells start low (omega (arith, a.bridges)) w walked_here) in
        let agree = all_agree (fresh m.head.bridges m) (new_book m.head.bridges size) (recorded tells w.found) (fresh_agrees m law) can in
        let after : Memory G = lay_all (fresh m.head.bridges m) (recorded tells w.found) in
        let P : ℕ → ℕ → Type 0 = λ n k. Agrees after (plain_lay_all (new_book n k) (recorded tells w.found)) in
        (refl, subst (P p.bridges) a.long (subst (λ (n : ℕ). P n size) a.bridges agree))

  pub surveying_alike : Alike (surveying tells m work start) (plain_surveying tells p work start)
  surveying_alike =
      let n = p.bridges in
      let enough = leb (8 * n + p.slots) work in
      let go = cond (is_bridge n start) (outcome m n p.slots) (refused 3, m) in
      let plain-go = cond (is_bridge n start) (plain_recorded_over tells p (walked tells n p.slots start)) (refused 3, p) in
      ⊎_elim
      (λ long. ⊎_elim
      (λ inside.
      let range = and_parts (leb 1 start) (leb start n) inside in
      alike_from (surveying_is ∙ cond-true enough go (refused 2, m) long ∙ cond-true (is_bridge n start) (outcome m n p.slots) (refused 3, m) inside)
      (cond-true enough plain-go (refused 2, p) long ∙ cond-true (is_bridge n start) (plain_recorded_over tells p (walked tells n p.slots start)) (refused 3, p) inside)
      (recorded_alike (leb-true 1 start range.0) (leb-true start n range.1) (walked tells n p.slots start) refl))
      (λ outside.
      alike_from (surveying_is ∙ cond-true enough go (refused 2, m) long ∙ cond-false (is_bridge n start) (outcome m n p.slots) (refused 3, m) outside)
      (cond-true enough plain-go (refused 2, p) long ∙ cond-false (is_bridge n start) (plain_recorded_over tells p (walked tells n p.slots start)) (refused 3, p) outside)
      (refl, a))
      (cases_Bool (is_bridge n start)))
      (λ short. alike_from (surveying_is ∙ cond-false enough go (refused 2, m) short) (cond-false enough plain-go (refused 2, p) short) (refl, a))
      (cases_Bool enough)

-- an accepted survey of the plain book lays the lists of the reachable bridges, in the order found, on a new one
pub accepted_survey : {G : Type 0} (tells : ℕ → Told G) (p : Plain G) (work start count : ℕ) → (plain_surveying tells p work start).0 ≡ answers count
    → (order : List ℕ) × Complete tells p.bridges start order × (count ≡ length (recorded tells order))
    × ((plain_surveying tells p work start).1 ≡ plain_lay_all (new_book p.bridges p.slots) (recorded tells order))
accepted_survey {G} tells p work start count accepted = enough (leb (8 * n + p.slots) work) refl accepted
  where
    n : ℕ
    n = p.bridges

    Found : Reply ℕ × Plain G → Type 0
    Found r =
        r.0 ≡ answers count → (order : List ℕ) × Complete tells n start order × (count ≡ length (recorded tells order))
        × (r.1 ≡ plain_lay_all (new_book n p.slots) (recorded tells order))

    at_end : (r : Reply Progress) → walked tells n p.slots start ≡ r → 1 ≤ start → start ≤ n → Found (plain_recorded_over tells p r)
    at_end (refuses x) e low high h = absurd (refused-not h)
    at_end (answers w) e low high h =
        let all = walks_all tells n p.slots start low high w e in
        (w.found, all.0, sym (answers_same h) ∙ all.1, refl)

    inside : (b : Bool) → is_bridge n start ≡ b → Found (cond b (plain_recorded_over tells p (walked tells n p.slots start)) (refused 3, p))
    inside false e h = absurd (refused-not h)
    inside true e h = let range = and_parts (leb 1 start) (leb start n) e in at_end (walked tells n p.slots start) refl (leb-true 1 start range.0) (leb-true start n range.1) h

    enough : (b : Bool) → leb (8 * n + p.slots) work ≡ b → Found (cond b (cond (is_bridge n start) (plain_recorded_over tells p (walked tells n p.slots start)) (refused 3, p)) (refused 2, p))
    enough false e h = absurd (refused-not h)
    enough true e h = inside (is_bridge n start) refl h
