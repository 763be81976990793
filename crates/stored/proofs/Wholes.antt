-- In a survey that opens, every chain is ended by zero and every record is on exactly one. Assumes nothing.
use Rattle.std.proofs.Common.{◌≡◌, ℕ, zero, suc, ◌≤◌, not, ◌&&◌, eqb, leb, List, [], ◌∷◌, ◌++◌, Some, None, Option, sym, refl, ap, ◌∙◌, subst, ⊎_elim, append_assoc, arith}
use Rattle.std.proofs.lemmas.List.{append-nil}
use Rattle.std.proofs.lemmas.Bool.{cases_eq, eqb-true, eqb-false, and_parts, and_left, and_from, le-leb, lt-leb, cond-true, cond-false, not-true, not-false}
use Rattle.theory.specs.Lists.{In, Distinct, among}
use Rattle.theory.proofs.Tests.{clash}
use Rattle.theory.proofs.Lists.{among_in, in_among, distinct_snoc}
use Rattle.grade.specs.Told.{Reply, answers, refuses, and_then}
use Rattle.grade.proofs.Replies.{by_cond, refused-not, answers_same}
use Rattle.stored.specs.Stored.{bridges, records, base_of, head_of, next_in, stored_at, follow, follow_all, lowest, unless, wrong_slots, well_shaped, chain, chain_end, chains_to, OpensWhole}
use Rattle.stored.proofs.Lowest.{lowest_none}

-- what following a chain to its end tells: it is ended by zero, and its records were not met before
record Followed (next : ℕ → ℕ) (r left index : ℕ) (met all : List ℕ) : Type 0 where
  pub ended : chain_end next r left index ≡ 0
  pub adds : all ≡ met ++ chain next r left index
  pub once : Distinct all

followed : (next : ℕ → ℕ) (r left index : ℕ) (met all : List ℕ) → Distinct met → follow next r left index met ≡ answers all → Followed next r left index met all
unfolding follow chain_end chain
followed next r zero index met all d h =
    ⊎_elim
    (λ z. let same = answers_same z.1 in record { ended = eqb-true index 0 z.0; adds = sym same ∙ sym (append-nil met); once = subst Distinct same d })
    (λ bad. absurd (refused-not bad.1))
    (by_cond (eqb index 0) h)
followed next r (suc left) index met all d h =
    ⊎_elim
    (λ z.
    let same = answers_same z.1 in
    let none : index ≡ 0 = eqb-true index 0 z.0 in
    let out = and_left (leb 1 index) (leb index r) (lt-leb 1 index (omega arith)) in
    record {
      ended = cond-false (leb 1 index && leb index r) _ _ out ∙ none;
      adds = sym same ∙ sym (append-nil met) ∙ ap (λ xs. met ++ xs) (sym (cond-false (leb 1 index && leb index r) _ _ out));
      once = subst Distinct same d;
    })
    (λ more. ⊎_elim
    (λ good.
    let low : 1 ≤ index = omega (arith, eqb-false index 0 more.0) in
    let parts = and_parts (leb index r) (not (among met index)) good.0 in
    let named = and_from (leb 1 index) (leb index r) (le-leb 1 index low) parts.0 in
    let fresh = distinct_snoc index met d (λ i. clash (in_among met index i) (not-true (among met index) parts.1)) in
    let rest = followed next r left (next index) (met ++ (index ∷ [])) all fresh good.1 in
    record {
      ended = cond-true (leb 1 index && leb index r) _ _ named ∙ rest.ended;
      adds = rest.adds ∙ append_assoc met (index ∷ []) (chain next r left (next index)) ∙ ap (λ xs. met ++ xs) (sym (cond-true (leb 1 index && leb index r) _ _ named));
      once = rest.once;
    })
    (λ bad. absurd (refused-not bad.1))
    (by_cond (leb index r && not (among met index)) more.1))
    (by_cond (eqb index 0) h)

-- an answer comes from an answer
first_answers : {X Y : Type 0} (a : Reply X) (f : X → Reply Y) (y : Y) → and_then a f ≡ answers y → (x : X) × (a ≡ answers x) × (f x ≡ answers y)
first_answers (answers x) f y h = (x, refl, h)
first_answers (refuses r) f y h = absurd (refused-not h)

-- and so all chains
record AllFollowed (head next : ℕ → ℕ) (r n : ℕ) (all : List ℕ) : Type 0 where
  pub ended : (b : ℕ) → 1 ≤ b → b ≤ n → chain_end next r 255 (head b) ≡ 0
  pub adds : all ≡ chains_to head next r n
  pub once : Distinct all

all_followed : (head next : ℕ → ℕ) (r n : ℕ) (all : List ℕ) → follow_all head next r n ≡ answers all → AllFollowed head next r n all
all_followed head next r zero all h = record { ended = λ b low high. absurd (omega arith); adds = sym (answers_same h); once = subst Distinct (answers_same h) tt }
all_followed head next r (suc n) all h =
    let parts = first_answers (follow_all head next r n) (follow next r 255 (head (suc n))) all h in
    let before = all_followed head next r n parts.0 parts.1 in
    let last = followed next r 255 (head (suc n)) parts.0 all before.once parts.2 in
    record {
      ended = λ b low high. ⊎_elim (λ e. ap (λ x. chain_end next r 255 (head x)) e ∙ last.ended) (λ ne. before.ended b low (omega arith)) (cases_eq b (suc n));
      adds = last.adds ∙ ap (λ xs. xs ++ chain next r 255 (head (suc n))) before.adds;
      once = last.once;
    }

-- no refusal came first
passed : {X : Type 0} (number : ℕ) (o : Option ℕ) (a : Reply X) (x : X) → unless number o a ≡ answers x → (o ≡ None) × (a ≡ answers x)
passed number None a x h = (refl, h)
passed number (Some place) a x h = absurd (refused-not h)

pub opens_whole : (bytes : List ℕ) → OpensWhole bytes
opens_whole bytes tells h =
    let base = base_of bytes in
    let next = next_in bytes base in
    let r = records bytes in
    ⊎_elim
    (λ good.
    let parts = first_answers (follow_all (head_of bytes) next r (bridges bytes)) _ tells good.1 in
    let all = all_followed (head_of bytes) next r (bridges bytes) parts.0 parts.1 in
    let met = passed 14 (lowest (λ i. not (among parts.0 i)) r) _ tells parts.2 in
    let right = passed 15 (lowest (λ i. wrong_slots (stored_at bytes base i).slots) r) _ tells met.1 in
    record {
      ended = all.ended;
      each = λ i low high. subst (In i) all.adds (among_in parts.0 i (not-false (among parts.0 i) (lowest_none (λ i. not (among parts.0 i)) r met.0 i low high)));
      once = subst Distinct all.adds all.once;
      slots = lowest_none (λ i. wrong_slots (stored_at bytes base i).slots) r right.0;
    })
    (λ bad. absurd (refused-not bad.1))
    (by_cond (well_shaped bytes) h)
