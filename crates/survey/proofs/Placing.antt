-- The steps by which a survey lays what it found. Assumes nothing.
use Rattle.std.proofs.Common.{◌≡◌, ℕ, zero, suc, ◌+◌, ◌-◌, ◌≤◌, true, ◌&&◌, eqb, leb, List, [], ◌∷◌, length, drop, Some, Ok, sym, refl, ap, ◌∙◌, subst, arith}
use Rattle.std.proofs.lemmas.List.{length-map}
use Rattle.std.proofs.lemmas.Bool.{and_parts, eqb-true, leb-true, le-leb, cond-true}
use Rattle.grade.specs.Told.{answers}
use Rattle.book.specs.Memory.{Memory}
use Rattle.book.specs.Opening.{fresh, within_limits}
use Rattle.book.specs.Chains.{slots_on}
use Rattle.book.specs.Lawful.{chain_of, fits_tables, slots_in_order, fars_in_order, lawful}
use Rattle.lines.specs.Calls.{last_of, placed_behind, with_line}
use Rattle.plain.specs.Plain.{Plain, Agrees, count_from, new_book}
use Rattle.plain.proofs.Agreement.{agrees_lawful}
use Rattle.book.proofs.Sizes.{sound}
use Rattle.plain.proofs.Opened.{opened}
use Rattle.plain.proofs.Lays.{free_is, last_is}
use Rattle.field.specs.Meaning.{Told, Entry, listing, entries, far_of, far_at, grade_of, grade_at}
use Rattle.survey.specs.Walk.{Progress, walked, FoundLine, lines_from, RightList, recorded}
use Rattle.survey.specs.Recording.{lay_all}
use Rattle.survey.specs.Plain.{plain_lay, plain_lay_all}
use Rattle.survey.specs.Laying.{CanLay, CanLayLists, ReadyLists, ReadyRest}
use Rattle.survey.proofs.Reading.{length_listed, line_of-entries, line_at-place}
use Rattle.survey.proofs.Walks.{walks_all}
use Rattle.survey.proofs.Lays.{plain_lay_is, one_agrees, all_agree, lay_append, can_lists}

-- the k-th line, by the answers to both questions
pub next-told : {G : Type 0} (t : Told G) (m k far : ℕ) (grade : G) → listing t ≡ Ok m → 1 ≤ k → k ≤ m → Some far ≡ far_at t k → Some grade ≡ grade_at t k
    → drop (k - 1) (entries t) ≡ record { far = far; grade = grade } ∷ drop (k + 1 - 1) (entries t)
next-told {G} t m k far grade h low high is-far is-grade =
    let long = length_listed t m h in
    let e = line_at-place (entries t) k low (omega arith) in
    let far_is : far_at t k ≡ Some e.0.far = ap far_of (line_of-entries t k ∙ e.1) in
    let grade_is : grade_at t k ≡ Some e.0.grade = ap grade_of (line_of-entries t k ∙ e.1) in
    let same_far : e.0.far ≡ far = cc in
    let same_grade : e.0.grade ≡ grade = cc in
    let entry : ℕ → G → Entry G = λ f g. record { far = f; grade = g } in
    let at : k ≡ k + 1 - 1 = omega arith in
    e.2 ∙ ap (λ (f : ℕ). entry f e.0.grade ∷ drop k (entries t)) same_far ∙ ap (λ (g : G). entry far g ∷ drop k (entries t)) same_grade
    ∙ ap (λ (j : ℕ). entry far grade ∷ drop j (entries t)) at

module _ {G : Type 0} (m : Memory G) (near last far : ℕ) (grade : G) (rest : List (Entry G)) (ready : ReadyRest m near last (record { far = far; grade = grade } ∷ rest)) where
  abbrev l : FoundLine G
  l = record { near = near; far = far; grade = grade }

  abbrev p : Plain G
  p = ready.0

  abbrev a : Agrees m p
  a = ready.1

  abbrev can : CanLay p l
  can = ready.4.0

  free_slot : (m.head.free ≡ can.slot) × (1 ≤ can.slot) × (can.slot ≤ length m.lines)
  free_slot =
      let f = free_is m p a near far grade can.slot can.rest can.free can.ends can.no_line in
      (f.0, f.1, omega (arith, f.2, length-map m.lines (λ x. x.next)))

  -- what laying the next line leans on
  pub can_place : (1 ≤ near) × (near ≤ length m.first) × (1 ≤ m.head.free) × (m.head.free ≤ length m.lines) × (last ≤ length m.lines) × (m.head.standing ≤ 1024)
  can_place =
      let s = sound m (agrees_lawful m p a) in
      (can.ends.near_from, omega (arith, can.ends.near_to, a.room), omega (arith, free_slot.0, free_slot.1), omega (arith, free_slot.0, free_slot.2), ready.2, omega (arith, s.counted, s.long, s.few_slots))

  -- the book after it
  pub placed : (m' : Memory G) (slot : ℕ) → slot ≡ m.head.free → m' ≡ placed_behind m near far grade last
      → ReadyRest m' near slot rest × (lay_all m' (lines_from near rest) ≡ lay_all m (lines_from near (record { far = far; grade = grade } ∷ rest)))
  placed m' slot is after =
      let made : m' ≡ with_line m near far grade = after ∙ ap (placed_behind m near far grade) (sym ready.3) in
      let agrees = one_agrees m p l a can in
      let same-slots = ap (λ (x : Plain G). x.slots) (plain_lay_is p l can) in
      let long : slot ≤ length (with_line m near far grade).lines = omega (arith, agrees.long, same-slots, a.long, free_slot.0, free_slot.2) in
      let end : last_of 0 (slots_on (chain_of (with_line m near far grade) near)) ≡ slot =
      last_is m p a near far grade can.slot can.rest can.free can.ends can.no_line ∙ sym (is ∙ free_slot.0) in
      (subst (λ (x : Memory G). ReadyRest x near slot rest) (sym made) (plain_lay p l, agrees, long, end, ready.4.1), ap (λ (x : Memory G). lay_all x (lines_from near rest)) made)

module _ {G : Type 0} (tells : ℕ → Told G) (m : Memory G) (b : ℕ) (bs : List ℕ) (ready : ReadyLists tells m (b ∷ bs)) where
  -- the book after the list of one bridge
  pub list_laid : (m' : Memory G) → m' ≡ lay_all m (lines_from b (entries (tells b))) → ReadyLists tells m' bs × (lay_all m' (recorded tells bs) ≡ lay_all m (recorded tells (b ∷ bs)))
  list_laid m' after =
      let es = lines_from b (entries (tells b)) in (
        subst (λ (x : Memory G). ReadyLists tells x bs) (sym after) (plain_lay_all ready.0 es, all_agree m ready.0 es ready.1 ready.2.1, ready.2.2),
        ap (λ (x : Memory G). lay_all x (recorded tells bs)) after ∙ sym (lay_append m es (recorded tells bs)),
      )

length_count : (i r : ℕ) → length (count_from i r) ≡ r
length_count i zero = refl
length_count i (suc r) = ap suc (length_count (i + 1) r)

module _ {G : Type 0} (m : Memory G) (law : lawful m ≡ true) where
  abbrev n : ℕ
  n = m.head.bridges

  abbrev size : ℕ
  size = length m.lines

  -- what a lawful book's head keeps
  pub kept : (within_limits n size ≡ true) × (n ≤ length m.first) × (m.head.slots ≡ size) × (size ≤ 1024)
  kept =
      let fits = (and_parts (fits_tables m) (slots_in_order m && fars_in_order m) law).0 in
      let parts = and_parts (within_limits n m.head.slots) (eqb m.head.slots size && leb n (length m.first)) fits in
      let tables = and_parts (eqb m.head.slots size) (leb n (length m.first)) parts.1 in
      let same = eqb-true m.head.slots size tables.0 in
      let s = sound m law in
      (subst (λ (k : ℕ). within_limits n k ≡ true) same parts.0, leb-true n (length m.first) tables.1, same, omega (arith, s.long, s.few_slots))

  -- an emptied book agrees with a new plain one
  pub fresh_agrees : Agrees (fresh n m) (new_book n size)
  fresh_agrees =
      opened n m (fresh n m) (sym (cond-true (within_limits n size) _ _ kept.0 ∙ cond-true (leb n (length m.first)) _ _ (le-leb n (length m.first) kept.1)))

  module _ (tells : ℕ → Told G) (start : ℕ) (low : 1 ≤ start) (high : start ≤ n) where
    -- what a walk found can be laid on it
    pub found-can : (w : Progress) → walked tells n m.head.slots start ≡ answers w → CanLayLists tells (new_book n size) w.found
    found-can w h =
        let all = walks_all tells n m.head.slots start low high w h in
        let done = all.0 in
        let many = length_count 1 size in
        can_lists tells n (new_book n size) w.found refl done.once
        (λ b i. let range = done.within b i in let lists = done.lists b i in (range.0, range.1, subst (λ (t : Told G). RightList n b [] (entries t)) (sym lists.1) lists.2))
        (omega (arith, all.1, all.2, kept.2)) (λ b i. refl)

    pub found_ready : (w : Progress) → walked tells n m.head.slots start ≡ answers w → ReadyLists tells (fresh n m) w.found
    found_ready w h = (new_book n size, fresh_agrees, found-can w h)
