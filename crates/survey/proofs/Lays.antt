-- Lines laid one after another keep a book in memory and a plain book in agreement. Assumes nothing.
use Rattle.std.proofs.Common.{◌≡◌, ℕ, ◌+◌, ◌≤◌, false, cond, not, ◌&&◌, ◌||◌, eqb, List, [], ◌∷◌, ◌++◌, length, sym, refl, ap, ◌∙◌, subst, inl, inr, ⊎_elim, arith, length-append}
use mathlib.Core.Option.{none, some}
use Rattle.std.proofs.lemmas.List.{length-map}
use Rattle.std.proofs.lemmas.Bool.{cases_eq, cases_Bool, eq-eqb, ne_eqb, eqb-false, and_left, and_right, or_parts, cond-true, cond-false}
use Rattle.theory.specs.Arcs.{Arc, line}
use Rattle.theory.specs.Chains.{chain}
use Rattle.theory.specs.Lists.{Distinct, In}
use Rattle.book.specs.Memory.{Memory}
use Rattle.book.specs.Admission.{is_bridge}
use Rattle.lines.specs.Calls.{with_line}
use Rattle.plain.specs.Plain.{Plain, Agrees, lay_free}
use Rattle.plain.proofs.Lays.{line_agrees}
use Rattle.theory.specs.Lists.{among}
use Rattle.field.specs.Meaning.{Told, Entry, entries}
use Rattle.survey.specs.Walk.{FoundLine, lines_from, RightList, recorded}
use Rattle.survey.specs.Recording.{lay_all}
use Rattle.survey.specs.Plain.{plain_lay, plain_lay_all}
use Rattle.survey.specs.Laying.{CanLay, CanLayAll, CanLayLists}
use Rattle.survey.proofs.Walks.{right_far}

first_of : (free : List ℕ) → 1 ≤ length free → (s : ℕ) × (rest : List ℕ) × (free ≡ s ∷ rest)
first_of [] h = absurd (omega arith)
first_of (s ∷ rest) h = (s, rest, refl)

module _ {G : Type 0} where
  -- a plain book with a line more, by the number that the line gets
  abbrev pub with_number : Plain G → FoundLine G → ℕ → List ℕ → Plain G
  with_number p l s rest =
      record { bridges = p.bridges; slots = p.slots; free = rest; lines = p.lines ++ (record { number = s; near = l.near; far = l.far; grade = l.grade } ∷ []) }

  pub plain_lay_is : (p : Plain G) (l : FoundLine G) (c : CanLay p l) → plain_lay p l ≡ with_number p l c.slot c.rest
  plain_lay_is p l c = ap (λ (free : List ℕ). (lay_free p l.near l.far l.grade free).1) c.free

  -- one line
  pub one_agrees : (m : Memory G) (p : Plain G) (l : FoundLine G) → Agrees m p → CanLay p l → Agrees (with_line m l.near l.far l.grade) (plain_lay p l)
  one_agrees m p l a c =
      subst (Agrees (with_line m l.near l.far l.grade)) (sym (plain_lay_is p l c))
      (line_agrees m p a l.near l.far l.grade c.slot c.rest c.free c.ends c.no_line)

  pub all_agree : (m : Memory G) (p : Plain G) (ls : List (FoundLine G)) → Agrees m p → CanLayAll p ls → Agrees (lay_all m ls) (plain_lay_all p ls)
  all_agree m p [] a c = a
  all_agree m p (l ∷ ls) a c = all_agree (with_line m l.near l.far l.grade) (plain_lay p l) ls (one_agrees m p l a c.0) c.1

  pub lay_append : (m : Memory G) (xs ys : List (FoundLine G)) → lay_all m (xs ++ ys) ≡ lay_all (lay_all m xs) ys
  lay_append m [] ys = refl
  lay_append m (x ∷ xs) ys = lay_append (with_line m x.near x.far x.grade) xs ys

  can-append : (p : Plain G) (xs ys : List (FoundLine G)) → CanLayAll p xs → CanLayAll (plain_lay_all p xs) ys → CanLayAll p (xs ++ ys)
  can-append p [] ys a b = b
  can-append p (x ∷ xs) ys a b = (a.0, can-append (plain_lay p x) xs ys a.1 b)

  -- lists that can be laid one after another are lines that can
  pub can-recorded : (tells : ℕ → Told G) (p : Plain G) (order : List ℕ) → CanLayLists tells p order → CanLayAll p (recorded tells order)
  can-recorded tells p [] c = tt
  can-recorded tells p (b ∷ bs) c = can-append p (lines_from b (entries (tells b))) (recorded tells bs) c.1 (can-recorded tells (plain_lay_all p (lines_from b (entries (tells b)))) bs c.2)

  -- a bridge with no line has none to any bridge
  no_lines : (b f : ℕ) (es : List (Arc G)) → chain es b ≡ [] → line es b f ≡ none
  no_lines b f [] h = refl
  no_lines b f (e ∷ es) h =
      let test = eqb e.near b && eqb e.far f in
      ⊎_elim
      (λ same. absurd (some_lines (sym (cond-true (eqb e.near b) (e ∷ chain es b) (chain es b) (eq-eqb _ _ same)) ∙ h)))
      (λ other.
      let t = ne_eqb e.near b other in
      cond-false test (some e) (line es b f) (and_left (eqb e.near b) (eqb e.far f) t)
      ∙ no_lines b f es (sym (cond-false (eqb e.near b) (e ∷ chain es b) (chain es b) t) ∙ h))
      (cases_eq e.near b)
    where
      some_lines : {x : Arc G} {xs : List (Arc G)} → x ∷ xs ≡ [] → ⊥
      some_lines q = let z : ◌≡◌ {A = ℕ} 0 1 = cc in omega arith

  -- another line does not make one stand
  line_push : (near f : ℕ) (x : Arc G) (es : List (Arc G)) → line es near f ≡ none → (x.far ≡ f → ⊥) → line (es ++ (x ∷ [])) near f ≡ none
  line_push near f x [] h ne = cond-false (eqb x.near near && eqb x.far f) (some x) none (and_right (eqb x.near near) (eqb x.far f) (ne_eqb x.far f ne))
  line_push near f x (e ∷ es) h ne =
      let test = eqb e.near near && eqb e.far f in
      ⊎_elim
      (λ t. absurd (some_line (sym (cond-true test (some e) (line es near f) t) ∙ h)))
      (λ t. cond-false test (some e) (line (es ++ (x ∷ [])) near f) t ∙ line_push near f x es (sym (cond-false test (some e) (line es near f) t) ∙ h) ne)
      (cases_Bool test)
    where
      some_line : some e ≡ none → ⊥
      some_line q = let z : ◌≡◌ {A = ℕ} 0 1 = cc in omega arith

  -- the lines of another bridge stay
  lines_push : (b : ℕ) (x : Arc G) (es : List (Arc G)) → (x.near ≡ b → ⊥) → chain (es ++ (x ∷ [])) b ≡ chain es b
  lines_push b x [] ne = cond-false (eqb x.near b) (x ∷ []) [] (ne_eqb x.near b ne)
  lines_push b x (e ∷ es) ne = ap (λ (zs : List (Arc G)). cond (eqb e.near b) (e ∷ zs) zs) (lines_push b x es ne)

  -- the far bridges of a list are apart, so that all its lines can be laid
  can_list : (p : Plain G) (near : ℕ) (before : List ℕ) (es : List (Entry G)) → 1 ≤ near → near ≤ p.bridges → RightList p.bridges near before es
      → length es ≤ length p.free → ((f : ℕ) → among before f ≡ false → line p.lines near f ≡ none) → CanLayAll p (lines_from near es)
  can_list p near before [] low high right room clear = tt
  can_list p near before (e ∷ es) low high right room clear =
      let l : FoundLine G = record { near = near; far = e.far; grade = e.grade } in
      let next = first_of p.free (omega arith) in
      let within = right_far p.bridges near before e.far right.0 in
      let parts = or_parts (eqb e.far near) (among before e.far) (or_parts (not (is_bridge p.bridges e.far)) (eqb e.far near || among before e.far) right.0).1 in
      let can : CanLay p l = record {
        ends = record { near_from = low; near_to = high; far_from = within.0; far_to = within.1; differ = λ same. eqb-false e.far near parts.0 (sym same) };
        no_line = clear e.far parts.1;
        slot = next.0;
        rest = next.1;
        free = next.2;
      } in
      let few = ap length next.2 in
      let later = can_list (with_number p l next.0 next.1) near (e.far ∷ before) es low high right.1 (omega arith)
      (λ f out. let apart = or_parts (eqb e.far f) (among before f) out in
      line_push near f (record { number = next.0; near = near; far = e.far; grade = e.grade }) p.lines (clear f apart.1) (eqb-false e.far f apart.0)) in
      (can, subst (λ (x : Plain G). CanLayAll x (lines_from near es)) (sym (plain_lay_is p l can)) later)

  -- what a list that was laid leaves of the plain book
  pub record Left (p q : Plain G) (near count : ℕ) : Type 0 where
    pub bridges : q.bridges ≡ p.bridges
    pub free : length q.free + count ≡ length p.free
    pub others : (b : ℕ) → (near ≡ b → ⊥) → chain q.lines b ≡ chain p.lines b

  left_by : (p : Plain G) (near : ℕ) (es : List (Entry G)) → CanLayAll p (lines_from near es) → Left p (plain_lay_all p (lines_from near es)) near (length es)
  left_by p near [] c = record { bridges = refl; free = omega arith; others = λ b ne. refl }
  left_by p near (e ∷ es) c =
      let l : FoundLine G = record { near = near; far = e.far; grade = e.grade } in
      let one = plain_lay_is p l c.0 in
      let ih = left_by (plain_lay p l) near es c.1 in
      let free_one = ap (λ (x : Plain G). length x.free) one in
      let Free-was = ap length c.0.free in
      record {
        bridges = ih.bridges ∙ ap (λ (x : Plain G). x.bridges) one;
        free = omega (arith, ih.free);
        others = λ b ne. ih.others b ne ∙ ap (λ (x : Plain G). chain x.lines b) one
            ∙ lines_push b (record { number = c.0.slot; near = near; far = e.far; grade = e.grade }) p.lines ne;
      }

  -- the lists of bridges that are apart can be laid on a book in which they have no lines
  pub can_lists : (tells : ℕ → Told G) (n : ℕ) (p : Plain G) (order : List ℕ) → p.bridges ≡ n → Distinct order
      → ((b : ℕ) → In b order → (1 ≤ b) × (b ≤ n) × RightList n b [] (entries (tells b)))
      → length (recorded tells order) ≤ length p.free → ((b : ℕ) → In b order → chain p.lines b ≡ []) → CanLayLists tells p order
  can_lists tells n p [] size apart right room none_yet = tt
  can_lists tells n p (b ∷ bs) size apart right room none_yet =
      let es = entries (tells b) in
      let mine = right b (inl refl) in
      let empty = none_yet b (inl refl) in
      let sum = length-append (lines_from b es) (recorded tells bs) in
      let long : length (lines_from b es) ≡ length es = length-map es _ in
      let can = can_list p b [] es mine.0 (omega (arith, mine.1)) (subst (λ (k : ℕ). RightList k b [] es) (sym size) mine.2) (omega arith) (λ f out. no_lines b f p.lines empty) in
      let left = left_by p b es can in (
        (mine.0, omega (arith, mine.1), empty),
        can,
        can_lists tells n (plain_lay_all p (lines_from b es)) bs (left.bridges ∙ size) apart.1
            (λ x m. right x (inr m))
            (omega (arith, left.free))
            (λ x m. left.others x (λ same. apart.0 (subst (λ (y : ℕ). In y bs) (sym same) m)) ∙ none_yet x (inr m)),
      )
