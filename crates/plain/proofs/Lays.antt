-- One line more, on both books. Assumes nothing.
use Rattle.std.proofs.Common.{◌≡◌, ℕ, ◌+◌, ◌*◌, ◌≤◌, leb, List, [], ◌∷◌, ◌++◌, length, sym, refl, ap, ◌∙◌, subst, arith}
use mathlib.Core.Option.{Option, none, some}
use Rattle.std.proofs.lemmas.Bool.{le-leb, ne_eqb, cond-true, cond-false, and_from}
use Rattle.theory.specs.Arcs.{Arc, line}
use Rattle.theory.specs.Chains.{chain}
use Rattle.grade.specs.Told.{Reply, answers, unless_refused}
use Rattle.book.specs.Memory.{Memory}
use Rattle.book.specs.Chains.{slots_on}
use Rattle.book.specs.Lawful.{nexts, chain_of}
use Rattle.book.specs.Admission.{is_bridge}
use Rattle.lines.specs.Calls.{last_of, with_line, line_of}
use Rattle.plain.specs.Plain.{Plain, Agrees, plain_admission, lay_free, lay_unless, plain_laying}
use Rattle.theory.specs.Arcs.{numbers}
use Rattle.plain.proofs.Links.{linked_from}
use Rattle.plain.proofs.Laid.{numbered, of_near}
use Rattle.lines.proofs.Edits.{lay_done}
use Rattle.plain.proofs.Agreement.{Joined}
use Rattle.plain.proofs.Same.{admission_same, found, laying_alike}

last_push : (d s : ℕ) (xs : List ℕ) → last_of d (xs ++ (s ∷ [])) ≡ s
last_push d s [] = refl
last_push d s (x ∷ xs) = last_push x s xs

module _ {G : Type 0} (m : Memory G) (p : Plain G) (a : Agrees m p) (near far : ℕ) (grade : G) (s : ℕ) (rest : List ℕ) (is : p.free ≡ s ∷ rest)
    (joined : Joined {G = G} p.bridges (record { number = s; near = near; far = far; grade = grade })) (no_line : line p.lines near far ≡ none) where
  abbrev new : Arc G
  new = record { number = s; near = near; far = far; grade = grade }

  abbrev more : Plain G
  more = record { bridges = p.bridges; slots = p.slots; free = rest; lines = p.lines ++ (new ∷ []) }

  abbrev work : ℕ
  work = 8 * p.bridges + p.slots

  pass : plain_admission p work near far ≡ answers tt
  pass =
      let n = p.bridges in
      let near-in = and_from (leb 1 near) (leb near n) (le-leb 1 near joined.near_from) (le-leb near n joined.near_to) in
      let far_in = and_from (leb 1 far) (leb far n) (le-leb 1 far joined.far_from) (le-leb far n joined.far_to) in
      cond-true _ _ _ (le-leb work work (omega arith))
      ∙ cond-true _ _ _ (and_from (is_bridge n near) (is_bridge n far) near-in far_in)
      ∙ cond-false _ _ _ (ne_eqb near far joined.differ)

  -- the first free slot is the first free number
  pub free_is : (m.head.free ≡ s) × (1 ≤ s) × (s ≤ length (nexts m.lines))
  free_is =
      let links = (linked_from (nexts m.lines) (length (nexts m.lines)) m.head.free (s ∷ rest) (a.free ∙ ap some is)).0 in
      (links.0, links.1, links.2)

  -- both books have the line
  pub line_agrees : Agrees (with_line m near far grade) more
  line_agrees =
      let both = laying_alike m p a work near far grade in
      let nothing : line_of m near far ≡ 0 = found m p a work near far pass ∙ ap numbered no_line in
      let some-free : m.head.free ≡ 0 → ⊥ = λ z. omega (arith, free_is.0, free_is.1) in
      let x-is = lay_done m work near far grade (sym (admission_same m p a work near far ∙ pass)) nothing some-free in
      let y-is : plain_laying p work near far grade ≡ (answers s, more) =
      ap (λ (r : Reply (Unit {0})). unless_refused r p (lay_unless p near far grade (line p.lines near far))) pass ∙ ap (lay_unless p near far grade) no_line ∙ ap (lay_free p near far grade) is in
      subst (λ (q : Plain G). Agrees (with_line m near far grade) q) (ap (λ (z : Reply ℕ × Plain G). z.1) y-is)
      (subst (λ (q : Memory G). Agrees q (plain_laying p work near far grade).1) (sym (ap (λ (z : Reply ℕ × Memory G). z.1) x-is)) both.1)

  -- and its slot is the last of its bridge's chain
  pub last_is : last_of 0 (slots_on (chain_of (with_line m near far grade) near)) ≡ s
  last_is =
      ap (λ (o : Option (List ℕ)). last_of 0 (slots_on o)) (line_agrees.chains near joined.near_from joined.near_to)
      ∙ ap (last_of 0) (of_near m p a s rest is near far grade joined no_line)
      ∙ last_push 0 s (numbers (chain p.lines near))
