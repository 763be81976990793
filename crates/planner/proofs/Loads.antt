-- Load on the book in memory and on the plain book answers alike: a sum over lines does not depend on their order. Assumes nothing.
use Rattle.std.proofs.Common.{◌≡◌, ℕ, suc, ◌+◌, ◌*◌, Bool, true, false, cond, eqb, leb, List, [], ◌∷◌, sum_by, sym, refl, ap, ◌∙◌, inl, inr, arith, eq-eqb, ne_eqb}
use borrow.Author.Tests.{eqb-false}
use Rattle.std.proofs.lemmas.List.Sums.{sum_by-cons}
use Rattle.theory.specs.Lists.{In, Same}
use Rattle.theory.specs.Arcs.{Arc, AllApart, Lines}
use Rattle.theory.specs.Margins.{without}
use Rattle.theory.proofs.Lines.{apart_in}
use Rattle.theory.proofs.Regrading.{in_without, without_in}
use Rattle.theory.proofs.MarginEnds.{lines_without}
use Rattle.grade.specs.Told.{Reply, answers, refused}
use Rattle.book.specs.declared.memory.Line.{Line}
use Rattle.book.specs.Memory.{Memory}
use Rattle.book.specs.Lawful.{lawful}
use Rattle.book.specs.Admission.{book_admission}
use Rattle.standing.specs.Standing.{arc, standing_from, standing}
use Rattle.standing.proofs.Standing.{standing-told}
use Rattle.plain.specs.Plain.{Plain, Agrees}
use Rattle.plain.proofs.Agreement.{agrees_lawful}
use Rattle.turn.specs.Loads.{share, load_of, loaded, loading}
use Rattle.planner.specs.Plain.{plain_loading}
use Rattle.planner.proofs.Same.{same_lines}

module _ {G : Type 0} (slots : G → ℕ) where
  abbrev of : Arc G → ℕ
  of e = slots e.grade

  -- the records' shares are the standing lines' slots
  load_standing : (k : ℕ) (ls : List (Line G)) → load_of slots ls ≡ sum_by of (standing_from k ls)
  load_standing k [] = refl
  load_standing k (l ∷ ls) = sum_by-cons (share slots) l ls ∙ go (load_standing (suc k) ls) (eqb l.near 0)
    where
      go : load_of slots ls ≡ sum_by of (standing_from (suc k) ls) → (b : Bool) → cond b 0 (slots l.grade) + load_of slots ls ≡ sum_by of (cond b (standing_from (suc k) ls) (arc k l ∷ standing_from (suc k) ls))
      go rest true = omega arith
      go rest false = (let s = sum_by-cons of (arc k l) (standing_from (suc k) ls) in omega arith)

  -- a number that no line has leaves out none
  without_none : (ys : List (Arc G)) (k : ℕ) → ((x : Arc G) → In x ys → k ≡ x.number → ⊥) → without ys k ≡ ys
  without_none [] k none = refl
  without_none (y ∷ ys) k none =
      ap (λ t. cond t (without ys k) (y ∷ without ys k)) (ne_eqb y.number k (λ e. none y (inl refl) (sym e)))
      ∙ ap (λ (rest : List (Arc G)). y ∷ rest) (without_none ys k (λ x i. none x (inr i)))

  -- a line's slots and those of the others
  sum_taken : (ys : List (Arc G)) → AllApart ys → (e : Arc G) → In e ys → sum_by of ys ≡ of e + sum_by of (without ys e.number)
  sum_taken [] apart e i = absurd i
  sum_taken (y ∷ ys) apart e (inl s) =
      let number : e.number ≡ y.number = ap (λ (x : Arc G). x.number) s in
      let left : without (y ∷ ys) e.number ≡ ys =
      ap (λ t. cond t (without ys e.number) (y ∷ without ys e.number)) (eq-eqb y.number e.number (sym number))
      ∙ without_none ys e.number (λ x i same. (apart_in y ys apart.0 x i).0 (sym number ∙ same)) in
      sum_by-cons of y ys ∙ ap (λ (x : Arc G). of x + sum_by of ys) (sym s) ∙ ap (λ (rest : List (Arc G)). of e + sum_by of rest) (sym left)
  sum_taken (y ∷ ys) apart e (inr i) =
      let left : without (y ∷ ys) e.number ≡ y ∷ without ys e.number =
      ap (λ t. cond t (without ys e.number) (y ∷ without ys e.number)) (ne_eqb y.number e.number (apart_in y ys apart.0 e i).0) in
      let rest = sum_taken ys apart.1 e i in
      let whole = sum_by-cons of y ys in
      let others : sum_by of (without (y ∷ ys) e.number) ≡ of y + sum_by of (without ys e.number) = ap (sum_by of) left ∙ sum_by-cons of y (without ys e.number) in
      omega (arith, rest, whole, others)

  sum_alike : (n : ℕ) (xs ys : List (Arc G)) → AllApart xs → Lines n ys → Same xs ys → sum_by of xs ≡ sum_by of ys
  sum_alike n [] [] apart ls same = refl
  sum_alike n [] (y ∷ ys) apart ls same = absurd ((same y).1 (inl refl))
  sum_alike n (e ∷ xs) ys apart ls same =
      let here = (same e).0 (inl refl) in
      let k = e.number in
      let rest = sum_alike n xs (without ys k) apart.1 (lines_without n ys k ls) (λ x. (there x, back x)) in
      let taken = sum_taken ys ls.apart e here in
      let whole = sum_by-cons of e xs in
      omega (arith, rest, taken, whole)
    where
      there : (x : Arc G) → In x xs → In x (without ys e.number)
      there x i = without_in ys e.number x ((same x).0 (inr i)) (ne_eqb x.number e.number (λ s. (apart_in e xs apart.0 x i).0 (sym s)))

      back : (x : Arc G) → In x (without ys e.number) → In x xs
      back x i = let r = in_without ys e.number x i in by ((same x).1 r.0) (eqb-false x.number e.number r.1)
        where
          by : In x (e ∷ xs) → (x.number ≡ e.number → ⊥) → In x xs
          by (inl s) other = absurd (other (ap (λ (y : Arc G). y.number) s))
          by (inr i) other = i

  module _ (m : Memory G) (p : Plain G) (a : Agrees m p) where
    load_same : load_of slots m.lines ≡ sum_by of p.lines
    load_same = load_standing 1 m.lines ∙ sum_alike p.bridges (standing m) p.lines (standing-told m (agrees_lawful m p a)).apart a.sane (same_lines m p a)

    pub loading_same : (work : ℕ) → loading slots m work ≡ plain_loading slots p work
    loading_same work =
        let F : ℕ → ℕ → Bool → Reply (Unit {0}) = λ n slots law. cond (leb (8 * n + slots) work) (cond law (answers tt) (refused 1)) (refused 2) in
        let checks : book_admission m work ≡ F p.bridges p.slots true =
        ap (λ (n : ℕ). F n m.head.slots (lawful m)) a.bridges ∙ ap (λ (k : ℕ). F p.bridges k (lawful m)) a.slots ∙ ap (F p.bridges p.slots) (agrees_lawful m p a) in
        ap (λ (r : Reply (Unit {0})). loaded r (load_of slots m.lines)) checks ∙ ap (loaded (F p.bridges p.slots true)) load_same
