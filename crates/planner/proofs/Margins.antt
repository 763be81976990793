-- Margins on the book in memory and on the plain book answer alike. Assumes nothing.
use Rattle.std.proofs.Common.{◌≡◌, ℕ, suc, ◌+◌, ◌*◌, Bool, cond, leb, List, [], ◌∷◌, length, refl, ap, ◌∙◌}
use Rattle.theory.specs.Arcs.{Arc, numbered}
use Rattle.theory.specs.Verdicts.{Verdict, no_route, outdone, accepted, margins_of}
use Rattle.grade.specs.Told.{Reply, answers, refused, unless_refused}
use Rattle.book.specs.Memory.{Memory}
use Rattle.book.specs.Lawful.{lawful}
use Rattle.standing.specs.Standing.{standing}
use Rattle.plain.specs.Plain.{Plain, Agrees}
use Rattle.plain.proofs.Agreement.{agrees_lawful}
use Rattle.margins.specs.declared.margin.Margin.{Margin}
use Rattle.margins.specs.Telling.{as_margin, record_at, placed, verdict_told}
use Rattle.margins.specs.Published.{margins_admission, margins_asked}
use Rattle.planner.specs.Plain.{plain_margins_admission, margins_over, plain_margins}
use Rattle.planner.proofs.Same.{alike}

module _ {G : Type 0} (xs ys : List (Arc G)) (same : (k : ℕ) → numbered xs k ≡ numbered ys k) where
  -- the same lines have the same places
  placed_same : (of : Arc G → Margin G) (k : ℕ) (out : List (Margin G)) → placed of xs k out ≡ placed of ys k out
  placed_same of k [] = refl
  placed_same of k (o ∷ out) =
      ap (λ e. record_at of e o ∷ placed of xs (suc k) out) (same k)
      ∙ ap (λ (rest : List (Margin G)). record_at of (numbered ys k) o ∷ rest) (placed_same of (suc k) out)

  told_same : (v : Verdict G) (out : List (Margin G)) → verdict_told v xs out ≡ verdict_told v ys out
  told_same no_route out = refl
  told_same outdone out = refl
  told_same (accepted of) out = ap (λ (rest : List (Margin G)). (answers tt, rest)) (placed_same (λ e. as_margin (of e)) 1 out)

module _ {G : Type 0} (le : G → G → Bool) (m : Memory G) (p : Plain G) (a : Agrees m p) where
  over_same : (ks : List ℕ) (out : List (Margin G)) → verdict_told (margins_of le m.head.bridges (standing m) ks) (standing m) out ≡ margins_over le p ks out
  over_same ks out =
      ap (λ (k : ℕ). verdict_told (margins_of le k (standing m) ks) (standing m) out) a.bridges
      ∙ ap (λ v. verdict_told v (standing m) out) ((alike m p a).margins le ks)
      ∙ told_same (standing m) p.lines (alike m p a).numbers (margins_of le p.bridges p.lines ks) out

  checks_same : (work records : ℕ) → margins_admission m work records ≡ plain_margins_admission p work records
  checks_same work records =
      let F : ℕ → ℕ → Bool → Reply (Unit {0}) = λ n slots law. cond (leb slots records) (cond (leb (8 * n + slots) work) (cond law (answers tt) (refused 1)) (refused 2)) (refused 2) in
      ap (λ (n : ℕ). F n m.head.slots (lawful m)) a.bridges ∙ ap (λ (k : ℕ). F p.bridges k (lawful m)) a.slots ∙ ap (F p.bridges p.slots) (agrees_lawful m p a)

  pub margins_same : (work : ℕ) (ks : List ℕ) (out : List (Margin G)) → margins_asked le m work ks out ≡ plain_margins le p work ks out
  margins_same work ks out =
      ap (λ (r : Reply (Unit {0})). unless_refused r out (verdict_told (margins_of le m.head.bridges (standing m) ks) (standing m) out)) (checks_same work (length out))
      ∙ ap (unless_refused (plain_margins_admission p work (length out)) out) (over_same ks out)
