-- Turn on the book in memory and on the plain book answers alike. Assumes nothing.
use Rattle.std.proofs.Common.{◌≡◌, ℕ, cond, ◌&&◌, leb, List, length, ap, ◌∙◌}
use mathlib.Core.Option.{Option}
use Rattle.theory.specs.Turning.{Turn}
use Rattle.grade.specs.Told.{Reply, refused, unless_refused}
use Rattle.book.specs.Memory.{Memory}
use Rattle.book.specs.Admission.{admission}
use Rattle.standing.specs.Standing.{standing}
use Rattle.plain.specs.Plain.{Plain, Agrees}
use Rattle.plain.proofs.Same.{admission_same}
use Rattle.turn.specs.Doubling.{none_fixed}
use Rattle.turn.specs.Outcomes.{shown, turned_round, turn_admission, turning_round}
use Rattle.planner.specs.Plain.{plain_route_admission, plain_turning}
use Rattle.planner.proofs.Same.{alike}

module _ {G : Type 0} (slots : G → ℕ) (m : Memory G) (p : Plain G) (a : Agrees m p) (work x z : ℕ) (bridges turned : List ℕ) where
  over_same : turned_round slots (standing m) m.head.bridges x z bridges turned ≡ turned_round slots p.lines p.bridges x z bridges turned
  over_same =
      ap (λ (k : ℕ). turned_round slots (standing m) k x z bridges turned) a.bridges
      ∙ ap (λ (t : Option Turn). shown t bridges turned) ((alike m p a).turns slots none_fixed x z)

  checks_same : turn_admission m work (length bridges) (length turned) x z ≡ plain_route_admission p work (length bridges) (length turned) x z
  checks_same =
      ap (λ (k : ℕ). cond (leb k (length bridges) && leb k (length turned)) (admission m work x z) (refused 2)) a.bridges
      ∙ ap (λ (r : Reply (Unit {0})). cond (leb p.bridges (length bridges) && leb p.bridges (length turned)) r (refused 2)) (admission_same m p a work x z)

  pub turning_same : turning_round slots m work x z bridges turned ≡ plain_turning slots p work x z bridges turned
  turning_same =
      ap (λ (r : Reply (Unit {0})). unless_refused r (bridges, turned) (turned_round slots (standing m) m.head.bridges x z bridges turned)) checks_same
      ∙ ap (unless_refused (plain_route_admission p work (length bridges) (length turned) x z) (bridges, turned)) over_same
