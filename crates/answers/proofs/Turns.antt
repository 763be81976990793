-- What turn writes lies within its memory. Assumes nothing.
use Rattle.std.proofs.Common.{◌≡◌, ℕ, ◌≤◌, List, ◌++◌, length, drop, sym, subst, arith, length-append}
use mathlib.Core.Option.{Option, none, some}
use Rattle.theory.specs.Turning.{Turn, as_slots, turning}
use Rattle.grade.specs.Told.{Reply, answers, refuses, unless_refused}
use Rattle.grade.specs.declared.slots.Slots.{Slots}
use Rattle.grade.specs.Kinds.{slots_of}
use Rattle.book.specs.Memory.{Memory}
use Rattle.standing.specs.Standing.{standing}
use Rattle.turn.specs.Doubling.{none_fixed}
use Rattle.turn.specs.Outcomes.{Outcome, shown, turned_round, turn_admission, turning_round}

abbrev Within : Outcome → Type 0
Within (answers (width, stops, count), (bridges, numbers)) = (stops ≤ length bridges) × (count ≤ length numbers)
Within (refuses r, after) = Unit {0}

front_shorter : (xs ys : List ℕ) → length xs ≤ length (xs ++ ys)
front_shorter xs ys = omega (arith, length-append xs ys)

within_told : (t : Option Turn) (bridges numbers : List ℕ) → Within (shown t bridges numbers)
within_told none bridges numbers = tt
within_told (some t) bridges numbers = (front_shorter t.bridges (drop (length t.bridges) bridges), front_shorter t.lines (drop (length t.lines) numbers))

within_unless : (check : Reply (Unit {0})) (bridges numbers : List ℕ) (call : Outcome) → Within call → Within (unless_refused check (bridges, numbers) call)
within_unless (answers x) bridges numbers call h = h
within_unless (refuses r) bridges numbers call h = tt

pub within : (m : Memory Slots) (work a z : ℕ) (bridges numbers : List ℕ) (after : Outcome) → after ≡ turning_round slots_of m work a z bridges numbers → Within after
within m work a z bridges numbers after e =
    subst Within (sym e)
    (within_unless (turn_admission m work (length bridges) (length numbers) a z) bridges numbers (turned_round slots_of (standing m) m.head.bridges a z bridges numbers)
    (within_told (turning m.head.bridges (as_slots slots_of (standing m)) none_fixed a z) bridges numbers))
