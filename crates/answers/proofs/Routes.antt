-- A route's line numbers lie within their memory. Assumes nothing.
use Rattle.std.proofs.Common.{◌≡◌, ℕ, ◌≤◌, List, ◌++◌, length, sym, subst, arith, length-append}
use mathlib.Core.Option.{Option, none, some}
use Rattle.theory.specs.Widest.{Wide, widest, side}
use Rattle.grade.specs.Told.{Reply, answers, refuses, unless_refused}
use Rattle.grade.specs.declared.slots.Slots.{Slots}
use Rattle.grade.specs.Kinds.{slots_le}
use Rattle.book.specs.Memory.{Memory}
use Rattle.standing.specs.Standing.{standing}
use Rattle.route.specs.Outcomes.{written, bytes}
use Rattle.route.specs.Routing.{Routed, reply_of, routed_over, route_admission, routing}

abbrev Within : Routed Slots → Type 0
Within (answers found, (row, side)) = found.length ≤ length row
Within (refuses r, after) = Unit {0}

front_shorter : (xs ys : List ℕ) → length xs ≤ length (xs ++ ys)
front_shorter xs ys = omega (arith, length-append xs ys)

within_told : (w : Option (Wide Slots)) (row side : List ℕ) → Within (reply_of w, (written w row, side))
within_told none row side = tt
within_told (some r) row side = front_shorter _ _

within_unless : (check : Reply (Unit {0})) (row side : List ℕ) (call : Routed Slots) → Within call → Within (unless_refused check (row, side) call)
within_unless (answers x) row side call h = h
within_unless (refuses r) row side call h = tt

pub within : (m : Memory Slots) (work a z : ℕ) (row side : List ℕ) (after : Routed Slots) → after ≡ routing slots_le m work a z row side → Within after
within m work a z row side' after e =
    let n = m.head.bridges in
    subst Within (sym e)
    (within_unless (route_admission m work (length row) (length side') a z) row side' (routed_over slots_le (standing m) n a z row side')
    (within_told (widest slots_le (standing m) n a z) row (bytes n (side slots_le (standing m) n a z) side')))
