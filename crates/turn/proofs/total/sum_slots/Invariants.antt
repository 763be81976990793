use Rattle.std.proofs.Common.{◌≡◌, take}
use Rattle.grade.specs.Kinds.{slots_of}
use Rattle.turn.specs.Loads.{load_of}
use Rattle.turn.proofs.total.sum_slots.Given as goal

abbrev pub invariant-loop-line : goal.invariant-loop-line
invariant-loop-line l = l.sum ≡ load_of slots_of (take l.line-index l.lines)
