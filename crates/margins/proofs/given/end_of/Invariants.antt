use Rattle.std.proofs.Common.{◌≡◌, drop}
use Rattle.margins.specs.Standing.{standing}
use Rattle.margins.specs.Picking.{follow}
use Rattle.margins.proofs.given.end_of.Given as goal

-- the numbers that are left lead on from here to where all lead from the start
abbrev pub invariant-loop-at : goal.invariant-loop-at
invariant-loop-at g l = follow (standing l.lines) (drop l.at l.numbers) l.bridge ≡ follow (standing l.lines) l.numbers l.start
