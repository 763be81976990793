use Rattle.std.proofs.Common.{◌≡◌, drop, None}
use Rattle.search.specs.Chains.{omitting}
use Rattle.margins.specs.Standing.{standing}
use Rattle.margins.specs.Picking.{picked, lowest_with}
use Rattle.margins.proofs.given.lowest_but.Given as goal

-- the numbers that are left make of the grade so far what all make of none
abbrev pub invariant-loop-number : goal.invariant-loop-number
invariant-loop-number g l = lowest_with g.G.Grade.le l.lowest (omitting l.skip (picked (standing l.lines) (drop l.number-index l.numbers))) ≡ lowest_with g.G.Grade.le None (omitting l.skip (picked (standing l.lines) l.numbers))
