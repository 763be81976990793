use Rattle.std.proofs.Common.{◌≡◌, ℕ}
use Rattle.theory.specs.Reach.{marks}
use Rattle.search.specs.Marks.{takens}
use Rattle.margins.specs.Facing.{faced}
use Rattle.margins.specs.Standing.{standing}
use Rattle.margins.proofs.reach.mark_reached.Given as goal

-- after so many rounds the marks are what is reached over at most so many lines
abbrev pub invariant-loop-round : goal.invariant-loop-round
invariant-loop-round g l = (b : ℕ) → takens l.marked b ≡ marks g.G.Grade.le (faced l.way (standing l.tables.lines.now)) l.bar l.from l._round b
