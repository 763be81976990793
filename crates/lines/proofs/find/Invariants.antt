use Rattle.book.specs.Lawful.{fars, nexts}
use Rattle.lines.proofs.Seeks.{Seeking}
use Rattle.lines.proofs.find.Given as goal

abbrev pub invariant-loop-step : goal.invariant-loop-step
invariant-loop-step g l = Seeking (nexts l.lines) (fars l.lines) l.far l.start l._step l.slot l.before
