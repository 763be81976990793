use Rattle.book.specs.Lawful.{fars, nexts}
use Rattle.std.proofs.Common.{length}
use Rattle.book.proofs.Leads.{Leading}
use Rattle.book.proofs.lawful.leads_apart.Given as goal

abbrev pub invariant-loop-step : goal.invariant-loop-step
invariant-loop-step g l = Leading (nexts l.lines) (fars l.lines) (length l.initial.seen) l.bridge l.start l.seen l._step l.slot
