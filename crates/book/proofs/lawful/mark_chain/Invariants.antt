use Rattle.book.specs.Lawful.{nears, nexts}
use Rattle.book.proofs.Walks.{OnTheWay}
use Rattle.book.proofs.lawful.mark_chain.Given as goal

abbrev pub invariant-loop-met : goal.invariant-loop-met
invariant-loop-met g l = OnTheWay (nexts l.lines) (nears l.lines) l.owner l.start l.initial.marks l.marks l.met l.slot
