use Rattle.std.proofs.Common.{◌≡◌, ◌+◌, ◌++◌, take, drop}
use Rattle.book.specs.Opening.{freed}
use Rattle.book.proofs.opening.free_all.Given as goal

-- the slots before i are done, and to free the rest gives what is wanted
abbrev pub invariant-loop-i : goal.invariant-loop-i
invariant-loop-i g l = take l.i l.lines ++ freed (l.i + 1) (drop l.i l.lines) ≡ freed 1 l.initial.lines
