use Rattle.std.proofs.Common.{◌*◌, ◌≤◌}
use Rattle.book.specs.Checks.{book_of}
use Rattle.book.proofs.Orders.{Progress}
use Rattle.book.proofs.tables.Tables.slots_in_order.Given as goal

abbrev pub invariant-loop-b : goal.invariant-loop-b
invariant-loop-b g l = (l.standing ≤ 1024 * l.b) × Progress (book_of l.self) l.b l.marks l.standing
