use Rattle.std.proofs.Common.{◌≡◌, ◌+◌, true, []}
use Rattle.book.specs.Chains.{each_upto, slots_on}
use Rattle.book.specs.Lawful.{fars, chain_of, lead_apart}
use Rattle.book.specs.Checks.{book_of, Below}
use Rattle.book.proofs.tables.Tables.fars_in_order.Given as goal

abbrev pub invariant-loop-b : goal.invariant-loop-b
invariant-loop-b g l =
    let m = book_of l.self in
    (each_upto (λ b. lead_apart (fars m.lines) m.head.bridges b [] (slots_on (chain_of m b))) l.b ≡ true) × Below l.seen (l.b + 1)
