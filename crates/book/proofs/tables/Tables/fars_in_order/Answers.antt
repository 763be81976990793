use Rattle.std.proofs.Common.{false, [], sym, arith}
use Rattle.book.specs.Chains.{slots_on}
use Rattle.book.specs.Lawful.{fars, chain_of, lead_apart}
use Rattle.book.specs.Checks.{book_of}
use Rattle.book.proofs.Counts.{each_false}
use Rattle.book.proofs.Orders.{read_taken}
use Rattle.book.proofs.Leads.{lead_test, whole_chains}
use Rattle.book.proofs.tables.Tables.fars_in_order.Goals as goal

pub leads_apart-requires-clause-whole : goal.leads_apart-requires-clause-whole
leads_apart-requires-clause-whole g c =
    let m = book_of c.args.self.now in
    let start = read_taken m.head.bridges c.loop-b.b m.first _ c.starts-start-items.ensures.each c.loop-b-test.true in
    rw start (whole_chains m c.requires.in_order c.loop-b.b (omega arith))

pub returns-then-not-leads_apart : goal.returns-then-not-leads_apart
returns-then-not-leads_apart g c =
    let m = book_of c.args.self.now in
    let start = read_taken m.head.bridges c.loop-b.b m.first _ c.starts-start-items.ensures.each c.loop-b-test.true in
    let astray = rw start at c.if-not-leads_apart.ensures.apart in
    sym (each_false (λ b. lead_apart (fars m.lines) m.head.bridges b [] (slots_on (chain_of m b))) m.head.bridges c.loop-b.b (omega arith) (lead_test m c.loop-b.b _ false (omega arith) astray))
