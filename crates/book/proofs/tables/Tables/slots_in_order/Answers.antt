use Rattle.std.proofs.Common.{◌≡◌, ℕ, List, sym, ◌∙◌, subst, arith}
use Rattle.book.specs.Memory.{Memory}
use Rattle.book.specs.Checks.{book_of}
use Rattle.book.proofs.Orders.{Progress, read_taken, progress-more, progress_fails, free_fails, free_passes}
use Rattle.book.proofs.tables.Tables.slots_in_order.Goals as goal

pub returns-in-None : goal.returns-in-None
returns-in-None g c =
    let m = book_of c.args.self.now in
    let start = read_taken m.head.bridges c.loop-b.b m.first _ c.starts-start-items.ensures.each c.loop-b-test.true in
    sym (progress_fails m _ _ _ c.loop-b.invariant.1 c.mark_chain.new.marks (omega arith) (rw start at c.in-None.ensures.walked))

pub loop-b-preserved : goal.loop-b-preserved
loop-b-preserved g c =
    let m = book_of c.args.self.now in
    let start = read_taken m.head.bridges c.loop-b.b m.first _ c.starts-start-items.ensures.each c.loop-b-test.true in
    (omega (arith, c.in-Some.ensures.few), progress-more m _ _ _ c.loop-b.invariant.1 _ _ (rw start at c.in-Some.ensures.walked))

-- every bridge is in order
done : (b : ℕ) {G : Type 0} (m : Memory G) (marks : List ℕ) (standing : ℕ) → b ≡ m.head.bridges → Progress m b marks standing → Progress m m.head.bridges marks standing
done b m marks standing e p = subst (λ (k : ℕ). Progress m k marks standing) e p

pub returns-in-Some-mark_chain : goal.returns-in-Some-mark_chain
returns-in-Some-mark_chain g c =
    let m = book_of c.args.self.now in
    let all = done c.loop-b.b m _ _ (omega arith) c.loop-b.invariant.1 in
    c.all_marked.ensures ∙ free_passes m _ _ all c.mark_chain-2.new.marks _ (omega arith) (omega arith) c.in-Some-mark_chain.ensures.walked

pub returns-in-None-mark_chain : goal.returns-in-None-mark_chain
returns-in-None-mark_chain g c =
    let m = book_of c.args.self.now in
    let all = done c.loop-b.b m _ _ (omega arith) c.loop-b.invariant.1 in
    sym (free_fails m _ _ all c.mark_chain-2.new.marks c.in-None-mark_chain.ensures.walked)
