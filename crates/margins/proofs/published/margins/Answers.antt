use Rattle.std.proofs.Common.{refl, arith}
use Rattle.book.specs.Memory.{memory}
use Rattle.book.proofs.Admitted.{book_passed}
use Rattle.book.proofs.Sizes.{sound}
use Rattle.standing.proofs.Standing.{standing-told}
use Rattle.search.proofs.Holdings.{tables-lawful, tables_hold}
use Rattle.margins.proofs.published.margins.Goals as goal

pub invariant_of-tables : goal.invariant_of-tables
invariant_of-tables g c =
    let m = memory c.args.head.now c.args.first.now c.args.lines.now in
    let passed = book_passed m _ c.in_ok-admit_book.ensures.told in
    let s = sound m passed.1 in
    record { lawful = tables-lawful m passed.1; few = omega (arith, s.long, s.few_slots) }

pub judge-requires : goal.judge-requires
judge-requires g c =
    let m = memory c.args.head.now c.args.first.now c.args.lines.now in
    let passed = book_passed m _ c.in_ok-admit_book.ensures.told in
    let law = passed.1 in
    let s = sound m law in
    record {
      whole = refl;
      holds = tables_hold m law;
      proper = standing-told m law;
      work = omega (arith, passed.0, c.admit_book.auto.work);
      out = omega (arith, s.long);
    }
