use Rattle.std.proofs.Common.{length, arith, rules}
use Rattle.book.specs.Memory.{memory}
use Rattle.book.proofs.Sizes.{sound}
use Rattle.book.proofs.Admitted.{admitted}
use Rattle.standing.proofs.Standing.{standing-told}
use Rattle.search.proofs.Holdings.{tables-lawful, tables_hold}
use Rattle.turn.proofs.answer.turn.Goals as goal

pub invariant_of-tables : goal.invariant_of-tables
invariant_of-tables c =
    let m = memory c.args.head.now c.args.first.now c.args.lines.now in
    let a = admitted m (length c.args.work.now) c.args.start c.args.end c.in_ok-admit.ensures.told in
    let s = sound m a.book in
    record { lawful = tables-lawful m a.book; few = omega (arith, s.long, s.few_slots) }

pub turn_lines-requires : goal.turn_lines-requires
turn_lines-requires c =
    let m = memory c.args.head.now c.args.first.now c.args.lines.now in
    let a = admitted m (length c.args.work.now) c.args.start c.args.end c.in_ok-admit.ensures.told in
    let s = sound m a.book in
    record {
      few = omega (arith, s.long, s.few_slots);
      lines = standing-told m a.book;
      holds = tables_hold m a.book;
      ends = record { near_from = a.near_low; near_to = a.near_high; far_from = a.far_low; far_to = a.far_high; differ = a.apart };
      work = omega (arith, a.room, s.long);
      bridges = search rules;
      turned = search rules;
    }
