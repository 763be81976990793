use Rattle.std.proofs.Common.{get_or, take, arith, length-take-le}
use Rattle.turn.proofs.Loads.{slots_few, load_few}
use Rattle.turn.proofs.total.sum_slots.Goals as goal

pub overflow_add-sum : goal.overflow_add-sum
overflow_add-sum c =
    let line = get_or c.args.lines.now c.loop-line.line-index (record { near = 0; far = 0; next = 0; grade = record { raw = 0 } }) in
    omega (arith, load_few (take c.loop-line.line-index c.args.lines.now), length-take-le c.loop-line.line-index c.args.lines.now c.loop-line.auto.line-index-end, slots_few line.grade)
