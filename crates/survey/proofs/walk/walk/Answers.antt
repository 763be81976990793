use Rattle.std.proofs.Common.{◌-◌, get_or, sym, ap, ◌∙◌, arith}
use Rattle.std.proofs.lemmas.Result.{err_from_is_err_and}
use Rattle.grade.specs.Told.{answers}
use Rattle.survey.specs.Walk.{read_bridge}
use Rattle.survey.specs.Working.{stands_for}
use Rattle.survey.proofs.Walks.{walks_all}
use Rattle.survey.proofs.Taking.{count_found, stands_in, walk_end, walk_take}
use Rattle.survey.proofs.walk.walk.Goals as goal

pub returns-in_err-tally : goal.returns-in_err-tally
returns-in_err-tally g c =
    let e = err_from_is_err_and c.from_residual.result c.from_residual.ensures.1 in
    let tells = g.F.Field.tells c.args.field.now in
    let n = c.args.limits.bridges in
    let L = c.args.limits.lines in
    let inv = c.loop-taken.invariant in
    let p = stands_for c.loop-taken.order c.loop-taken.tally in
    let near = get_or c.loop-taken.order c.from-in-loop-taken.result 0 in
    let read =
    c.in_err-tally.ensures.read ∙ ap (λ t. read_bridge n L near p (t near)) inv.0
    ∙ ap (λ i. read_bridge n L (get_or c.loop-taken.order i 0) p (tells (get_or c.loop-taken.order i 0))) c.from-in-loop-taken.ensures in
    let stop = walk_take tells n L c.loop-taken.taken c.loop-taken.tally.lines _ inv.2 (omega arith) read in
    rw (e.1, e.2) (record {
      walked = sym stop ∙ inv.4;
      within = tt;
      complete = walks_all tells n L c.args.start c.requires.start.0 c.requires.start.1;
      same = c.take_bridge.ensures.same ∙ inv.0;
    })

pub loop-taken-preserved : goal.loop-taken-preserved
loop-taken-preserved g c =
    let tells = g.F.Field.tells c.args.field.now in
    let n = c.args.limits.bridges in
    let L = c.args.limits.lines in
    let inv = c.loop-taken.invariant in
    let p = stands_for c.loop-taken.order c.loop-taken.tally in
    let near = get_or c.loop-taken.order c.from-in-loop-taken.result 0 in
    let read =
    c.in_ok-tally.ensures.read ∙ ap (λ t. read_bridge n L near p (t near)) inv.0
    ∙ ap (λ i. read_bridge n L (get_or c.loop-taken.order i 0) p (tells (get_or c.loop-taken.order i 0))) c.from-in-loop-taken.ensures in
    let on = walk_take tells n L c.loop-taken.taken c.loop-taken.tally.lines _ inv.2 (omega arith) read in
    let memory = c.in_ok-tally.ensures.memory in
    (c.take_bridge.ensures.same ∙ inv.0, memory.2, memory.0, memory.1, sym on ∙ inv.4)

pub returns-after-loop-taken : goal.returns-after-loop-taken
returns-after-loop-taken g c =
    let tells = g.F.Field.tells c.args.field.now in
    let n = c.args.limits.bridges in
    let L = c.args.limits.lines in
    let inv = c.loop-taken.invariant in
    let many = count_found inv.2 in
    let end = walk_end tells n L (n - c.loop-taken.taken) c.loop-taken.taken (stands_for c.loop-taken.order c.loop-taken.tally) (omega (arith, inv.2.few)) in
    record {
      walked = ap answers (stands_in _ c.loop-taken.tally inv.2) ∙ sym end ∙ inv.4;
      within = inv.2.few;
      complete = walks_all tells n L c.args.start c.requires.start.0 c.requires.start.1;
      same = inv.0;
    }

pub returns-then-taken-tally : goal.returns-then-taken-tally
returns-then-taken-tally g c =
    let tells = g.F.Field.tells c.args.field.now in
    let n = c.args.limits.bridges in
    let L = c.args.limits.lines in
    let inv = c.loop-taken.invariant in
    let many = count_found inv.2 in
    let end = walk_end tells n L (n - c.loop-taken.taken) c.loop-taken.taken (stands_for c.loop-taken.order c.loop-taken.tally) (omega arith) in
    record {
      walked = ap answers (stands_in _ c.loop-taken.tally inv.2) ∙ sym end ∙ inv.4;
      within = inv.2.few;
      complete = walks_all tells n L c.args.start c.requires.start.0 c.requires.start.1;
      same = inv.0;
    }
