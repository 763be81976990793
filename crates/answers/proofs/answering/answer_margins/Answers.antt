use Rattle.std.proofs.Common.{◌≡◌, ◌-◌, take, ap, ◌∙◌, arith}
use Rattle.std.proofs.lemmas.Result.{IfOk-weaker}
use Rattle.answers.specs.Answers.{tables, bridge_of, blank, in_memory, margined, margins_along, shown}
use Rattle.answers.proofs.Routes.{within}
use Rattle.answers.proofs.answering.answer_margins.Goals as goal

pub slice_bounds-tell_margins-end : goal.slice_bounds-tell_margins-end
slice_bounds-tell_margins-end c =
    let fits = within (tables c.args.book.now) 192 (bridge_of c.args.start) (bridge_of c.args.end) blank blank _ c.in-Ok.ensures in
    omega (arith, fits, c.route.auto.numbers)

pub returns-in-Ok : goal.returns-in-Ok
returns-in-Ok c =
    let m = tables c.args.book.now in
    let f = c.in-Ok.found in
    let row = c.route.new.numbers in
    let whole : f.length - 0 ≡ f.length = omega arith in
    let told = ap (λ r. shown (margins_along in_memory m r)) c.in-Ok.ensures in
    let same = ap (λ k. shown (margined (λ j. in_memory.stands j m) (in_memory.margins (take k row) m))) whole ∙ told in
    IfOk-weaker c.tell_margins.result _ _ (λ s e. e ∙ same) c.tell_margins.ensures

pub returns-in-Err : goal.returns-in-Err
returns-in-Err c =
    let m = tables c.args.book.now in
    let told = ap (λ r. shown (margins_along in_memory m r)) c.in-Err.ensures in
    IfOk-weaker c.refusal_reply.result _ _ (λ s e. e ∙ told) c.refusal_reply.ensures
