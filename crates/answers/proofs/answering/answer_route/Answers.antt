use Rattle.std.proofs.Common.{◌≡◌, ◌-◌, take, ap, ◌∙◌, arith}
use Rattle.std.proofs.lemmas.Result.{IfOk-weaker}
use Rattle.replies.specs.Replies.{route_reply}
use Rattle.grade.specs.Kinds.{slots_of}
use Rattle.answers.specs.Answers.{tables, bridge_of, blank, routed, shown}
use Rattle.answers.proofs.Routes.{within}
use Rattle.answers.proofs.answering.answer_route.Goals as goal

pub slice_bounds-route_reply-end : goal.slice_bounds-route_reply-end
slice_bounds-route_reply-end c =
    let fits = within (tables c.args.book.now) 192 (bridge_of c.args.start) (bridge_of c.args.end) blank blank _ c.in-Ok.ensures in
    omega (arith, fits, c.route.auto.numbers)

pub returns-in-Ok : goal.returns-in-Ok
returns-in-Ok c =
    let f = c.in-Ok.found in
    let row = c.route.new.numbers in
    let side = c.route.new.side in
    let whole : f.length - 0 ≡ f.length = omega arith in
    let told = ap (λ r. shown (routed r)) c.in-Ok.ensures in
    let same = ap (λ w. route_reply w (take (f.length - 0) row) side) c.count.ensures ∙ ap (λ k. route_reply (slots_of f.width) (take k row) side) whole ∙ told in
    IfOk-weaker c.route_reply.result _ _ (λ s e. e ∙ same) c.route_reply.ensures

pub returns-in-Err : goal.returns-in-Err
returns-in-Err c =
    let told = ap (λ r. shown (routed r)) c.in-Err.ensures in
    IfOk-weaker c.refusal_reply.result _ _ (λ s e. e ∙ told) c.refusal_reply.ensures
