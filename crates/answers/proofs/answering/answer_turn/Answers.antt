use Rattle.std.proofs.Common.{◌≡◌, ◌-◌, take, ap, ◌∙◌, arith}
use Rattle.std.proofs.lemmas.Result.{IfOk-weaker}
use Rattle.replies.specs.Replies.{turn_reply}
use Rattle.answers.specs.Answers.{tables, bridge_of, blank, in_memory, turned, shown}
use Rattle.answers.proofs.Turns.{within}
use Rattle.answers.proofs.answering.answer_turn.Goals as goal

pub slice_bounds-turn_reply-end : goal.slice_bounds-turn_reply-end
slice_bounds-turn_reply-end c =
    let fits = within (tables c.args.book.now) 192 c.bridge.result c.bridge-2.result blank blank _ c.in-Ok.ensures in
    omega (arith, fits.0, c.turn-told.auto.bridges)

pub slice_bounds-turn_reply-end-in-Ok : goal.slice_bounds-turn_reply-end-in-Ok
slice_bounds-turn_reply-end-in-Ok c =
    let fits = within (tables c.args.book.now) 192 c.bridge.result c.bridge-2.result blank blank _ c.in-Ok.ensures in
    omega (arith, fits.1, c.turn-told.auto.turned)

pub returns-in-Ok : goal.returns-in-Ok
returns-in-Ok c =
    let m = tables c.args.book.now in
    let t = c.in-Ok.told in
    let row = c.turn-told.new.bridges in
    let lines = c.turn-told.new.turned in
    let stops : t.bridges - 0 ≡ t.bridges = omega arith in
    let count : t.turned - 0 ≡ t.turned = omega arith in
    let told = ap (λ r. shown (turned r)) c.in-Ok.ensures in
    let ends = ap (λ a. shown (turned (in_memory.turn a c.bridge-2.result m))) c.bridge.ensures ∙ ap (λ z. shown (turned (in_memory.turn (bridge_of c.args.start) z m))) c.bridge-2.ensures in
    let same = ap (λ k. turn_reply t.width (take k row) (take (t.turned - 0) lines)) stops ∙ ap (λ k. turn_reply t.width (take t.bridges row) (take k lines)) count ∙ told ∙ ends in
    IfOk-weaker c.turn_reply.result _ _ (λ s e. e ∙ same) c.turn_reply.ensures

pub returns-in-Err : goal.returns-in-Err
returns-in-Err c =
    let m = tables c.args.book.now in
    let told = ap (λ r. shown (turned r)) c.in-Err.ensures in
    let ends = ap (λ a. shown (turned (in_memory.turn a c.bridge-2.result m))) c.bridge.ensures ∙ ap (λ z. shown (turned (in_memory.turn (bridge_of c.args.start) z m))) c.bridge-2.ensures in
    IfOk-weaker c.refusal_reply.result _ _ (λ s e. e ∙ told ∙ ends) c.refusal_reply.ensures
