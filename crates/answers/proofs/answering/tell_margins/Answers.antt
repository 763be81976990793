use Rattle.std.proofs.Common.{ap, ◌∙◌}
use Rattle.std.proofs.lemmas.Result.{IfOk-weaker}
use Rattle.replies.specs.Replies.{margins_reply}
use Rattle.answers.specs.Answers.{tables, in_memory, margined, shown}
use Rattle.answers.proofs.answering.tell_margins.Goals as goal

pub returns-in-Ok : goal.returns-in-Ok
returns-in-Ok c =
    let m = tables c.args.book.now in
    let told = ap (λ r. shown (margined (λ k. in_memory.stands k m) r)) c.in-Ok.ensures in
    IfOk-weaker c.margins_reply.result _ _ (λ s e. e ∙ ap margins_reply c.write_rows.ensures ∙ told) c.margins_reply.ensures

pub returns-in-Err : goal.returns-in-Err
returns-in-Err c =
    let m = tables c.args.book.now in
    let told = ap (λ r. shown (margined (λ k. in_memory.stands k m) r)) c.in-Err.ensures in
    IfOk-weaker c.refusal_reply.result _ _ (λ s e. e ∙ told) c.refusal_reply.ensures
