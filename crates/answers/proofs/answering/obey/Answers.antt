use Rattle.std.proofs.Common.{ap, ◌∙◌}
use Rattle.std.proofs.lemmas.Result.{IfOk-weaker}
use Rattle.answers.specs.Answers.{numbered, shown}
use Rattle.answers.proofs.answering.obey.Goals as goal

pub returns-in-Lay-clause-reply : goal.returns-in-Lay-clause-reply
returns-in-Lay-clause-reply c =
    rw c.in-Lay.is (IfOk-weaker c.number_reply.result _ _ (λ s e. e ∙ ap (λ r. shown (numbered r.0)) c.lay.ensures) c.number_reply.ensures)

pub returns-in-Regrade-clause-reply : goal.returns-in-Regrade-clause-reply
returns-in-Regrade-clause-reply c =
    rw c.in-Regrade.is (IfOk-weaker c.number_reply-in-Regrade.result _ _ (λ s e. e ∙ ap (λ r. shown (numbered r.0)) c.regrade.ensures) c.number_reply-in-Regrade.ensures)

pub returns-in-Lift-clause-reply : goal.returns-in-Lift-clause-reply
returns-in-Lift-clause-reply c =
    rw c.in-Lift.is (IfOk-weaker c.number_reply-in-Lift.result _ _ (λ s e. e ∙ ap (λ r. shown (numbered r.0)) c.lift.ensures) c.number_reply-in-Lift.ensures)
