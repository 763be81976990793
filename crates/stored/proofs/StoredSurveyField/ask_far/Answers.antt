use Rattle.std.proofs.Common.{sym, ap, ◌∙◌}
use Rattle.stored.specs.declared.layout.Record.{Record}
use Rattle.stored.proofs.Tells.{far_told, read}
use Rattle.stored.proofs.StoredSurveyField.ask_far.Goals as goal

pub returns-in_err-record-clause-answer : goal.returns-in_err-record-clause-answer
returns-in_err-record-clause-answer c =
    c.from_residual.ensures
    ∙ ap (read (λ (rec : Record). rec.far)) c.in_err-record.ensures
    ∙ sym (far_told c.args.self.now.shaped.bytes.now c.args.bridge c.args.k)

pub returns-clause-answer : goal.returns-clause-answer
returns-clause-answer c = ap (read (λ (rec : Record). rec.far)) c.in_ok-record.ensures ∙ sym (far_told c.args.self.now.shaped.bytes.now c.args.bridge c.args.k)
