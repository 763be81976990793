use Rattle.std.proofs.Common.{Some, sym, ap, ◌∙◌}
use Rattle.grade.specs.declared.slots.Slots.{Slots}
use Rattle.stored.proofs.Tells.{grade_told, read, slots_of}
use Rattle.stored.proofs.StoredSurveyField.ask_grade.Goals as goal

pub returns-in_err-record-clause-answer : goal.returns-in_err-record-clause-answer
returns-in_err-record-clause-answer c = c.from_residual.ensures ∙ ap (read slots_of) c.in_err-record.ensures ∙ sym (grade_told c.args.self.now.shaped.bytes.now c.args.bridge c.args.k)

pub returns-clause-answer : goal.returns-clause-answer
returns-clause-answer c =
    ap (λ (s : Slots). Some s) c.holding.ensures
    ∙ ap (read slots_of) c.in_ok-record.ensures ∙ sym (grade_told c.args.self.now.shaped.bytes.now c.args.bridge c.args.k)
