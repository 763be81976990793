use Rattle.std.proofs.Common.{ap, ◌∙◌, rules, tests}
use Rattle.margins.specs.Picking.{as_arc}
use Rattle.margins.proofs.Picking.{stood, numbered-standing}
use Rattle.answers.specs.Answers.{is_there}
use Rattle.answers.proofs.Listing.{tested}
use Rattle.answers.proofs.rows.stands.Goals as goal

pub returns : goal.returns
returns c =
    tested c.args.number c.record_at.result c.is_some_and.result c.is_some_and.ensures (λ x k. search (rules, tests))
    ∙ ap (λ r. is_there (as_arc c.args.number (stood r))) c.record_at.ensures
    ∙ ap is_there (numbered-standing c.args.lines.now c.args.number)
