use Rattle.std.proofs.Common.{sym, ◌∙◌}
use Rattle.theory.specs.Widest.{label_le, narrow}
use Rattle.standing.specs.Standing.{arc}
use Rattle.search.specs.Labels.{label_of}
use Rattle.search.specs.Marks.{marks}
use Rattle.search.proofs.Skipping.{offered_one}
use Rattle.search.proofs.offer.offer_unless.Goals as goal

pub returns : goal.returns
returns g c = c.offer_line.ensures ∙ sym (offered_one (label_le g.G.Grade.le) (narrow g.G.Grade.le) c.args.from c.args.held.label c.args.tables.now.skip (arc c.args.slot c.args.line) (marks (label_of c.args.tables.now.lines.now) c.args.labels.now c.args.ways.now) (sym c.eq.ensures ∙ c.if-eq.false))
