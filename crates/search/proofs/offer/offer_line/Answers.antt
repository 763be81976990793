use Rattle.std.proofs.Common.{sym, ap, ◌∙◌}
use Rattle.theory.specs.Widest.{label_le}
use Rattle.search.specs.Labels.{label_of}
use Rattle.search.specs.Marks.{marks, offered_to}
use Rattle.search.proofs.Labels.{label_there}
use Rattle.search.proofs.offer.offer_line.Goals as goal

pub returns : goal.returns
returns g c =
    let lines = c.args.lines.now in
    let read = label_of lines in
    let handed = c.hand_down-offer.ensures in
    c.offer_label.ensures read (sym (rw c.from.ensures at c.label_of-own.ensures)) (handed.number read c.requires.held (label_there lines c.args.slot c.args.line c.requires.line))
    ∙ ap (λ y. offered_to (label_le g.G.Grade.le) c.args.from y c.args.line.far (marks read c.args.labels.now c.args.ways.now)) handed.label
