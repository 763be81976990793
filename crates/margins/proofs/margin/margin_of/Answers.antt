use Rattle.std.proofs.Common.{◌&&◌, ap, ◌∙◌}
use Rattle.standing.specs.Standing.{arc}
use Rattle.margins.specs.Asked.{margin_if, margin_off}
use Rattle.margins.proofs.Picking.{any-among}
use Rattle.margins.proofs.Telling.{off_told}
use Rattle.margins.proofs.margin.margin_of.Goals as goal

pub returns-then-contains : goal.returns-then-contains
returns-then-contains g c = c.margin_on.ensures ∙ ap (margin_if g.G.Grade.le c.args.asked.now (arc c.args.number c.args.line)) (c.if-contains.ensures.value ∙ any-among c.args.number c.args.asked.now.numbers.now)

pub returns-else-contains : goal.returns-else-contains
returns-else-contains g c =
    let line = c.args.line in
    let w = c.args.asked.now.width in
    c.margin_off.ensures
    ∙ (λ i. margin_off w (c.requires.reached line.near i && c.requires.reaching line.far i))
    ∙ off_told w _
    ∙ ap (margin_if g.G.Grade.le c.args.asked.now (arc c.args.number line)) (c.if-contains.ensures.value ∙ any-among c.args.number c.args.asked.now.numbers.now)
