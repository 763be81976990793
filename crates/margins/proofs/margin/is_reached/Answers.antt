use Rattle.std.proofs.Common.{ap, ◌∙◌}
use Rattle.theory.specs.Arcs.{Pair}
use Rattle.search.specs.Chains.{omitting}
use Rattle.margins.specs.Telling.{exceeds}
use Rattle.margins.proofs.Reached.{lines_omitting, reaches_itself, reaches-best}
use Rattle.margins.proofs.margin.is_reached.Goals as goal

pub returns-then-from-to : goal.returns-then-from-to
returns-then-from-to g c = λ arcs holds proper.
    let t = c.args.tables.now in
    reaches_itself g.G.Grade.le t.n (omitting t.skip arcs) (lines_omitting t.n arcs t.skip proper) c.args.bar c.args.from c.args.to c.if-from-to.true

pub returns : goal.returns
returns g c = λ arcs holds proper.
    let t = c.args.tables.now in
    let le = g.G.Grade.le in
    let ends : Pair t.n c.args.from c.args.to = record { near_from = c.requires.from.0; near_to = c.requires.from.1; far_from = c.requires.to.0; far_to = c.requires.to.1; differ = c.if-from-to.false } in
    c.exceeds_bar.ensures
    ∙ ap (λ h. exceeds le h c.args.bar) (c.best_width.ensures arcs holds proper.apart)
    ∙ reaches-best le t.n (omitting t.skip arcs) (lines_omitting t.n arcs t.skip proper) c.args.bar g.met.G.Grade.ranked c.args.from c.args.to ends
