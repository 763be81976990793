use Rattle.std.proofs.Common.{ap, ◌∙◌}
use Rattle.search.specs.Chains.{Lookup, omitting, searched}
use Rattle.search.proofs.Skipping.{holds_omitting}
use Rattle.search.proofs.Widths.{width_read}
use Rattle.search.proofs.width.best_width.Goals as goal

pub returns : goal.returns
returns g c = λ arcs holds apart.
    let le = g.G.Grade.le in
    let t = c.args.tables.now in
    let lines = t.lines.now in
    (rw (c.from.ensures, c.is_marked.ensures) at c.width_at.ensures)
    ∙ width_read le t.n lines (omitting t.skip arcs) c.search_widest.new.labels c.search_widest.new.ways c.search_widest.new.taken c.args.ends.start c.args.ends.end
    (c.search_widest.ensures
    ∙ ap (λ (found : Lookup _). searched le found t.n c.args.ends.start c.args.ends.end) (holds_omitting t.n t.first.now lines arcs t.skip t.lawful holds apart))
