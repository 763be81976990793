use Rattle.std.proofs.Common.{ap, ◌∙◌}
use Rattle.theory.specs.Search.{search_from}
use Rattle.search.proofs.Starting.{begun}
use Rattle.search.proofs.turns.run_search.Goals as goal

pub returns : goal.returns
returns g c = λ x top.
    let net = c.args.net.now in
    let read = g.N.Net.read net in
    let labels = c.begin.new.labels in
    let ways = c.begin.new.ways in
    let taken = c.begin.new.taken in
    c.run_turns.ensures
    ∙ ap (search_from g.N.Net.le (g.N.Net.rule net) c.args.n c.args.ends.end c.args.n)
    (begun read c.requires.none c.args.top x top c.args.ends.start labels ways taken c.begin.ensures.labels c.begin.ensures.ways c.begin.ensures.taken)
