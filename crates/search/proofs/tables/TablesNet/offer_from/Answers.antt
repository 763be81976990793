use Rattle.std.proofs.Common.{◌+◌, length, ap, ◌∙◌}
use mathlib.Core.Path.{fun_ext}
use Rattle.theory.specs.Widest.{label_le, narrow}
use Rattle.search.specs.Labels.{label_of}
use Rattle.search.specs.Chains.{chain, chain_of, omitting}
use Rattle.search.specs.Marks.{marks, offered_all}
use Rattle.search.proofs.Offers.{offered-each}
use Rattle.search.proofs.Skipping.{fan_omitting}
use Rattle.search.proofs.tables.TablesNet.offer_from.Goals as goal

pub returns : goal.returns
returns g c =
    let t = c.args.self.now in
    let le = g.G.Grade.le in
    let lines = t.lines.now in
    let before = marks (label_of lines) c.args.labels.now c.args.ways.now in
    let u = c.args.bridge in
    let fan = chain_of t.n t.first.now lines u in
    c.offer_chain.ensures
    ∙ ap (λ h. offered_all (label_le le) (narrow le) u c.args.label (omitting t.skip (chain lines (length lines) h)) before) c.head_of-head.ensures
    ∙ fun_ext (λ v. offered-each (label_le le) (narrow le) u c.args.label (omitting t.skip fan) before (fan_omitting (t.n + 1) fan t.skip (c.requires.sound.fans u c.requires.bridge.0 c.requires.bridge.1)).apart v)
