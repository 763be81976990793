use Rattle.std.proofs.Common.{◌≡◌, ◌-◌, ◌<◌, length}
use Rattle.theory.specs.Lists.{Each}
use Rattle.theory.specs.Widest.{label_le, narrow}
use Rattle.search.specs.Labels.{label_of}
use Rattle.search.specs.Chains.{chain, omitting}
use Rattle.search.specs.Marks.{marks, offered_all}
use Rattle.search.proofs.offer.offer_chain.Given as goal

-- what is left of the chain makes of the marks now what the whole chain makes of the marks before
abbrev pub invariant-loop-step : goal.invariant-loop-step
invariant-loop-step g l =
    (offered_all (label_le g.G.Grade.le) (narrow g.G.Grade.le) l.from l.held.label (omitting l.tables.skip (chain l.tables.lines.now (length l.tables.lines.now - l._step) l.slot)) (marks (label_of l.tables.lines.now) l.labels l.ways) ≡ offered_all (label_le g.G.Grade.le) (narrow g.G.Grade.le) l.from l.held.label (omitting l.tables.skip (chain l.tables.lines.now (length l.tables.lines.now) l.first)) (marks (label_of l.tables.lines.now) l.initial.labels l.initial.ways))
    × Each (λ e. e.far < length l.initial.labels) (chain l.tables.lines.now (length l.tables.lines.now - l._step) l.slot)
