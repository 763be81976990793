use Rattle.std.proofs.Common.{◌≡◌, get_or}
use Rattle.search.specs.Labels.{label_of}
use Rattle.search.specs.Marks.{takens}
use Rattle.route.specs.Outcomes.{sided, bytes}
use Rattle.route.proofs.side.mark_side.Given as goal

abbrev pub invariant-loop-below : goal.invariant-loop-below
invariant-loop-below g l = l.marked ≡ bytes l.below (λ v. sided g.G.Grade.le l.width (takens l.ended.taken.now v) (label_of l.tables.lines.now (get_or l.ended.labels.now v 0))) l.initial.marked
