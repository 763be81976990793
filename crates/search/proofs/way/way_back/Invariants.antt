use Rattle.std.proofs.Common.{◌≡◌, ◌≤◌, [], length, drop}
use Rattle.search.specs.Ways.{back}
use Rattle.search.proofs.way.way_back.Given as goal

-- the way back from this bridge, followed by what is written, is the way back from the end
abbrev pub invariant-loop-at : goal.invariant-loop-at
invariant-loop-at g l = (l.at ≤ length l.initial.spare) × (back (g.N.Net.read l.net) l.ended.labels.now l.ended.ways.now l.at l.ends.start l.bridge (drop l.at l.spare) ≡ back (g.N.Net.read l.net) l.ended.labels.now l.ended.ways.now (length l.initial.spare) l.ends.start l.ends.end [])

abbrev pub decreases-loop-at : goal.decreases-loop-at
decreases-loop-at g l = l.at
