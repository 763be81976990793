use Rattle.std.proofs.Common.{◌≡◌, map, take}
use Rattle.search.specs.Chains.{table_line}
use Rattle.turn.specs.Doubling.{partner}
use Rattle.turn.proofs.pairs.pair_up.Given as goal

abbrev pub invariant-loop-at : goal.invariant-loop-at
invariant-loop-at l = take l.at l.partners ≡ map (partner (table_line l.tables.n l.tables.first.now l.tables.lines.now)) (take l.at l.tables.lines.now)
