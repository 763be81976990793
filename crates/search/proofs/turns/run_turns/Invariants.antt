use Rattle.std.proofs.Common.{◌≡◌, ◌-◌}
use Rattle.theory.specs.Search.{search_from}
use Rattle.search.specs.Marks.{state_of}
use Rattle.search.proofs.turns.run_turns.Given as goal

-- the turns that are left make of the state now what all turns make of the state before
abbrev pub invariant-loop-turn : goal.invariant-loop-turn
invariant-loop-turn g l =
    search_from g.N.Net.le (g.N.Net.rule l.net) l.n l.end (l.n - l._turn) (state_of (g.N.Net.read l.net) l.labels l.ways l.taken)
    ≡ search_from g.N.Net.le (g.N.Net.rule l.net) l.n l.end l.n (state_of (g.N.Net.read l.net) l.initial.labels l.initial.ways l.initial.taken)
