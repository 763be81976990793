use Rattle.std.proofs.Common.{◌≡◌, ℕ, ◌+◌, ◌-◌, ◌≤◌, List}
use Rattle.theory.specs.Search.{best as best_mark}
use Rattle.search.specs.Marks.{state_of}
use Rattle.search.specs.Choices.{forget, Choosing}
use Rattle.search.proofs.best.best.Given as goal

abbrev pub invariant-loop-bridge : goal.invariant-loop-bridge
invariant-loop-bridge g l = record {
  picks : (ways : List ℕ) → l.chosen ≡ forget (best_mark g.N.Net.le (state_of (g.N.Net.read l.net) l.labels ways l.taken) (l.bridge - 1));
  chosen : Choosing (g.N.Net.read l.net) l.labels (l.bridge - 1) l.chosen;
  within : l.bridge ≤ l.n + 1;
}
