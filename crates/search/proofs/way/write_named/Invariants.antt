use Rattle.std.proofs.Common.{◌≡◌, ℕ, ◌≤◌, ◌++◌, take, drop, Option as Held}
use Rattle.search.specs.Ways.{named_over}
use Rattle.search.proofs.way.write_named.Given as goal

-- what is written, followed by the numbers over the bridges that are left, is the whole
abbrev pub invariant-loop-bridge : goal.invariant-loop-bridge
invariant-loop-bridge g l = record {
  few : l.count ≤ l.bridge-index;
  beyond : drop l.count l.numbers ≡ drop l.count l.initial.numbers;
  whole : (tells : ℕ → ℕ → Held ℕ) → ((u v : ℕ) (r : Held ℕ) → goal.F-post g l.named u v r → r ≡ tells u v) → take l.count l.numbers ++ named_over tells l.from (drop l.bridge-index l.row) ≡ named_over tells l.start l.row;
}
