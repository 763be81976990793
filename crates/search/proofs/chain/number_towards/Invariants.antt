use Rattle.std.proofs.Common.{◌≡◌, ◌-◌, length}
use Rattle.search.specs.Chains.{chain, towards, numbered}
use Rattle.search.proofs.chain.number_towards.Given as goal

-- what is left of the chain holds the same line as the whole
abbrev pub invariant-loop-step : goal.invariant-loop-step
invariant-loop-step g l = numbered (towards (chain l.lines (length l.lines - l._step) l.slot) l.far) ≡ numbered (towards (chain l.lines (length l.lines) l.first) l.far)
