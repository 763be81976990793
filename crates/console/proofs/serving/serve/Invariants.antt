use Rattle.std.proofs.Common.{◌≡◌, length}
use Rattle.console.proofs.serving.serve.Given as goal

abbrev pub invariant-loop : goal.invariant-loop
invariant-loop g l = length l.block ≡ 4096
