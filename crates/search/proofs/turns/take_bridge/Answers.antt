use Rattle.std.proofs.Common.{arith}
use Rattle.search.proofs.States.{state_path, taken_set}
use Rattle.search.proofs.turns.take_bridge.Goals as goal

pub returns : goal.returns
returns g c = rw c.from.ensures (state_path c.offer_from.ensures (taken_set c.args.taken.now c.args.from.bridge (omega arith)))
