use Rattle.std.proofs.Common.{◌≡◌, ◌+◌, ◌-◌, length}
use Rattle.stored.specs.Stored.{records, base_of, chain, next_in}
use Rattle.stored.proofs.layout.Shaped.chain_length.Given as goal

abbrev pub invariant-loop-passed : goal.invariant-loop-passed
invariant-loop-passed l =
    let bytes = l.self.bytes.now in
    l.passed + length (chain (next_in bytes (base_of bytes)) (records bytes) (255 - l.passed) l.index) ≡ length (chain (next_in bytes (base_of bytes)) (records bytes) 255 l.first)
