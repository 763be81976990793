use Rattle.std.proofs.Common.{◌≡◌, ◌+◌, ◌-◌, map}
use Rattle.field.specs.Meaning.{nth}
use Rattle.stored.specs.Stored.{records, base_of, stored_at, chain, chained, next_in}
use Rattle.stored.proofs.layout.Shaped.chain_record.Given as goal

abbrev pub invariant-loop-position : goal.invariant-loop-position
invariant-loop-position l =
    let bytes = l.self.bytes.now in
    let base = base_of bytes in
    nth (map (stored_at bytes base) (chain (next_in bytes base) (records bytes) (256 - l.position) l.index)) (l.k + 1 - l.position) ≡ nth (chained bytes base (records bytes) l.first) l.k
