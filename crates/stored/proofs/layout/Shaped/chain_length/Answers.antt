use Rattle.std.proofs.Common.{◌≡◌, ◌+◌, ◌-◌, length, ap, arith}
use Rattle.stored.specs.Stored.{records, base_of, next_in, chain}
use Rattle.stored.proofs.Chains.{length_more, length_none, chain_over}
use Rattle.stored.proofs.layout.Shaped.chain_length.Goals as goal

pub returns-in_default : goal.returns-in_default
returns-in_default c =
    let bytes = c.args.self.now.bytes.now in
    let none = length_none bytes (base_of bytes) (records bytes) (255 - c.loop-passed.passed) c.loop-passed.index c.in_default.ensures in
    let inv = c.loop-passed.invariant in
    omega arith

pub loop-passed-preserved : goal.loop-passed-preserved
loop-passed-preserved c =
    let bytes = c.args.self.now.bytes.now in
    let record' = c.in-Some.record in
    let more = length_more bytes (base_of bytes) (records bytes) (255 - c.loop-passed.passed) c.loop-passed.index record' (omega arith) c.in-Some.ensures in
    let less : 255 - (c.loop-passed.passed + 1) ≡ 255 - c.loop-passed.passed - 1 = omega arith in
    let same = ap (λ k. length (chain (next_in bytes (base_of bytes)) (records bytes) k record'.next)) less in
    let inv = c.loop-passed.invariant in
    omega arith

pub returns : goal.returns
returns c =
    let bytes = c.args.self.now.bytes.now in
    let over = ap length (chain_over (next_in bytes (base_of bytes)) (records bytes) (255 - c.loop-passed.passed) c.loop-passed.index (omega arith)) in
    let inv = c.loop-passed.invariant in
    omega arith
