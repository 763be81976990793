use Rattle.std.proofs.Common.{◌≡◌, ◌+◌, ◌-◌, map, sym, ap, ◌∙◌, arith}
use Rattle.field.specs.Meaning.{nth}
use Rattle.stored.specs.Stored.{records, base_of, stored_at, next_in}
use Rattle.stored.proofs.Chains.{nth_here, nth-more, nth_none, chain_over}
use Rattle.stored.proofs.layout.Shaped.chain_record.Goals as goal

pub returns-in_err-record : goal.returns-in_err-record
returns-in_err-record c =
    let bytes = c.args.self.now.bytes.now in
    let p = c.loop-position.position in
    let none = nth_none bytes (base_of bytes) (records bytes) (256 - p) c.loop-position.index (c.args.k + 1 - p) c.in_err-record.ensures in
    c.from_residual.ensures ∙ sym none ∙ c.loop-position.invariant

pub returns-then-position-k : goal.returns-then-position-k
returns-then-position-k c =
    let bytes = c.args.self.now.bytes.now in
    let p = c.loop-position.position in
    sym (nth_here bytes (base_of bytes) (records bytes) (256 - p) c.loop-position.index (c.args.k + 1 - p) c.in_ok-record.record (omega arith) c.in_ok-record.ensures (omega arith)) ∙ c.loop-position.invariant

pub loop-position-preserved : goal.loop-position-preserved
loop-position-preserved c =
    let bytes = c.args.self.now.bytes.now in
    let p = c.loop-position.position in
    let more = nth-more bytes (base_of bytes) (records bytes) (256 - p) c.loop-position.index (c.args.k + 1 - p) c.in_ok-record.record (omega arith) c.in_ok-record.ensures (omega arith) in
    let less : 256 - (p + 1) ≡ 256 - p - 1 = omega arith in
    let down : c.args.k + 1 - (p + 1) ≡ c.args.k + 1 - p - 1 = omega arith in
    rw (less, down) (sym more ∙ c.loop-position.invariant)

pub returns : goal.returns
returns c =
    let bytes = c.args.self.now.bytes.now in
    let p = c.loop-position.position in
    let over = chain_over (next_in bytes (base_of bytes)) (records bytes) (256 - p) c.loop-position.index (omega arith) in
    sym (ap (λ xs. nth (map (stored_at bytes (base_of bytes)) xs) (c.args.k + 1 - p)) over) ∙ c.loop-position.invariant
