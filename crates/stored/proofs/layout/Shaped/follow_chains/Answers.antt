use Rattle.std.proofs.Common.{sym, ap, ◌∙◌, arith}
use Rattle.std.proofs.lemmas.Result.{err_from_is_err_and}
use Rattle.stored.specs.Stored.{bridges, records, base_of, head_of, next_in}
use Rattle.stored.specs.Marks.{follow_marks}
use Rattle.stored.proofs.Lowest.{all_more, all_stop}
use Rattle.stored.proofs.layout.Shaped.follow_chains.Goals as goal

pub returns-in_err-follow_chain : goal.returns-in_err-follow_chain
returns-in_err-follow_chain c =
    let p = err_from_is_err_and c.from_residual.result c.from_residual.ensures.1 in
    let bytes = c.args.self.now.bytes.now in
    let next = next_in bytes (base_of bytes) in
    let one = c.in_err-follow_chain.ensures ∙ ap (λ f. follow_marks next (records bytes) 255 f c.loop-bridge.met) c.head.ensures in
    let stop = all_more (head_of bytes) next (records bytes) c.args.met.now c.loop-bridge.bridge c.loop-bridge.met _ c.loop-bridge.auto.bridge c.loop-bridge.invariant one in
    rw (p.1, p.2) (sym (all_stop (head_of bytes) next (records bytes) c.args.met.now _ c.loop-bridge.bridge (bridges bytes) stop (omega arith)))
