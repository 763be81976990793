use Rattle.std.proofs.Common.{◌≡◌, ◌+◌, ◌-◌, true, set, sym, ap, ◌∙◌, arith}
use Rattle.stored.specs.Stored.{records, base_of, next_in}
use Rattle.stored.specs.Marks.{follow_marks}
use Rattle.stored.proofs.Follows.{follow-zero, follow_late, follow_bad, follow-more}
use Rattle.stored.proofs.layout.Shaped.follow_chain.Goals as goal

pub returns-then-index-eq0 : goal.returns-then-index-eq0
returns-then-index-eq0 c =
    let bytes = c.args.self.now.bytes.now in
    sym (follow-zero (next_in bytes (base_of bytes)) (records bytes) (255 - c.loop-step._step) c.loop-step.index c.loop-step.met c.if-index-eq0.true) ∙ c.loop-step.invariant

pub returns-in_default : goal.returns-in_default
returns-in_default c =
    let bytes = c.args.self.now.bytes.now in
    sym (follow_bad bytes (base_of bytes) (records bytes) (255 - c.loop-step._step) c.loop-step.index c.loop-step.met c.if-index-eq0.false c.in_default.ensures) ∙ c.loop-step.invariant

pub loop-step-preserved : goal.loop-step-preserved
loop-step-preserved c =
    let bytes = c.args.self.now.bytes.now in
    let next = next_in bytes (base_of bytes) in
    let more = follow-more bytes (base_of bytes) (records bytes) (255 - c.loop-step._step) c.loop-step.index c.loop-step.met c.if-index-eq0.false c.in-Some.record (omega arith) c.in-Some.ensures in
    let less : 255 - (c.loop-step._step + 1) ≡ 255 - c.loop-step._step - 1 = omega arith in
    ap (λ k. follow_marks next (records bytes) k c.in-Some.record.next (set c.loop-step.met (c.from.result - 1) true)) less
    ∙ ap (λ i. follow_marks next (records bytes) (255 - c.loop-step._step - 1) c.in-Some.record.next (set c.loop-step.met (i - 1) true)) c.from.ensures
    ∙ sym more ∙ c.loop-step.invariant

pub returns-then-index-eq0-2 : goal.returns-then-index-eq0-2
returns-then-index-eq0-2 c =
    let bytes = c.args.self.now.bytes.now in
    sym (follow-zero (next_in bytes (base_of bytes)) (records bytes) (255 - c.loop-step._step) c.loop-step.index c.loop-step.met c.if-index-eq0-2.true) ∙ c.loop-step.invariant

pub returns-else-index-eq0-2 : goal.returns-else-index-eq0-2
returns-else-index-eq0-2 c =
    let bytes = c.args.self.now.bytes.now in
    sym (follow_late (next_in bytes (base_of bytes)) (records bytes) (255 - c.loop-step._step) c.loop-step.index c.loop-step.met (omega arith) c.if-index-eq0-2.false) ∙ c.loop-step.invariant
