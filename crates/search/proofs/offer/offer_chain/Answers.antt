use Rattle.std.proofs.Common.{◌≡◌, ℕ, suc, ◌+◌, ◌-◌, length, Some, None, sym, ap, ◌∙◌, arith}
use Rattle.theory.specs.Widest.{label_le, narrow}
use Rattle.standing.specs.Standing.{arc}
use Rattle.search.specs.Labels.{label_of}
use Rattle.search.specs.Chains.{chain, omitting}
use Rattle.search.specs.Marks.{marks, offered_all}
use Rattle.search.proofs.Offers.{chain_more}
use Rattle.search.proofs.Skipping.{offered_split, none_omitted}
use Rattle.search.proofs.offer.offer_chain.Goals as goal

pub loop-step-preserved : goal.loop-step-preserved
loop-step-preserved g c =
    let lines = c.args.tables.now.lines.now in
    let k : ℕ = length lines - (c.loop-step._step + 1) in
    let more : length lines - c.loop-step._step ≡ suc k = omega arith in
    let here = rw (more, chain_more lines k c.loop-step.slot (Some c.in-Some.line) c.in-Some.ensures) at c.loop-step.invariant in
    let le = g.G.Grade.le in
    let x = c.args.held.label in
    let skip = c.args.tables.now.skip in
    let line = c.in-Some.line in
    let rest = chain lines k line.next in (
      ap (offered_all (label_le le) (narrow le) c.args.from x (omitting skip rest)) c.offer_unless.ensures
          ∙ sym (offered_split (label_le le) (narrow le) c.args.from x skip (arc c.loop-step.slot line) rest (marks (label_of lines) c.loop-step.labels c.loop-step.ways))
          ∙ here.0,
      here.1.1,
    )

pub returns : goal.returns
returns g c =
    let done : length c.args.tables.now.lines.now - c.loop-step._step ≡ 0 = omega arith in
    rw (done, none_omitted c.args.tables.now.skip) at c.loop-step.invariant.0

pub returns-in_default : goal.returns-in_default
returns-in_default g c =
    let lines = c.args.tables.now.lines.now in
    let k : ℕ = length lines - (c.loop-step._step + 1) in
    let more : length lines - c.loop-step._step ≡ suc k = omega arith in
    rw (more, chain_more lines k c.loop-step.slot None c.in_default.ensures, none_omitted c.args.tables.now.skip) at c.loop-step.invariant.0
