use Rattle.std.proofs.Common.{◌≡◌, ℕ, suc, ◌+◌, ◌-◌, length, Some, sym, ◌∙◌, arith, ne_eqb}
use Rattle.standing.specs.Standing.{arc}
use Rattle.search.specs.Chains.{chain}
use Rattle.search.proofs.Offers.{chain_more}
use Rattle.search.proofs.Lookups.{number_on}
use Rattle.search.proofs.chain.number_towards.Goals as goal

pub loop-step-preserved : goal.loop-step-preserved
loop-step-preserved g c =
    let lines = c.args.lines.now in
    let k : ℕ = length lines - (c.loop-step._step + 1) in
    let more : length lines - c.loop-step._step ≡ suc k = omega arith in
    let line = c.in_ok-line.line in
    sym (number_on c.args.far (arc c.loop-step.slot line) (chain lines k line.next) (ne_eqb _ _ c.if-far-line.false))
    ∙ (rw (more, chain_more lines k c.loop-step.slot (Some line) c.in_ok-line.ensures) at c.loop-step.invariant)
