use Rattle.std.proofs.Common.{◌≡◌, ℕ, suc, ◌+◌, ◌-◌, set, sym, refl, ap, ◌∙◌, arith, eq-eqb, ne_eqb}
use Rattle.theory.specs.Search.{search_from}
use Rattle.search.specs.Marks.{state_of, takens}
use Rattle.search.proofs.States.{state_path, taken_set}
use Rattle.search.proofs.Searching.{turn_end, turn_on}
use Rattle.search.proofs.turns.run_turns.Goals as goal

pub loop-turn-preserved : goal.loop-turn-preserved
loop-turn-preserved g c =
    let le = g.N.Net.le in
    let read = g.N.Net.read c.args.net.now in
    let rule = g.N.Net.rule c.args.net.now in
    let ways = c.loop-turn.ways in
    let s = state_of read c.loop-turn.labels ways c.loop-turn.taken in
    let k : ℕ = c.args.n - (c.loop-turn._turn + 1) in
    let more : c.args.n - c.loop-turn._turn ≡ suc k = omega arith in
    ap (search_from le rule c.args.n c.args.end k) c.take_bridge.ensures
    ∙ sym (turn_on le rule c.args.n c.args.end s k c.in-Some.choice (c.in-Some.ensures.picks ways) (ne_eqb _ _ c.if-is_end.false))
    ∙ (rw more at c.loop-turn.invariant)

pub returns-then-is_end : goal.returns-then-is_end
returns-then-is_end g c =
    let le = g.N.Net.le in
    let read = g.N.Net.read c.args.net.now in
    let rule = g.N.Net.rule c.args.net.now in
    let ways = c.loop-turn.ways in
    let taken = c.loop-turn.taken in
    let s = state_of read c.loop-turn.labels ways taken in
    let k : ℕ = c.args.n - (c.loop-turn._turn + 1) in
    let more : c.args.n - c.loop-turn._turn ≡ suc k = omega arith in
    let chosen = c.in-Some.ensures in
    rw c.from.ensures (state_path refl (ap (λ u. takens (set taken u 1)) c.if-is_end.true ∙ taken_set taken c.args.end (omega (arith, chosen.within)))
    ∙ sym (turn_end le rule c.args.n c.args.end s k c.in-Some.choice (chosen.picks ways) (eq-eqb _ _ c.if-is_end.true))
    ∙ (rw more at c.loop-turn.invariant))
