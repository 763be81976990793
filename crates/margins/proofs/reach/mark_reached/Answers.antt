use Rattle.std.proofs.Common.{◌≡◌, ℕ, suc, ◌||◌, sym, refl, ap, ◌∙◌, add-one, arith}
use Rattle.theory.specs.Reach.{leads, marks}
use Rattle.search.specs.Marks.{takens}
use Rattle.margins.specs.Standing.{standing}
use Rattle.margins.specs.Facing.{faced}
use Rattle.margins.proofs.Reaching.{round_more, settled}
use Rattle.margins.proofs.reach.mark_reached.Goals as goal

pub loop-round-preserved : goal.loop-round-preserved
loop-round-preserved g c =
    let le = g.G.Grade.le in
    let arcs = faced c.args.way (standing c.args.tables.now.lines.now) in
    rw add-one (λ b.
    ap (λ s. takens s b) c.copy_from_slice-in-loop-round.ensures.after
    ∙ c.spread.ensures b
    ∙ ap (λ s. takens s b || leads le c.args.bar (takens c.loop-round.marked) arcs b) c.copy_from_slice.ensures.after
    ∙ round_more le arcs c.args.bar c.args.from c.loop-round._round (takens c.loop-round.marked) c.loop-round.invariant b)

pub returns-then-is_same : goal.returns-then-is_same
returns-then-is_same g c =
    let le = g.G.Grade.le in
    let arcs = faced c.args.way (standing c.args.tables.now.lines.now) in
    let k = c.loop-round._round in
    let more : (b : ℕ) → marks le arcs c.args.bar c.args.from (suc k) b ≡ marks le arcs c.args.bar c.args.from k b = λ b.
    sym (round_more le arcs c.args.bar c.args.from k (takens c.loop-round.marked) c.loop-round.invariant b)
    ∙ sym (ap (λ s. takens s b || leads le c.args.bar (takens c.loop-round.marked) arcs b) c.copy_from_slice.ensures.after)
    ∙ sym (c.spread.ensures b)
    ∙ sym (ap (λ s. takens s b) (c.if-is_same.ensures refl))
    ∙ c.loop-round.invariant b
    in
    λ b. c.loop-round.invariant b ∙ settled le arcs c.args.bar c.args.from k c.args.tables.now.n (omega arith) more b
