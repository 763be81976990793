use Rattle.std.proofs.Common.{◌≡◌, ℕ, suc, ◌<◌, ◌||◌, length, drop, set, ap, ◌∙◌, add-one, arith}
use Rattle.theory.specs.Reach.{leads}
use Rattle.search.specs.Marks.{takens}
use Rattle.standing.specs.Standing.{standing_from}
use Rattle.margins.specs.Facing.{pick, faced}
use Rattle.margins.proofs.Reaching.{drop_read, spread_marks, spread_stays, each_on, each-rest}
use Rattle.margins.proofs.reach.spread.Goals as goal
use Rattle.margins.proofs.reach.spread.Goals.{then-leads_on, else-leads_on}

pub loop-line-preserved : goal.loop-line-preserved
loop-line-preserved g c =
    let le = g.G.Grade.le in
    let way = c.args.way in
    let i = c.loop-line.line-index in
    let l = c.line-item.result in
    let others = drop (suc i) c.args.lines.now in
    let marked = takens c.args.marked.now in
    let before = c.loop-line.spreading in
    let inv = rw (drop_read c.args.lines.now i l c.loop-line-test.true c.line-item.is) at c.loop-line.invariant in
    rw add-one (
      (λ b.
          elim c.if-leads_on.branch [
            | then-leads_on w ↦
                let on = w.if-leads_on.ensures in
                let to : w.from.result ≡ pick way l.far l.near = w.from.ensures ∙ w.bridge.ensures in
                let within : pick way l.far l.near < length c.args.spreading.now = each_on _ le c.args.bar way marked (suc i) l others on inv.1 in
                let within' : pick way l.far l.near < length before = omega (arith, within, c.loop-line.auto.spreading) in
                ap (λ s. takens s b || leads le c.args.bar marked (faced way (standing_from (suc (suc i)) others)) b) (w.spreading-is ∙ ap (λ (k : ℕ). set before k 1) to)
                ∙ spread_marks le c.args.bar way marked (suc i) l others before within' on b
                ∙ inv.0 b
            | else-leads_on w ↦
                ap (λ s. takens s b || leads le c.args.bar marked (faced way (standing_from (suc (suc i)) others)) b) w.spreading-is
                ∙ spread_stays le c.args.bar way marked (suc i) l others before w.if-leads_on.ensures b
                ∙ inv.0 b
          ]),
      each-rest _ (suc i) l others inv.1,
    )
