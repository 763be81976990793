use Rattle.std.proofs.Common.{◌≡◌, ℕ, suc, ◌+◌, ◌-◌, ◌<◌, ◌∷◌, length, get_or, drop, sym, ap, ◌∙◌, arith, ne_eqb}
use Rattle.std.proofs.lemmas.List.{drop-set}
use Rattle.search.specs.Ways.{back}
use Rattle.search.proofs.Backward.{back_more}
use Rattle.search.proofs.way.way_back.Goals as goal

pub loop-at-preserved : goal.loop-at-preserved
loop-at-preserved g c =
    let read = g.N.Net.read c.args.net.now in
    let labels = c.args.ended.now.labels.now in
    let ways = c.args.ended.now.ways.now in
    let a = c.args.ends.start in
    let spare = c.loop-at.spare in
    let at = c.loop-at.at in
    let v = c.loop-at.bridge in
    let p : ℕ = at - 1 in
    let lt : p < length spare = omega arith in
    let up : p + 1 ≡ at = omega arith in
    let next : suc p ≡ at = omega arith in (
      omega arith,
      rw c.from-place.ensures (ap (back read labels ways p a (get_or ways v 0)) (drop-set spare p v lt ∙ ap (λ j. v ∷ drop j spare) up)
          ∙ sym (back_more read labels ways a v (drop at spare) p c.in-Some._label (ne_eqb _ _ c.if-bridge-ends.false) (rw c.from-place.ensures at c.in-Some.ensures))
          ∙ ap (λ k. back read labels ways k a v (drop at spare)) next
          ∙ c.loop-at.invariant.1),
    )
