use Rattle.std.proofs.Common.{suc, ◌<◌, ◌++◌, length, take, drop, sym, ap, ◌∙◌, add-one, arith}
use Rattle.std.proofs.lemmas.Bool.{not-false, not-true}
use Rattle.margins.specs.Telling.{margins_in}
use Rattle.margins.specs.Asked.{margin_told}
use Rattle.margins.proofs.Reaching.{drop_read, each-rest}
use Rattle.margins.proofs.Telling.{margins_kept, margins_put}
use Rattle.margins.proofs.margin.write_margins.Goals as goal
use Rattle.margins.proofs.margin.write_margins.Goals.{then-stands, else-stands}

pub loop-place-preserved : goal.loop-place-preserved
loop-place-preserved g c =
    let t = c.args.asked.now in
    let lines = t.tables.now.lines.now in
    let of = margin_told g.G.Grade.le t in
    let i = c.loop-place.place in
    let l = c.line-item.result in
    let out = c.loop-place.out in
    let within : i < length out = omega (arith, c.loop-place.auto.out, c.requires.out, c.loop-place-test.true) in
    let here = drop_read lines i l c.loop-place-test.true c.line-item.is in
    let others = drop (suc i) lines in
    let whole = rw here at c.loop-place.invariant.whole in
    let proper = rw here at c.loop-place.invariant.proper in
    record {
      whole = rw add-one (elim c.if-stands.branch [
        | then-stands w ↦
            ap (λ xs. take (suc i) xs ++ margins_in of (suc (suc i)) others (drop (suc i) xs)) w.out-is
            ∙ margins_put of (suc i) i l others out w.margin_of.result within (not-true _ (sym c.stands.ensures ∙ w.if-stands.true)) (rw add-one at w.margin_of.ensures)
            ∙ whole
        | else-stands w ↦
            ap (λ xs. take (suc i) xs ++ margins_in of (suc (suc i)) others (drop (suc i) xs)) w.out-is
            ∙ margins_kept of (suc i) i l others out within (not-false _ (sym c.stands.ensures ∙ w.if-stands.false))
            ∙ whole
      ]);
      proper = rw add-one (each-rest _ (suc i) l others proper);
    }
