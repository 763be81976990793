use Rattle.std.proofs.Common.{sym, refl, ap, ◌∙◌, arith}
use mathlib.Core.Option.{none, some}
use Rattle.grade.specs.Told.{answers}
use Rattle.theory.specs.Widest.{best_width}
use Rattle.theory.specs.Verdicts.{verdict_on, accepted}
use Rattle.margins.specs.Standing.{standing}
use Rattle.margins.specs.Picking.{picked}
use Rattle.margins.specs.Telling.{verdict_told}
use Rattle.search.specs.Chains.{omitting}
use Rattle.margins.proofs.Placing.{all_placed}
use Rattle.margins.proofs.Verdicts.{verdict_by, ends_apart, two_bridges, margin_listed, held_told}
use Rattle.margins.proofs.judging.judge.Goals as goal

pub returns-in_default-lowest_but : goal.returns-in_default-lowest_but
returns-in_default-lowest_but g c =
    let le = g.G.Grade.le in
    let lines = c.args.tables.now.lines.now in
    let ks = c.args.numbers.now in
    let wide = held_told _ _ c.in_default-lowest_but.ensures in
    sym (ap (λ v. verdict_told v (standing lines) c.args.out.now) (verdict_by le c.args.tables.now.n (standing lines) ks (c.in-Some.ends.start, c.in-Some.ends.end) c.in-Some.ensures none _ wide refl))

pub best_width-requires : goal.best_width-requires
best_width-requires g c =
    let pair = ends_apart g.G.Grade.le c.args.tables.now.n (standing c.args.tables.now.lines.now) c.args.numbers.now c.requires.proper (c.in-Some.ends.start, c.in-Some.ends.end) c.in-Some.ensures in
    record { work = omega (arith, c.requires.work, two_bridges pair); start = pair.near_to; end = pair.far_to }

pub returns-then-not-at_most : goal.returns-then-not-at_most
returns-then-not-at_most g c =
    let le = g.G.Grade.le in
    let lines = c.args.tables.now.lines.now in
    let ks = c.args.numbers.now in
    let ends = c.in-Some.ends in
    let w = c.in-Some-lowest_but.width in
    let v = c.in-Some-best_width.best in
    let wide = held_told _ _ c.in-Some-lowest_but.ensures in
    let best = ap (λ skip. best_width le (omitting skip (standing lines)) c.args.tables.now.n ends.start ends.end) (sym c.requires.whole) ∙ held_told _ _ (c.in-Some-best_width.ensures (standing lines) c.requires.holds c.requires.proper.apart) in
    sym (ap (λ r. verdict_told r (standing lines) c.args.out.now)
    (verdict_by le c.args.tables.now.n (standing lines) ks (ends.start, ends.end) c.in-Some.ensures (some w) (some v) wide best
    ∙ sym (ap (verdict_on le c.args.tables.now.n (standing lines) ends.start ends.end (picked (standing lines) ks) w) c.if-not-at_most.ensures)))

pub tell_margins-requires : goal.tell_margins-requires
tell_margins-requires g c =
    let pair = ends_apart g.G.Grade.le c.args.tables.now.n (standing c.args.tables.now.lines.now) c.args.numbers.now c.requires.proper (c.in-Some.ends.start, c.in-Some.ends.end) c.in-Some.ensures in
    record {
      sound = record { holds = c.requires.holds; proper = c.requires.proper; ends = pair };
      work = omega (arith, c.requires.work, c.best_width.auto.work, two_bridges pair);
      out = c.requires.out;
    }

pub returns : goal.returns
returns g c =
    let le = g.G.Grade.le in
    let lines = c.args.tables.now.lines.now in
    let ks = c.args.numbers.now in
    let ends = c.in-Some.ends in
    let w = c.in-Some-lowest_but.width in
    let v = c.in-Some-best_width.best in
    let wide = held_told _ _ c.in-Some-lowest_but.ensures in
    let best = ap (λ skip. best_width le (omitting skip (standing lines)) c.args.tables.now.n ends.start ends.end) (sym c.requires.whole) ∙ held_told _ _ (c.in-Some-best_width.ensures (standing lines) c.requires.holds c.requires.proper.apart) in
    let verdict =
    verdict_by le c.args.tables.now.n (standing lines) ks (ends.start, ends.end) c.in-Some.ensures (some w) (some v) wide best
    ∙ sym (ap (verdict_on le c.args.tables.now.n (standing lines) ends.start ends.end (picked (standing lines) ks) w) c.if-not-at_most.ensures)
    ∙ ap accepted (margin_listed le c.args.tables.now.n (standing lines) ks (ends.start, ends.end) c.in-Some.ensures ends.start ends.end w) in
    ap (λ xs. (answers tt, xs)) (c.tell_margins.ensures ∙ all_placed _ 1 lines c.args.out.now)
    ∙ sym (ap (λ r. verdict_told r (standing lines) c.args.out.now) verdict)
