use Rattle.std.proofs.Common.{◌+◌, ◌<◌, ◌≤◌, leb, List, length, get_or, drop, sym, ap, ◌∙◌, arith}
use Rattle.std.proofs.lemmas.List.{drop_all, drop_more}
use Rattle.theory.specs.Widest.{label_le, narrow}
use Rattle.search.specs.Marks.{marks, offered_all}
use Rattle.turn.specs.Doubling.{Row, pair_slots, pair_label_of, other_end, crossing, crossings}
use Rattle.turn.proofs.Crossing.{offered-append}
use Rattle.turn.proofs.doubled.offer_all.Goals as goal

pub loop-at-preserved : goal.loop-at-preserved
loop-at-preserved c =
    let lines = c.args.net.now.lines.now in
    let partners = c.args.net.now.partners.now in
    let now-marks = marks (pair_label_of lines partners) c.loop-at.labels c.loop-at.ways in
    let u = c.args.from in
    let x = c.args.held.label in
    let k = c.loop-at.at in
    let d : Row = record { near = 0; far = 0; next = 0; grade = record { raw = 0 } } in
    let l : Row = get_or lines k d in
    let here : k < length lines = omega arith in
    ap (offered_all (label_le leb) (narrow leb) u x (crossings lines partners u (k + 1) (drop (k + 1) lines))) c.offer_across.ensures
    ∙ sym (offered-append (label_le leb) (narrow leb) u x (crossing u (k + 1) (pair_slots lines partners k l) (other_end l u)) (crossings lines partners u (k + 1) (drop (k + 1) lines)) now-marks)
    ∙ sym (ap (λ (ls : List Row). offered_all (label_le leb) (narrow leb) u x (crossings lines partners u k ls) now-marks) (drop_more lines k d here))
    ∙ c.loop-at.invariant

pub returns : goal.returns
returns c =
    let lines = c.args.net.now.lines.now in
    let partners = c.args.net.now.partners.now in
    let done : length lines ≤ c.loop-at.at = omega arith in
    sym (ap (λ (ls : List Row). offered_all (label_le leb) (narrow leb) c.args.from c.args.held.label (crossings lines partners c.args.from c.loop-at.at ls) (marks (pair_label_of lines partners) c.loop-at.labels c.loop-at.ways)) (drop_all c.loop-at.at lines done))
    ∙ c.loop-at.invariant
