use Rattle.std.proofs.Common.{ℕ, ◌+◌, leb, Option as Maybe, ap, ◌∙◌}
use Rattle.theory.specs.Order.{lower}
use Rattle.theory.specs.Widest.{label_le, narrow}
use Rattle.theory.specs.declared.labels.Label.TheVariants.{Limited}
use Rattle.search.specs.Marks.{marks, offered_to, offered_all}
use Rattle.turn.specs.Doubling.{pair_slots, pair_label_of, crossing}
use Rattle.turn.proofs.doubled.offer_across.Goals as goal

pub returns : goal.returns
returns c =
    let lines = c.args.net.now.lines.now in
    let partners = c.args.net.now.partners.now in
    let before = marks (pair_label_of lines partners) c.args.labels.now c.args.ways.now in
    let u = c.args.from in
    let sum = pair_slots lines partners c.args.at c.args.line in
    c.offer_to.ensures
    ∙ ap (λ (s : ℕ). offered_to (label_le leb) u (lower (label_le leb) c.args.held.label (Limited s)) c.in-Some.to before) c.slots_both-slots.ensures
    ∙ ap (λ (o : Maybe ℕ). offered_all (label_le leb) (narrow leb) u c.args.held.label (crossing u (c.args.at + 1) sum o) before) c.in-Some.ensures
