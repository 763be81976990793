use Rattle.std.proofs.Common.{leb, sym, ap, ◌∙◌}
use Rattle.theory.specs.Widest.{label_le}
use Rattle.search.specs.Marks.{marks, offered_to}
use Rattle.turn.specs.Doubling.{pair_label_of}
use Rattle.turn.proofs.doubled.offer_to.Goals as goal

pub returns : goal.returns
returns c =
    let read = pair_label_of c.args.net.now.lines.now c.args.net.now.partners.now in
    let handed = c.hand_down-offer.ensures in
    c.offer_label.ensures read (sym (rw c.from.ensures at c.pair_label-own.ensures)) (handed.number read c.requires.held c.requires.slots)
    ∙ ap (λ y. offered_to (label_le leb) c.args.from y c.args.to (marks read c.args.labels.now c.args.ways.now)) handed.label
