use Rattle.std.proofs.Common.{◌≡◌, leb, drop}
use Rattle.theory.specs.Widest.{label_le, narrow}
use Rattle.search.specs.Marks.{marks, offered_all}
use Rattle.turn.specs.Doubling.{pair_label_of, crossings}
use Rattle.turn.proofs.doubled.offer_all.Given as goal

-- the lines that are left make of the marks now what all make of the marks before
abbrev pub invariant-loop-at : goal.invariant-loop-at
invariant-loop-at l =
    offered_all (label_le leb) (narrow leb) l.from l.held.label (crossings l.net.lines.now l.net.partners.now l.from l.at (drop l.at l.net.lines.now)) (marks (pair_label_of l.net.lines.now l.net.partners.now) l.labels l.ways)
    ≡ offered_all (label_le leb) (narrow leb) l.from l.held.label (crossings l.net.lines.now l.net.partners.now l.from 0 l.net.lines.now) (marks (pair_label_of l.net.lines.now l.net.partners.now) l.initial.labels l.initial.ways)
