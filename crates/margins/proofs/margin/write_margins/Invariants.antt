use Rattle.std.proofs.Common.{◌≡◌, suc, ◌++◌, take, drop}
use Rattle.theory.specs.Arcs.{Proper}
use Rattle.theory.specs.Lists.{Each}
use Rattle.standing.specs.Standing.{standing_from}
use Rattle.margins.specs.Telling.{margins_in}
use Rattle.margins.specs.Asked.{margin_told}
use Rattle.margins.proofs.margin.write_margins.Given as goal

-- what is written, with what the slots that are left make of the rest, is what all slots make of the memory before
abbrev pub invariant-loop-place : goal.invariant-loop-place
invariant-loop-place g l = record {
  whole : take l.place l.out ++ margins_in (margin_told g.G.Grade.le l.asked) (suc l.place) (drop l.place l.asked.tables.now.lines.now) (drop l.place l.out) ≡ margins_in (margin_told g.G.Grade.le l.asked) 1 l.asked.tables.now.lines.now l.initial.out;
  proper : Each (Proper l.asked.tables.now.n) (standing_from (suc l.place) (drop l.place l.asked.tables.now.lines.now));
}
