use Rattle.std.proofs.Common.{◌≡◌, drop}
use Rattle.book.specs.Memory.{memory}
use Rattle.survey.specs.Walk.{recorded}
use Rattle.survey.specs.Recording.{lay_all}
use Rattle.survey.specs.Laying.{ReadyLists}
use Rattle.survey.proofs.recording.lay_lists.Given as goal

-- laying the lists of the other bridges gives what laying all lists gives
abbrev pub invariant-loop-near : goal.invariant-loop-near
invariant-loop-near g l =
    let tells = g.F.Field.tells l.initial.field in
    (g.F.Field.tells l.field ≡ tells)
    × ReadyLists tells (memory l.head l.first l.lines) (drop l.near-index l.order)
    × (lay_all (memory l.head l.first l.lines) (recorded tells (drop l.near-index l.order)) ≡ lay_all (memory l.initial.head l.initial.first l.initial.lines) (recorded tells l.order))
