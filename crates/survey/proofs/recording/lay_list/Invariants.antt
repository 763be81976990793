use Rattle.std.proofs.Common.{◌≡◌, ◌-◌, drop}
use Rattle.book.specs.Memory.{memory}
use Rattle.field.specs.Meaning.{entries}
use Rattle.survey.specs.Walk.{lines_from}
use Rattle.survey.specs.Recording.{lay_all}
use Rattle.survey.specs.Laying.{ReadyRest}
use Rattle.survey.proofs.recording.lay_list.Given as goal

-- laying the rest of the list gives what laying all of it gives
abbrev pub invariant-loop-k : goal.invariant-loop-k
invariant-loop-k g l =
    let es = entries (g.F.Field.tells l.initial.field l.near) in
    (g.F.Field.tells l.field ≡ g.F.Field.tells l.initial.field)
    × ReadyRest (memory l.head l.first l.lines) l.near l.last (drop (l.k - 1) es)
    × (lay_all (memory l.head l.first l.lines) (lines_from l.near (drop (l.k - 1) es)) ≡ lay_all (memory l.initial.head l.initial.first l.initial.lines) (lines_from l.near es))
