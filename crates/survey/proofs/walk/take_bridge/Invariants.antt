use Rattle.std.proofs.Common.{◌≡◌, ℕ, ◌-◌, ◌≤◌, List, [], drop}
use Rattle.field.specs.Meaning.{entries}
use Rattle.survey.specs.Walk.{read_list}
use Rattle.survey.specs.Working.{FoundIn, Stamped, stands_for}
use Rattle.survey.proofs.walk.take_bridge.Given as goal

-- reading the rest of the list from here gives what reading all of it gives
abbrev pub invariant-loop-position : goal.invariant-loop-position
invariant-loop-position g l =
    let es = entries (g.F.Field.tells l.initial.field l.near) in
    let n = l.limits.bridges in
    (g.F.Field.tells l.field ≡ g.F.Field.tells l.initial.field)
    × (l.now_told.lines ≤ l.limits.lines)
    × FoundIn n l.order l.marks l.now_told.found
    × ((before : List ℕ)
    × Stamped n l.turn l.stamps before
    × (read_list n l.limits.lines l.near l.position before (stands_for l.order l.now_told) (drop (l.position - 1) es) ≡ read_list n l.limits.lines l.near 1 [] (stands_for l.initial.order l.initial.now_told) es))
