use Rattle.std.proofs.Common.{◌≡◌, ◌+◌, ◌-◌, ◌≤◌}
use Rattle.survey.specs.Walk.{walk_on, walked}
use Rattle.survey.specs.Working.{FoundIn, Unstamped, stands_for}
use Rattle.survey.proofs.walk.walk.Given as goal

-- walking on from here gives what the whole walk gives
abbrev pub invariant-loop-taken : goal.invariant-loop-taken
invariant-loop-taken g l =
    let tells = g.F.Field.tells l.initial.field in
    let n = l.limits.bridges in
    (g.F.Field.tells l.field ≡ tells)
    × (l.tally.lines ≤ l.limits.lines)
    × FoundIn n l.order l.marks l.tally.found
    × Unstamped n (l.taken + 1) l.stamps
    × (walk_on tells n l.limits.lines (n - l.taken) l.taken (stands_for l.order l.tally) ≡ walked tells n l.limits.lines l.start)
