use Rattle.std.proofs.Common.{◌≡◌, suc, ◌++◌, take, drop}
use Rattle.theory.specs.Arcs.{numbered as line_of}
use Rattle.standing.specs.Standing.{standing_from}
use Rattle.answers.specs.Answers.{is_there, rows}
use Rattle.answers.proofs.rows.write_rows.Given as goal

-- the rows written, with those that are left, are all rows
abbrev pub invariant-loop-i : goal.invariant-loop-i
invariant-loop-i l =
    take l.i l.table ++ rows (λ k. is_there (line_of (standing_from 1 l.lines) k)) (suc l.i) (drop l.i l.margins)
    ≡ rows (λ k. is_there (line_of (standing_from 1 l.lines) k)) 1 l.margins
