use Rattle.std.proofs.Common.{◌≡◌, ℕ, suc, ◌+◌, Bool, get_or, None, ap, ◌∙◌, arith}
use Rattle.std.proofs.lemmas.List.{get_or_default}
use Rattle.grade.specs.declared.slots.Slots.{Slots}
use Rattle.margins.specs.declared.margin.Margin.{Margin}
use Rattle.theory.specs.Arcs.{numbered as line_of}
use Rattle.standing.specs.Standing.{standing_from}
use Rattle.answers.specs.Answers.{is_there, row}
use Rattle.answers.proofs.Listing.{rows_more, rows_done}
use Rattle.answers.proofs.rows.write_rows.Goals as goal

abbrev none-limits : Margin Slots
none-limits = record { low = None; high = None }

pub loop-i-preserved : goal.loop-i-preserved
loop-i-preserved c =
    let i = c.loop-i.i in
    let ms = c.args.margins.now in
    let t : ℕ → Bool = λ k. is_there (line_of (standing_from 1 c.args.lines.now) k) in
    let next : i + 1 ≡ suc i = omega arith in
    rows_more t i ms c.loop-i.table (get_or ms i none-limits) c.row.result (omega arith) (omega arith)
    (get_or_default ms i none-limits (get_or ms i none-limits) (omega arith))
    (c.row.ensures ∙ ap (λ b. row b (get_or ms i none-limits)) (c.stands.ensures ∙ ap t next))
    ∙ c.loop-i.invariant

pub returns : goal.returns
returns c = rows_done _ c.loop-i.i c.args.margins.now c.loop-i.table (omega arith) (omega arith) ∙ c.loop-i.invariant
