use Rattle.std.proofs.Common.{◌≡◌, ℕ, ◌≤◌, List, length, take, drop, string_bytes}
use Rattle.answers.specs.Answers.{tables}
use Rattle.input.specs.Filling.{kept}
use Rattle.console.proofs.Going.{Going}
use Rattle.console.proofs.blocks.answer_block.Given as goal

abbrev pub invariant-loop-used : goal.invariant-loop-used
invariant-loop-used l =
    (at : ℕ) × (at ≤ length l.block) × (l.rest ≡ drop at l.block)
    × ((line : List ℕ) → kept l.initial.held ≡ take 32 line → Going line l.block (tables l.initial.book) at (kept l.held) (string_bytes l.text) (tables l.book))

abbrev pub decreases-loop-used : goal.decreases-loop-used
decreases-loop-used l = length l.rest
