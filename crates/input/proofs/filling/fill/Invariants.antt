use Rattle.std.proofs.Common.{◌≡◌, ℕ, List, take, drop}
use Rattle.input.specs.Lines.{finished, unfinished}
use Rattle.input.specs.Filling.{kept}
use Rattle.input.proofs.filling.fill.Given as goal

-- the line has grown, and the rest of the block does to it what the block did to the line before
abbrev pub invariant-loop-i : goal.invariant-loop-i
invariant-loop-i l = (line : List ℕ) → kept l.initial.held ≡ take 32 line → (grown : List ℕ) × (kept l.held ≡ take 32 grown) × (finished line l.block ≡ finished grown (drop l.i l.block)) × (unfinished line l.block ≡ unfinished grown (drop l.i l.block))
