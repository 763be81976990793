-- Lines followed forward or backward. Assumes nothing.
use Rattle.std.specs.Prelude.{ℕ, Bool, false, cond, ◌&&◌, List, map, ◌==◌}
use Rattle.theory.specs.Arcs.{Arc}
use Rattle.theory.specs.Order.{better}
use Rattle.book.specs.declared.memory.Line.{Line}
use Rattle.margins.specs.declared.reach.Direction.{Direction}
use Rattle.margins.specs.declared.reach.Direction.TheVariants.{Forward, Backward}

-- the first of two bridges going forward, the second going backward
abbrev pub pick : Direction → ℕ → ℕ → ℕ
pick Forward a b = a
pick Backward a b = b

-- a line as it is followed
abbrev pub facing : {G : Type 0} → Direction → Arc G → Arc G
facing d e = record { number = e.number; near = pick d e.near e.far; far = pick d e.far e.near; grade = e.grade }

abbrev pub faced : {G : Type 0} → Direction → List (Arc G) → List (Arc G)
faced d es = map (facing d) es

-- the line in a slot stands, is better than the bar and leaves a marked bridge
abbrev pub steps : {G : Type 0} → (G → G → Bool) → G → Direction → (ℕ → Bool) → Line G → Bool
steps le bar d marked line = cond (line.near == 0) false (better le line.grade bar && marked (pick d line.near line.far))
