-- What one line more adds to the load, and how large a load can be. Assumes nothing.
use Rattle.std.proofs.Common.{◌≡◌, ◌*◌, ◌≤◌, Bool, true, false, cond, not, eqb, List, [], ◌∷◌, length, sym, refl, ap, ◌∙◌, arith}
use Rattle.std.specs.List.{AllByRecursion as All}
use Rattle.std.proofs.ByRecursion.{sum_by_le}
use Rattle.grade.specs.declared.slots.Slots.{Slots}
use Rattle.grade.specs.Kinds.{slots_of}
use Rattle.book.specs.declared.memory.Line.{Line}
use Rattle.turn.specs.Loads.{share, load_of}

-- a record adds its slots where a line stands in it (the test)
pub share_is : (line : Line Slots) (stands : Bool) → stands ≡ not (eqb line.near 0) → share slots_of line ≡ cond stands (slots_of line.grade) 0
share_is line stands is = go (eqb line.near 0) ∙ ap (λ t. cond t (slots_of line.grade) 0) (sym is)
  where
    go : (free : Bool) → cond free 0 (slots_of line.grade) ≡ cond (not free) (slots_of line.grade) 0
    go true = refl
    go false = refl

-- a grade is read as at most 1,048,576 slots
pub slots_few : (g : Slots) → slots_of g ≤ 1048576
slots_few g = omega arith

share_few : (b : Bool) (g : Slots) → cond b 0 (slots_of g) ≤ 1048576
share_few true g = omega arith
share_few false g = slots_few g

shares_few : (lines : List (Line Slots)) → All (λ line. share slots_of line ≤ 1048576) lines
shares_few [] = tt
shares_few (line ∷ lines) = (share_few (eqb line.near 0) line.grade, shares_few lines)

pub load_few : (lines : List (Line Slots)) → load_of slots_of lines ≤ length lines * 1048576
load_few lines = sum_by_le (share slots_of) 1048576 lines (shares_few lines)
