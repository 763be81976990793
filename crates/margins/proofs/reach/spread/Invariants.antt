use Rattle.std.proofs.Common.{◌≡◌, ℕ, suc, ◌<◌, ◌||◌, length, drop}
use Rattle.theory.specs.Lists.{Each}
use Rattle.theory.specs.Reach.{leads}
use Rattle.search.specs.Marks.{takens}
use Rattle.standing.specs.Standing.{standing_from}
use Rattle.margins.specs.Facing.{pick, faced}
use Rattle.margins.specs.Standing.{standing}
use Rattle.margins.proofs.reach.spread.Given as goal

-- what is marked, with what the slots that are left add, is what the whole table makes of the marks before
abbrev pub invariant-loop-line : goal.invariant-loop-line
invariant-loop-line g l =
    ((b : ℕ) → (takens l.spreading b || leads g.G.Grade.le l.bar (takens l.marked) (faced l.way (standing_from (suc l.line-index) (drop l.line-index l.lines))) b) ≡ (takens l.initial.spreading b || leads g.G.Grade.le l.bar (takens l.marked) (faced l.way (standing l.lines)) b))
    × Each (λ e. pick l.way e.far e.near < length l.initial.spreading) (standing_from (suc l.line-index) (drop l.line-index l.lines))
