-- Margins as they are told and lie in memory. Assumes nothing.
use Rattle.std.specs.Prelude.{ℕ, suc, Bool, false, cond, List, [], ◌∷◌, Some, None, Option as Held, ◌==◌}
use Rattle.std.proofs.Math.Option.{Option, none, some}
use Rattle.grade.specs.Told.{Reply, answers, refused}
use Rattle.theory.specs.Order.{better}
use Rattle.theory.specs.Arcs.{Arc, numbered}
use Rattle.theory.specs.Margins.{Margin as EndsOf}
use Rattle.theory.specs.Verdicts.{Verdict, no_route, outdone, accepted}
use Rattle.book.specs.declared.memory.Line.{Line}
use Rattle.standing.specs.Standing.{arc}
use Rattle.margins.specs.declared.margin.Margin.{Margin}
use Rattle.search.specs.Widths.{as_held}

abbrev pub as_told : {G : Type 0} → Held G → Option G
as_told None = none
as_told (Some g) = some g

-- how the code holds a margin
abbrev pub as_margin : {G : Type 0} → EndsOf G → Margin G
as_margin m = record { low = as_held m.low; high = as_held m.high }

-- a free slot's record stays, and a standing line's is its margin
abbrev pub record_of : {G : Type 0} → (Arc G → Margin G) → ℕ → Line G → Margin G → Margin G
record_of of k l old = cond (l.near == 0) old (of (arc k l))

-- the records of slots whose numbers count from k; records beyond the slots stay
abbrev pub margins_in : {G : Type 0} → (Arc G → Margin G) → ℕ → List (Line G) → List (Margin G) → List (Margin G)
margins_in of k [] out = out
margins_in of k (l ∷ ls) [] = []
margins_in of k (l ∷ ls) (o ∷ out) = record_of of k l o ∷ margins_in of (suc k) ls out

-- a record becomes the margin of the line of its number, and stays where no such line stands
abbrev pub record_at : {G : Type 0} → (Arc G → Margin G) → Option (Arc G) → Margin G → Margin G
record_at of none old = old
record_at of (some e) old = of e

-- each standing line's margin at the place of its number; the records count from number k
abbrev pub placed : {G : Type 0} → (Arc G → Margin G) → List (Arc G) → ℕ → List (Margin G) → List (Margin G)
placed of arcs k [] = []
placed of arcs k (o ∷ out) = record_at of (numbered arcs k) o ∷ placed of arcs (suc k) out

-- what a verdict on lines among these comes to: a refusal that writes nothing, or each line's margin at its place
abbrev pub verdict_told : {G : Type 0} → Verdict G → List (Arc G) → List (Margin G) → Reply (Unit {0}) × List (Margin G)
verdict_told no_route arcs out = (refused 11, out)
verdict_told outdone arcs out = (refused 12, out)
verdict_told (accepted of) arcs out = (answers tt, placed (λ e. as_margin (of e)) arcs 1 out)

-- whether a width that may be there is better than w
abbrev pub exceeds : {G : Type 0} → (G → G → Bool) → Held G → G → Bool
exceeds le None w = false
exceeds le (Some v) w = better le v w
