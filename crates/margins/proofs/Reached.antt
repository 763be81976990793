-- A bridge reaches another over lines better than w exactly where they are one, or the best width between them is better than w. Assumes nothing.
use Rattle.std.proofs.Common.{◌≡◌, ℕ, Bool, true, false, not, List, Some, None, Option as Held, sym, refl}
use mathlib.Core.Option.{Option, none, some}
use Rattle.theory.specs.Order.{Ranked}
use Rattle.theory.specs.Arcs.{Arc, Pair, Lines, Answer}
use Rattle.theory.specs.Reach.{reaches}
use Rattle.theory.specs.Widest.{best_width}
use Rattle.theory.proofs.Tests.{false_unless}
use Rattle.theory.proofs.Walks.{over_none}
use Rattle.theory.proofs.Routes.{reach_over, over_reach, route_reach}
use Rattle.theory.proofs.Reaching.{reaches_tell}
use Rattle.theory.proofs.Judges.{width_answers}
use Rattle.theory.proofs.Margins.{answer_blocks}
use Rattle.theory.proofs.MarginEnds.{lines_without}
use Rattle.search.specs.Chains.{omitting}
use Rattle.search.specs.Widths.{as_held}
use Rattle.margins.specs.Telling.{exceeds}

-- lines stay proper with one left out
pub lines_omitting : {G : Type 0} (n : ℕ) (arcs : List (Arc G)) (skip : Held ℕ) → Lines n arcs → Lines n (omitting skip arcs)
lines_omitting n arcs None L = L
lines_omitting n arcs (Some k) L = lines_without n arcs k L

module _ {G : Type 0} (le : G → G → Bool) (n : ℕ) (arcs : List (Arc G)) (L : Lines n arcs) (w : G) where
  pub reaches_itself : (a b : ℕ) → a ≡ b → true ≡ reaches le n arcs w a b
  reaches_itself a b e = sym ((reaches_tell le n arcs L w a b).1 (over_none e))

  by_answer : Ranked le → (a b : ℕ) → (a ≡ b → ⊥) → (o : Option G) → Answer le arcs a b o → exceeds le (as_held o) w ≡ reaches le n arcs w a b
  by_answer R a b ne none answer = sym (false_unless _ (λ t. answer_blocks R arcs a b ne none answer w tt (reach_over le arcs w ((reaches_tell le n arcs L w a b).0 t))))
  by_answer R a b ne (some v) answer = go (le v w) refl
    where
      go : (t : Bool) → le v w ≡ t → not t ≡ reaches le n arcs w a b
      go true low = sym (false_unless _ (λ t. answer_blocks R arcs a b ne (some v) answer w low (reach_over le arcs w ((reaches_tell le n arcs L w a b).0 t))))
      go false high = sym ((reaches_tell le n arcs L w a b).1 (over_reach le arcs w (route_reach R arcs w a b answer.0 v answer.1.route answer.1.is high)))

  -- the best width between two bridges tells whether one reaches the other
  pub reaches-best : Ranked le → (a b : ℕ) → Pair n a b → exceeds le (as_held (best_width le arcs n a b)) w ≡ reaches le n arcs w a b
  reaches-best R a b ends = by_answer R a b ends.differ (best_width le arcs n a b) (width_answers le R n arcs L a b ends)
