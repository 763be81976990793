-- The records of a table's slots are those of its standing lines. Assumes nothing.
use Rattle.std.proofs.Common.{◌≡◌, ℕ, suc, ◌<◌, Bool, true, false, cond, eqb, List, [], ◌∷◌, sym, refl, ap, ◌∙◌, arith, ne_eqb}
use mathlib.Core.Option.{some}
use Rattle.theory.specs.Arcs.{Arc, numbered}
use Rattle.theory.proofs.Tests.{eqb_self}
use Rattle.book.specs.declared.memory.Line.{Line}
use Rattle.standing.specs.Standing.{arc, standing_from}
use Rattle.margins.specs.declared.margin.Margin.{Margin}
use Rattle.margins.specs.Telling.{margins_in, record_at, placed}
use Rattle.margins.proofs.Picking.{below_standing}

module _ {G : Type 0} (of : Arc G → Margin G) where
  -- a line of a lower number has no place among the records
  placed_past : (e : Arc G) (arcs : List (Arc G)) (k : ℕ) (out : List (Margin G)) → e.number < k → placed of (e ∷ arcs) k out ≡ placed of arcs k out
  placed_past e arcs k [] lower = refl
  placed_past e arcs k (o ∷ out) lower =
      ap (λ t. record_at of (cond t (some e) (numbered arcs k)) o ∷ placed of (e ∷ arcs) (suc k) out) (ne_eqb e.number k (λ q. omega (arith, lower, q)))
      ∙ ap (λ (xs : List (Margin G)). record_at of (numbered arcs k) o ∷ xs) (placed_past e arcs (suc k) out (omega (arith, lower)))

  none_placed : (k : ℕ) (out : List (Margin G)) → out ≡ placed of [] k out
  none_placed k [] = refl
  none_placed k (o ∷ out) = ap (λ (xs : List (Margin G)). o ∷ xs) (none_placed (suc k) out)

  pub all_placed : (k : ℕ) (lines : List (Line G)) (out : List (Margin G)) → margins_in of k lines out ≡ placed of (standing_from k lines) k out
  all_placed k [] out = none_placed k out
  all_placed k (l ∷ ls) [] = refl
  all_placed k (l ∷ ls) (o ∷ out) = go (eqb l.near 0) (all_placed (suc k) ls out)
    where
      go : (free : Bool) → margins_in of (suc k) ls out ≡ placed of (standing_from (suc k) ls) (suc k) out
          → cond free o (of (arc k l)) ∷ margins_in of (suc k) ls out ≡ placed of (cond free (standing_from (suc k) ls) (arc k l ∷ standing_from (suc k) ls)) k (o ∷ out)
      go true rest =
          ap (λ (xs : List (Margin G)). o ∷ xs) rest
          ∙ sym (ap (λ f. record_at of f o ∷ placed of (standing_from (suc k) ls) (suc k) out) (below_standing ls (suc k) k (omega arith)))
      go false rest =
          ap (λ (xs : List (Margin G)). of (arc k l) ∷ xs) (rest ∙ sym (placed_past (arc k l) (standing_from (suc k) ls) (suc k) out (omega arith)))
          ∙ sym (ap (λ t. record_at of (cond t (some (arc k l)) (numbered (standing_from (suc k) ls) k)) o ∷ placed of (arc k l ∷ standing_from (suc k) ls) (suc k) out) (eqb_self k))
