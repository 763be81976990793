-- One turn of the search, by the choice as the code holds it. Assumes nothing.
use Rattle.std.proofs.Common.{◌≡◌, ℕ, suc, Bool, true, false, eqb, Some, None, Option as Held, sym, refl, ap, ◌∙◌}
use mathlib.Core.Option.{Option, none, some}
use Rattle.theory.specs.Search.{State, Rule, best, turn, turn_at, take_end, take_bridge, search_from, Choice as ChosenMark}
use Rattle.search.specs.declared.choice.Choice.{Choice}
use Rattle.search.specs.Choices.{forget}

module _ {X : Type 0} (le : X → X → Bool) (rule : Rule X) (n z : ℕ) where
  abbrev turned : (State X → State X) → State X → Held (Choice X) → State X
  turned go s None = s
  turned go s (Some c) = turn_at le rule z go s c.bridge c.label (eqb c.bridge z)

  turn-forget : (go : State X → State X) (s : State X) (c : Option (ChosenMark X)) → turn le rule z go s c ≡ turned go s (forget c)
  turn-forget go s none = refl
  turn-forget go s (some c) = refl

  module _ (s : State X) (k : ℕ) where
    by_choice : (r : Held (Choice X)) → r ≡ forget (best le s n) → search_from le rule n z (suc k) s ≡ turned (search_from le rule n z k) s r
    by_choice r e = turn-forget (search_from le rule n z k) s (best le s n) ∙ ap (turned (search_from le rule n z k) s) (sym e)

    -- no bridge is left to take
    pub turn_none : None ≡ forget (best le s n) → search_from le rule n z (suc k) s ≡ s
    turn_none e = by_choice None e

    -- the end is taken
    pub turn_end : (c : Choice X) → Some c ≡ forget (best le s n) → eqb c.bridge z ≡ true → search_from le rule n z (suc k) s ≡ take_end z s
    turn_end c e at_end = by_choice (Some c) e ∙ ap (turn_at le rule z (search_from le rule n z k) s c.bridge c.label) at_end

    -- another bridge is taken
    pub turn_on : (c : Choice X) → Some c ≡ forget (best le s n) → eqb c.bridge z ≡ false → search_from le rule n z (suc k) s ≡ search_from le rule n z k (take_bridge le rule c.bridge c.label s)
    turn_on c e on = by_choice (Some c) e ∙ ap (turn_at le rule z (search_from le rule n z k) s c.bridge c.label) on
