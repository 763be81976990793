-- The choice of the bridge to take next, as the code holds it. Assumes nothing.
use Rattle.std.specs.Prelude.{◌≡◌, ℕ, ◌≤◌, Bool, true, false, cond, List, IfSome, Some, None, Option as Held, slice_index}
use Rattle.std.proofs.Math.Option.{Option, none, some}
use Rattle.theory.specs.Order.{better}
use Rattle.theory.specs.Search.{Choice as ChosenMark}
use Rattle.search.specs.declared.choice.Choice.{Choice}

abbrev pub choice : {X : Type 0} → ℕ → X → Choice X
choice i x = record { bridge = i; label = x }

-- a choice of the search without the chosen bridge's way in
abbrev pub forget : {X : Type 0} → Option (ChosenMark X) → Held (Choice X)
forget none = None
forget (some c) = Some (choice c.bridge c.mark.label)

-- the better of the choice so far and bridge i, the choice so far where they rank alike
abbrev pub pick : {X : Type 0} → (X → X → Bool) → ℕ → Bool → Held X → Held (Choice X) → Held (Choice X)
pick le i true x c = c
pick le i false None c = c
pick le i false (Some x) None = Some (choice i x)
pick le i false (Some x) (Some k) = cond (better le x k.label) (Some (choice i x)) (Some k)

-- the chosen bridge is one of 1 to n, and its label is the one that memory holds
pub record Chosen {X : Type 0} (read : ℕ → Held X) (labels : List ℕ) (n : ℕ) (c : Choice X) : Type 0 where
  pub least : 1 ≤ c.bridge
  pub most : c.bridge ≤ n
  pub holds : read (slice_index labels c.bridge) ≡ Some c.label

abbrev pub Choosing : {X : Type 0} → (ℕ → Held X) → List ℕ → ℕ → Held (Choice X) → Type 0
Choosing read labels n r = IfSome r (Chosen read labels n)
