-- Working memory as the state of the search: labels are numbers, and `read` tells what each stands for. Assumes nothing.
use Rattle.std.specs.Prelude.{ℕ, Bool, true, cond, not, List, [], ◌∷◌, Some, None, Option as Held, ◌==◌, slice_index}
use Rattle.std.proofs.Math.Option.{Option, none, some}
use Rattle.theory.specs.Arcs.{Arc}
use Rattle.theory.specs.Order.{better}
use Rattle.theory.specs.Search.{Mark, State, offer}

abbrev pub Marks : Type 0 → Type 0
Marks X = ℕ → Option (Mark X)

abbrev pub mark_of : {X : Type 0} → Held X → ℕ → Option (Mark X)
mark_of None way = none
mark_of (Some x) way = some (record { label = x; from = way })

-- each bridge's label and way in; bridges past the memory have none
abbrev pub marks : {X : Type 0} → (ℕ → Held X) → List ℕ → List ℕ → Marks X
marks read labels ways v = mark_of (read (slice_index labels v)) (slice_index ways v)

abbrev pub takens : List ℕ → ℕ → Bool
takens taken v = not (slice_index taken v == 0)

abbrev pub state_of : {X : Type 0} → (ℕ → Held X) → List ℕ → List ℕ → List ℕ → State X
state_of read labels ways taken = record { mark = marks read labels ways; taken = takens taken }

-- bridge u offers a bridge a label: it replaces only a worse one, or none
abbrev pub offered_to : {X : Type 0} → (X → X → Bool) → ℕ → X → ℕ → Marks X → Marks X
offered_to le u y to m v = cond (v == to) (offer le u y (some (λ x. x)) (m v)) (m v)

-- bridge u, whose label is x, offers the far bridge of one line what that line hands on
abbrev pub offered : {G X : Type 0} → (X → X → Bool) → (Arc G → X → X) → ℕ → X → Arc G → Marks X → Marks X
offered le hand u x e m v = cond (v == e.far) (offer le u x (some (hand e)) (m v)) (m v)

-- the same along several lines, one after another
abbrev pub offered_all : {G X : Type 0} → (X → X → Bool) → (Arc G → X → X) → ℕ → X → List (Arc G) → Marks X → Marks X
offered_all le hand u x [] m = m
offered_all le hand u x (e ∷ es) m = offered_all le hand u x es (offered le hand u x e m)

-- whether a label is better than one that may be absent
abbrev pub beats : {X : Type 0} → (X → X → Bool) → X → Held X → Bool
beats le x None = true
beats le x (Some y) = better le x y
