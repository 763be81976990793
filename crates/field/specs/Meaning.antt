-- What a field tells of each bridge number. Assumes nothing.
use Rattle.std.specs.Prelude.{◌≡◌, ℕ, ◌-◌, ◌^◌, ◌<◌, ◌≤◌, cond, ◌⊎◌, List, [], ◌∷◌, length, Some, None, Option, Ok, Err, Result, ◌==◌}
use Rattle.theory.specs.Lists.{Each}
use Rattle.field.specs.declared.Silence.{Silence}

-- one line of a bridge's list: the number of its far bridge, and its grade
pub record Entry (G : Type 0) : Type 0 where
  pub far : ℕ
  pub grade : G

-- what a bridge number tells: a silence with its cause, or its list
pub data Told (G : Type 0) : Type 0 where
  silent : ℕ → Told G
  listed : List (Entry G) → Told G

-- a cause is 1 to 255; a list has at most 255 lines, each with a far number of 16 bits
abbrev pub Sound : {G : Type 0} → Told G → Type 0
Sound (silent cause) = (1 ≤ cause) × (cause ≤ 255)
Sound (listed es) = (length es ≤ 255) × Each (λ e. e.far < 2 ^ 16) es

-- what every field keeps: each number tells something sound, and numbers outside 1 to 256 are silent with cause 1
pub record Lawful {G : Type 0} (tells : ℕ → Told G) : Type 0 where
  pub sound : (b : ℕ) → Sound (tells b)
  pub outside : (b : ℕ) → (b < 1) ⊎ (256 < b) → tells b ≡ silent 1

-- the answer to the first question: the list's length, or the cause of the silence
abbrev pub listing : {G : Type 0} → Told G → Result ℕ Silence
listing (silent cause) = Err (record { cause = cause })
listing (listed es) = Ok (length es)

-- the list that a bridge tells; a silent one has no lines
abbrev pub entries : {G : Type 0} → Told G → List (Entry G)
entries (silent cause) = []
entries (listed es) = es

-- the k-th of a list, counted from 1
abbrev pub nth : {X : Type 0} → List X → ℕ → Option X
nth [] k = None
nth (x ∷ xs) k = cond (k == 1) (Some x) (nth xs (k - 1))

-- the k-th line that a bridge tells
abbrev pub line_at : {G : Type 0} → Told G → ℕ → Option (Entry G)
line_at (silent cause) k = None
line_at (listed es) k = nth es k

abbrev pub far_of : {G : Type 0} → Option (Entry G) → Option ℕ
far_of None = None
far_of (Some e) = Some e.far

abbrev pub grade_of : {G : Type 0} → Option (Entry G) → Option G
grade_of None = None
grade_of (Some e) = Some e.grade

-- the answers to the second and third question
abbrev pub far_at : {G : Type 0} → Told G → ℕ → Option ℕ
far_at t k = far_of (line_at t k)

abbrev pub grade_at : {G : Type 0} → Told G → ℕ → Option G
grade_at t k = grade_of (line_at t k)
