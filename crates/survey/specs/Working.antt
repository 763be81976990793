-- How a walk keeps in working memory which bridges are found, and which were told in the list being read. Assumes nothing.
use Rattle.std.specs.Prelude.{◌≡◌, ℕ, ◌-◌, ◌<◌, ◌≤◌, List, length, take, ◌==◌, nat_lt, slice_index}
use Rattle.theory.specs.Lists.{In, Distinct, among}
use Rattle.survey.specs.Walk.{Progress, progress}
use Rattle.survey.specs.declared.walk.Tally.{Tally}

-- the first `count` numbers of `order` are the bridges found, each once and all within 1 to n, and `marks` has a number above 0 for each of them
pub record FoundIn (n : ℕ) (order marks : List ℕ) (count : ℕ) : Type 0 where
  pub marked : (b : ℕ) → 1 ≤ b → b ≤ n → nat_lt 0 (slice_index marks (b - 1)) ≡ among (take count order) b
  pub once : Distinct (take count order)
  pub within : (b : ℕ) → In b (take count order) → (1 ≤ b) × (b ≤ n)
  pub few : count ≤ n
  pub long_order : n ≤ length order
  pub long_marks : n ≤ length marks

-- the bridges that have the stamp `turn` are those told before in this list
pub record Stamped (n turn : ℕ) (stamps before : List ℕ) : Type 0 where
  pub told : (b : ℕ) → 1 ≤ b → b ≤ n → (slice_index stamps (b - 1) == turn) ≡ among before b
  pub none_later : (b : ℕ) → 1 ≤ b → b ≤ n → slice_index stamps (b - 1) ≤ turn
  pub long : n ≤ length stamps

-- no bridge has the stamp `turn` yet, or a later one
pub record Unstamped (n turn : ℕ) (stamps : List ℕ) : Type 0 where
  pub earlier : (b : ℕ) → 1 ≤ b → b ≤ n → slice_index stamps (b - 1) < turn
  pub long : n ≤ length stamps

-- what a tally stands for, beside the memory that holds the order
abbrev pub stands_for : List ℕ → Tally → Progress
stands_for order t = progress (take t.found order) t.lines
