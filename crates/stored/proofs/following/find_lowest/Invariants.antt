use Rattle.std.proofs.Common.{◌≡◌, ℕ, ◌-◌, ◌≤◌, Bool, None}
use Rattle.stored.specs.Stored.{lowest}
use Rattle.stored.proofs.following.find_lowest.Given as goal

abbrev pub invariant-loop-index : goal.invariant-loop-index
invariant-loop-index g l = (passes : ℕ → Bool) → ((i : ℕ) (b : Bool) → 1 ≤ i → i ≤ l.most → goal.T-post g l.test i b → b ≡ passes i) → lowest passes (l.index - 1) ≡ None
