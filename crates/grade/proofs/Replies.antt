-- Replies and tests, by cases. Assumes nothing.
use Rattle.std.proofs.Common.{◌≡◌, ℕ, Bool, true, false, cond, ◌⊎◌, refl, inl, inr, arith}
use Rattle.grade.specs.Told.{answers, refuses}

pub refused-not : {X : Type 0} {r : ℕ × ℕ × ℕ} {x : X} → refuses r ≡ answers x → ⊥
refused-not h = let z : ◌≡◌ {A = ℕ} 0 1 = cc in omega arith

pub answers_same : {X : Type 0} {x y : X} → answers x ≡ answers y → x ≡ y
answers_same h = cc

pub by_cond : {X : Type 0} (b : Bool) {x y z : X} → cond b x y ≡ z → ((b ≡ true) × (x ≡ z)) ⊎ ((b ≡ false) × (y ≡ z))
by_cond true h = inl (refl, h)
by_cond false h = inr (refl, h)
