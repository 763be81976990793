-- How much of a text's front is counted. Assumes nothing.
use Rattle.std.proofs.Common.{◌≡◌, ℕ, zero, suc, ◌+◌, min, Bool, true, false, cond, eqb, List, [], ◌∷◌, take, refl, ap, ◌∙◌, arith}
use Rattle.std.specs.List.{prefix_len, zip}
use Rattle.grammar.specs.Words.{shared}

-- ---- the pairs of equal bytes

abbrev pub same : ℕ × ℕ → Bool
same p = eqb p.0 p.1

pub shared_pairs : (xs ys : List ℕ) → prefix_len same (zip xs ys) ≡ shared xs ys
shared_pairs [] ys = refl
shared_pairs (x ∷ xs) [] = refl
shared_pairs (x ∷ xs) (y ∷ ys) = ap (λ n. cond (eqb x y) (1 + n) 0) (shared_pairs xs ys)

-- ---- a front of a front

front_by : (b : Bool) (n m : ℕ) → cond b (1 + min n m) 0 ≡ min (suc n) (cond b (1 + m) 0)
front_by true n m = omega arith
front_by false n m = omega arith

pub prefix_len-take : (p : ℕ → Bool) (n : ℕ) (xs : List ℕ) → prefix_len p (take n xs) ≡ min n (prefix_len p xs)
prefix_len-take p zero xs = omega arith
prefix_len-take p (suc n) [] = omega arith
prefix_len-take p (suc n) (x ∷ xs) = ap (λ m. cond (p x) (1 + m) 0) (prefix_len-take p n xs) ∙ front_by (p x) n (prefix_len p xs)
