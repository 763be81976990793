-- The bridges found, as places in a list, and one more of them at its end. Assumes nothing.
use Rattle.std.proofs.Common.{◌≡◌, ℕ, zero, suc, ◌<◌, List, [], ◌∷◌, ◌++◌, length, get_or, sym, refl, inl, inr, arith}
use Rattle.theory.specs.Lists.{In}
use Rattle.survey.specs.Walk.{join, join_all}

pub in_getD : (xs : List ℕ) (k : ℕ) → k < length xs → In (get_or xs k 0) xs
in_getD [] k h = absurd (omega arith)
in_getD (x ∷ xs) zero h = inl refl
in_getD (x ∷ xs) (suc k) h = inr (in_getD xs k (omega arith))

-- where a member stands
pub place_of : (b : ℕ) (xs : List ℕ) → In b xs → (k : ℕ) × (k < length xs) × (get_or xs k 0 ≡ b)
place_of b [] h = absurd h
place_of b (x ∷ xs) (inl e) = (0, omega arith, sym e)
place_of b (x ∷ xs) (inr h) = let r = place_of b xs h in (suc r.0, omega (arith, r.1), r.2)

pub join-append : (found xs ys : List ℕ) → join_all found (xs ++ ys) ≡ join_all (join_all found xs) ys
join-append found [] ys = refl
join-append found (x ∷ xs) ys = join-append (join found x) xs ys
