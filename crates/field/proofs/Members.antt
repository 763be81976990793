-- Membership of numbers where one more joins the end of a list. Assumes nothing.
use Rattle.std.proofs.Common.{◌≡◌, ℕ, false, ◌||◌, eqb, List, [], ◌∷◌, ◌++◌, sym, ap}
use Rattle.std.proofs.lemmas.Bool.{ne_eqb}
use Rattle.theory.specs.Lists.{among}

pub among_other : (b : ℕ) (xs : List ℕ) (x : ℕ) → (b ≡ x → ⊥) → among (xs ++ (x ∷ [])) b ≡ among xs b
among_other b [] x ne = ap (λ t. t || false) (ne_eqb x b (λ e. ne (sym e)))
among_other b (y ∷ xs) x ne = ap (λ t. eqb y b || t) (among_other b xs x ne)
