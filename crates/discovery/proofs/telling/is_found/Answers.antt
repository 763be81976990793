use Rattle.std.proofs.Common.{◌≡◌, ℕ, ◌||◌, eqb, List, [], ◌∷◌, refl, ap, ◌∙◌}
use Rattle.std.specs.List.{list_any}
use Rattle.theory.specs.Lists.{among}
use Rattle.discovery.proofs.telling.is_found.Goals as goal

any-among : (k : ℕ) (xs : List ℕ) → list_any (λ x. eqb x k) xs ≡ among xs k
any-among k [] = refl
any-among k (x ∷ xs) = ap (λ b. eqb x k || b) (any-among k xs)

pub returns : goal.returns
returns c = c.contains.ensures.value ∙ any-among c.args.bridge c.args.found.now
