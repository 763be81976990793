-- The number of a line that is looked up on a chain. Assumes nothing.
use Rattle.std.proofs.Common.{◌≡◌, ℕ, true, false, cond, eqb, List, ◌∷◌, Some, ap}
use mathlib.Core.Option.{some}
use Rattle.theory.specs.Arcs.{Arc}
use Rattle.search.specs.Chains.{towards, numbered}

module _ {G : Type 0} (v : ℕ) (e : Arc G) (es : List (Arc G)) where
  pub number_here : eqb v e.far ≡ true → numbered (towards (e ∷ es) v) ≡ Some e.number
  number_here eq = ap (λ t. numbered (cond t (some e) (towards es v))) eq

  pub number_on : eqb v e.far ≡ false → numbered (towards (e ∷ es) v) ≡ numbered (towards es v)
  number_on ne = ap (λ t. numbered (cond t (some e) (towards es v))) ne
