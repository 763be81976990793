-- The lowest grade of lines, one after another. Assumes nothing.
use Rattle.std.proofs.Common.{◌≡◌, ℕ, Bool, true, false, cond, eqb, List, [], ◌∷◌, Some, None, Option as Held, sym, refl, ap, ◌∙◌, eq-eqb, eqb-true}
use mathlib.Core.Option.{Option, none, some}
use Rattle.theory.specs.Order.{lower}
use Rattle.theory.specs.Arcs.{Arc, width, lowest}
use Rattle.theory.specs.Delivery.{with_line}
use Rattle.theory.specs.Margins.{without}
use Rattle.std.specs.Option.{option_eq}
use Rattle.search.specs.Chains.{omitting}
use Rattle.search.specs.Widths.{as_held}
use Rattle.search.proofs.Skipping.{none_omitted}
use Rattle.margins.specs.Picking.{lowest_with}

module _ {G : Type 0} (le : G → G → Bool) where
  lowest-some : (g : G) (p : List (Arc G)) → lowest_with le (Some g) p ≡ Some (lowest le g p)
  lowest-some g [] = refl
  lowest-some g (e ∷ p) = lowest-some (lower le g e.grade) p

  -- with no grade so far it is the width
  pub lowest-width : (p : List (Arc G)) → lowest_with le None p ≡ as_held (width le p)
  lowest-width [] = refl
  lowest-width (e ∷ p) = lowest-some e.grade p

  pub lowest_same : (x : Held G) → lowest_with le x [] ≡ x
  lowest_same None = refl
  lowest_same (Some g) = refl

  lowest_first : (x : Held G) (e : Arc G) (p : List (Arc G)) → lowest_with le x (e ∷ p) ≡ lowest_with le (lowest_with le x (e ∷ [])) p
  lowest_first None e p = refl
  lowest_first (Some g) e p = refl

  -- the first line, then the others
  pub lowest_split : (x : Held G) (o : Option (Arc G)) (p : List (Arc G)) (skip : Held ℕ) → lowest_with le x (omitting skip (with_line o p)) ≡ lowest_with le (lowest_with le x (omitting skip (with_line o []))) (omitting skip p)
  lowest_split x none p skip = sym (ap (λ h. lowest_with le h (omitting skip p)) (ap (lowest_with le x) (none_omitted skip) ∙ lowest_same x))
  lowest_split x (some e) p None = lowest_first x e p
  lowest_split x (some e) p (Some k) = go (eqb e.number k)
    where
      go : (out : Bool) → lowest_with le x (cond out (without p k) (e ∷ without p k)) ≡ lowest_with le (lowest_with le x (cond out [] (e ∷ []))) (without p k)
      go true = sym (ap (λ h. lowest_with le h (without p k)) (lowest_same x))
      go false = lowest_first x e (without p k)

  module _ (x : Held G) (o : Option (Arc G)) where
    -- a number that does not stand
    pub lowered_absent : (skip : Held ℕ) → none ≡ o → x ≡ lowest_with le x (omitting skip (with_line o []))
    lowered_absent skip is = sym (ap (lowest_with le x) (none_omitted skip) ∙ lowest_same x) ∙ ap (λ o. lowest_with le x (omitting skip (with_line o []))) is

    -- the line left out
    pub lowered_out : (skip : Held ℕ) (e : Arc G) → some e ≡ o → option_eq eqb skip (Some e.number) ≡ true → x ≡ lowest_with le x (omitting skip (with_line o []))
    lowered_out None e is out = absurd (let z : false ≡ true = out in cc)
    lowered_out (Some k) e is out = sym (lowest_same x) ∙ sym (ap (λ t. lowest_with le x (cond t [] (e ∷ []))) (eq-eqb e.number k (sym (eqb-true k e.number out)))) ∙ ap (λ o. lowest_with le x (omitting (Some k) (with_line o []))) is
