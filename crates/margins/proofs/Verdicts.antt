-- The verdict on line numbers, step by step. Assumes nothing.
use Rattle.std.proofs.Common.{◌≡◌, ℕ, ◌<◌, ◌≤◌, Bool, ◌⊎◌, List, Option as Held, sym, refl, ap, ◌∙◌, subst, inl, inr, ⊎_elim, arith}
use mathlib.Core.Path.{fun_ext}
use mathlib.Core.Option.{Option, none, some}
use Rattle.std.proofs.lemmas.Bool.{cases_eq, cases_lt}
use Rattle.theory.specs.Lists.{among}
use Rattle.theory.specs.Arcs.{Arc, Pair, Lines, width, all_numbered, numbers}
use Rattle.theory.specs.Routes.{EndsRight}
use Rattle.theory.specs.Widest.{best_width}
use Rattle.theory.specs.Margins.{Margin, on, margin_by, margin}
use Rattle.theory.specs.Verdicts.{no_route, compared, if_route, if_standing, margins_of}
use Rattle.theory.proofs.Tests.{none_some}
use Rattle.theory.proofs.Lines.{all_in}
use Rattle.theory.proofs.RouteEnds.{ends_told, route_pair}
use Rattle.search.specs.Widths.{as_held}
use Rattle.margins.specs.Picking.{picked, ends_by}
use Rattle.margins.specs.Telling.{as_told}
use Rattle.margins.proofs.Picking.{picked_all}
use Rattle.margins.proofs.Telling.{told_held, on_among}

module _ {G : Type 0} (le : G → G → Bool) (n : ℕ) (arcs : List (Arc G)) (ks : List ℕ) where
  -- the numbers give no route
  pub verdict_none : none ≡ ends_by (all_numbered arcs ks) → margins_of le n arcs ks ≡ no_route
  verdict_none e = go (all_numbered arcs ks) e
    where
      go : (all : Option (List (Arc G))) → none ≡ ends_by all → if_standing le n arcs all ≡ no_route
      go none e = refl
      go (some p) e = sym (ap (if_route le n arcs p) e)

  -- the ends of a route are two different bridges of 1 to n
  pub ends_apart : Lines n arcs → (t : ℕ × ℕ) → some t ≡ ends_by (all_numbered arcs ks) → Pair n t.0 t.1
  ends_apart L t e = go (all_numbered arcs ks) refl e
    where
      go : (all : Option (List (Arc G))) → all_numbered arcs ks ≡ all → some t ≡ ends_by all → Pair n t.0 t.1
      go none is e = none_some (sym e)
      go (some p) is e = route_pair n arcs L (subst (EndsRight arcs p) (sym e) (ends_told arcs p (all_in arcs ks p is).0))

  -- the numbers give a route, which is compared with the best
  pub verdict-some : (t : ℕ × ℕ) → some t ≡ ends_by (all_numbered arcs ks) → margins_of le n arcs ks ≡ compared le n arcs t.0 t.1 (picked arcs ks) (width le (picked arcs ks)) (best_width le arcs n t.0 t.1)
  verdict-some t e = go (all_numbered arcs ks) (picked_all arcs ks) e
    where
      go : (all : Option (List (Arc G))) → ((p : List (Arc G)) → all ≡ some p → picked arcs ks ≡ p) → some t ≡ ends_by all → if_standing le n arcs all ≡ compared le n arcs t.0 t.1 (picked arcs ks) (width le (picked arcs ks)) (best_width le arcs n t.0 t.1)
      go none are e = none_some (sym e)
      go (some p) are e =
          sym (ap (if_route le n arcs p) e)
          ∙ sym (ap (λ (q : List (Arc G)). compared le n arcs t.0 t.1 q (width le q) (best_width le arcs n t.0 t.1)) (are p refl))

  -- on the lines picked is what is in the list
  pub margin_listed : (t : ℕ × ℕ) → some t ≡ ends_by (all_numbered arcs ks) → (a z : ℕ) (w : G) → ◌≡◌ {A = Arc G → Margin G} (margin le n arcs a z (picked arcs ks) w) (λ e. margin_by le n arcs a z (picked arcs ks) w e (among ks e.number))
  margin_listed t e a z w = fun_ext (λ x. ap (margin_by le n arcs a z (picked arcs ks) w x) (go (all_numbered arcs ks) refl e x.number))
    where
      go : (all : Option (List (Arc G))) → all_numbered arcs ks ≡ all → some t ≡ ends_by all → (k : ℕ) → on (picked arcs ks) k ≡ among ks k
      go none is e k = none_some (sym e)
      go (some p) is e k = on_among (picked arcs ks) k ∙ ap (λ (xs : List ℕ). among xs k) (ap numbers (picked_all arcs ks p is) ∙ (all_in arcs ks p is).1)

  -- a route of width w is judged by the best width v
  pub verdict_by : (t : ℕ × ℕ) → some t ≡ ends_by (all_numbered arcs ks) → (o b : Option G) → width le (picked arcs ks) ≡ o → best_width le arcs n t.0 t.1 ≡ b → margins_of le n arcs ks ≡ compared le n arcs t.0 t.1 (picked arcs ks) o b
  verdict_by t e o b wide best = verdict-some t e ∙ (λ i. compared le n arcs t.0 t.1 (picked arcs ks) (wide i) (best i))

-- what the code holds, as it is told
pub held_told : {G : Type 0} (h : Held G) (o : Option G) → h ≡ as_held o → o ≡ as_told h
held_told h o e = sym (told_held o) ∙ sym (ap as_told e)

-- two different bridges of 1 to n are at least two
pub two_bridges : {n a z : ℕ} → Pair n a z → 2 ≤ n
two_bridges {n} {a} {z} pair = go (cases_lt a z)
  where
    go : (a < z) ⊎ (z ≤ a) → 2 ≤ n
    go (inl less) = omega (arith, less, pair.near_from, pair.far_to)
    go (inr more) = ⊎_elim (λ e. absurd (pair.differ (sym e))) (λ ne. omega (arith, more, ne, pair.far_from, pair.near_to)) (cases_eq z a)
