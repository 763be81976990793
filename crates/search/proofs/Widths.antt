-- The width read off memory is the width that the search tells. Assumes nothing.
use Rattle.std.proofs.Common.{◌≡◌, ℕ, Bool, true, false, List, [], get_or, Some, None, Option as Held, sym, refl, ap, ◌∙◌}
use mathlib.Core.Option.{Option, none, some}
use Rattle.theory.specs.Arcs.{Arc}
use Rattle.theory.specs.Search.{State, way_in}
use Rattle.theory.specs.Delivery.{told, lines_along}
use Rattle.theory.specs.Widest.{Wide, as_wide, widest_search, width_told, best_width}
use Rattle.theory.specs.declared.labels.Label.{Label}
use Rattle.theory.specs.declared.labels.Label.TheVariants.{Unlimited, Limited}
use Rattle.book.specs.declared.memory.Line.{Line}
use Rattle.search.specs.Labels.{label_of}
use Rattle.search.specs.Marks.{mark_of, state_of, takens}
use Rattle.search.specs.Widths.{width_in, as_held}

-- a width with its lines, as the theory tells it
abbrev pub widened : {G : Type 0} → Held G → List (Arc G) → Option (Wide G)
widened None p = none
widened (Some g) p = some (record { width = g; lines = p })

pub told-widened : {G : Type 0} (t : Bool) (x : Held (Label G)) (way : ℕ) (p : List (Arc G)) → as_wide (told t (mark_of x way) p) ≡ widened (width_in t x) p
told-widened false x way p = refl
told-widened true None way p = refl
told-widened true (Some Unlimited) way p = refl
told-widened true (Some (Limited g)) way p = refl

held_widened : {G : Type 0} (h : Held G) (p : List (Arc G)) → as_held (width_told (widened h p)) ≡ h
held_widened None p = refl
held_widened (Some g) p = refl

pub width_read : {G : Type 0} (le : G → G → Bool) (n : ℕ) (lines : List (Line G)) (arcs : List (Arc G)) (labels ways taken : List ℕ) (a z : ℕ) → state_of (label_of lines) labels ways taken ≡ widest_search le arcs n a z → width_in (takens taken z) (label_of lines (get_or labels z 0)) ≡ as_held (best_width le arcs n a z)
width_read le n lines arcs labels ways taken a z is =
    let s : State (Label _) = state_of (label_of lines) labels ways taken in
    let p = lines_along arcs a (way_in n s a z []) in
    let x = label_of lines (get_or labels z 0) in
    sym (held_widened (width_in (takens taken z) x) p)
    ∙ sym (ap (λ o. as_held (width_told o)) (told-widened (takens taken z) x (get_or ways z 0) p))
    ∙ ap (λ (s : State (Label _)). as_held (width_told (as_wide (told (s.taken z) (s.mark z) (lines_along arcs a (way_in n s a z [])))))) is
