-- What offering along lines makes of the marks. Assumes nothing.
use Rattle.std.proofs.Common.{◌≡◌, ℕ, suc, ◌<◌, Bool, true, false, cond, eqb, ◌≢◌, List, [], ◌∷◌, map, length, get_or, set, Some, None, Option as Held, sym, refl, ap, ◌∙◌, inl, inr, get_or-set_other, get_or-set_same, ne_eqb, eqb-true}
use mathlib.Core.Path.{fun_ext}
use mathlib.Core.Option.{none, some}
use borrow.Author.Tests.{eqb-false}
use Rattle.theory.specs.Lists.{In, Distinct}
use Rattle.theory.specs.Arcs.{Arc}
use Rattle.theory.specs.Search.{Mark, offer, mark_better}
use Rattle.theory.specs.Delivery.{hand_by}
use Rattle.book.specs.declared.memory.Line.{Line}
use Rattle.standing.specs.Standing.{line_at}
use Rattle.search.specs.Chains.{linked, chain, towards}
use Rattle.search.specs.Marks.{Marks, mark_of, marks, offered_to, offered, offered_all, beats}

-- a label beats a mark as it beats the mark's label
beats_mark : {X : Type 0} (le : X → X → Bool) (o : Mark X) (held : Held X) (w : ℕ) → mark_better le o (mark_of held w) ≡ beats le o.label held
beats_mark le o None w = refl
beats_mark le o (Some y) w = refl

offer_cases : {X : Type 0} (le : X → X → Bool) (u : ℕ) (y : X) (held : Held X) (w : ℕ) (b : Bool) → beats le y held ≡ b → offer le u y (some (λ x. x)) (mark_of held w) ≡ cond b (some (record { label = y; from = u })) (mark_of held w)
offer_cases le u y held w b e = ap (λ t. cond t (some (record { label = y; from = u })) (mark_of held w)) (beats_mark le (record { label = y; from = u }) held w ∙ e)

module _ {X : Type 0} (le : X → X → Bool) (read : ℕ → Held X) (labels ways : List ℕ) (u : ℕ) (y : X) (to : ℕ) where
  -- the offer is no better: nothing changes
  pub offer_stays : beats le y (read (get_or labels to 0)) ≡ false → marks read labels ways ≡ offered_to le u y to (marks read labels ways)
  offer_stays worse = fun_ext (λ v. at v (eqb v to) refl)
    where
      at : (v : ℕ) (b : Bool) → eqb v to ≡ b → marks read labels ways v ≡ offered_to le u y to (marks read labels ways) v
      at v false ne = sym (ap (λ t. cond t (offer le u y (some (λ x. x)) (marks read labels ways v)) (marks read labels ways v)) ne)
      at v true eq =
          let is : v ≡ to = eqb-true v to eq in
          let worse-here : beats le y (read (get_or labels v 0)) ≡ false = rw is worse in
          sym (ap (λ t. cond t (offer le u y (some (λ x. x)) (marks read labels ways v)) (marks read labels ways v)) eq ∙ offer_cases le u y (read (get_or labels v 0)) (get_or ways v 0) false worse-here)

  -- the offer is better: label and way in are written
  pub offer_lands : (number : ℕ) → to < length labels → to < length ways → read number ≡ Some y → beats le y (read (get_or labels to 0)) ≡ true → marks read (set labels to number) (set ways to u) ≡ offered_to le u y to (marks read labels ways)
  offer_lands number in-labels in-ways stands better-here = fun_ext (λ v. at v (eqb v to) refl)
    where
      at : (v : ℕ) (b : Bool) → eqb v to ≡ b → marks read (set labels to number) (set ways to u) v ≡ offered_to le u y to (marks read labels ways) v
      at v false ne =
          let apart : v ≢ to = eqb-false v to ne in
          let l : get_or (set labels to number) v 0 ≡ get_or labels v 0 = get_or-set_other labels to v number 0 apart in
          let w : get_or (set ways to u) v 0 ≡ get_or ways v 0 = get_or-set_other ways to v u 0 apart in
          ap (λ k. mark_of (read k) (get_or (set ways to u) v 0)) l ∙ ap (λ k. mark_of (read (get_or labels v 0)) k) w ∙ sym (ap (λ t. cond t (offer le u y (some (λ x. x)) (marks read labels ways v)) (marks read labels ways v)) ne)
      at v true eq =
          let is : v ≡ to = eqb-true v to eq in
          let l : get_or (set labels to number) v 0 ≡ number = ap (λ k. get_or (set labels to number) k 0) is ∙ get_or-set_same labels to number 0 in-labels in
          let w : get_or (set ways to u) v 0 ≡ u = ap (λ k. get_or (set ways to u) k 0) is ∙ get_or-set_same ways to u 0 in-ways in
          let beats-here : beats le y (read (get_or labels v 0)) ≡ true = rw is better-here in
          ap (λ k. mark_of (read k) (get_or (set ways to u) v 0)) l ∙ ap (λ k. mark_of (read number) k) w ∙ ap (λ h. mark_of h u) stands ∙ sym (ap (λ t. cond t (offer le u y (some (λ x. x)) (marks read labels ways v)) (marks read labels ways v)) eq ∙ offer_cases le u y (read (get_or labels v 0)) (get_or ways v 0) true beats-here)

-- where no line has the far bridge, none is found
pub no_line_towards : {G : Type 0} (es : List (Arc G)) (v : ℕ) → (In v (map (λ e. e.far) es) → ⊥) → towards es v ≡ none
no_line_towards [] v no_line = refl
no_line_towards (e ∷ es) v no_line =
    ap (λ t. cond t (some e) (towards es v)) (ne_eqb v e.far (λ is. no_line (inl is))) ∙ no_line_towards es v (λ i. no_line (inr i))

-- lines to bridges apart, one after another, offer each bridge what its one line hands on
pub offered-each : {G X : Type 0} (le : X → X → Bool) (hand : Arc G → X → X) (u : ℕ) (x : X) (es : List (Arc G)) (m : Marks X) → Distinct (map (λ e. e.far) es) → (v : ℕ) → offered_all le hand u x es m v ≡ offer le u x (hand_by hand (towards es v)) (m v)
offered-each le hand u x [] m apart v = refl
offered-each le hand u x (e ∷ es) m apart v = offered-each le hand u x es (offered le hand u x e m) apart.1 v ∙ at (eqb v e.far) refl
  where
    at : (b : Bool) → eqb v e.far ≡ b → offer le u x (hand_by hand (towards es v)) (offered le hand u x e m v) ≡ offer le u x (hand_by hand (towards (e ∷ es) v)) (m v)
    at true eq =
        let is : v ≡ e.far = eqb-true v e.far eq in
        let gone : towards es v ≡ none = no_line_towards es v (rw is apart.0) in
        ap (λ o. offer le u x (hand_by hand o) (offered le hand u x e m v)) gone ∙ ap (λ t. cond t (offer le u x (some (hand e)) (m v)) (m v)) eq ∙ sym (ap (λ t. offer le u x (hand_by hand (cond t (some e) (towards es v))) (m v)) eq)
    at false ne =
        ap (λ t. offer le u x (hand_by hand (towards es v)) (cond t (offer le u x (some (hand e)) (m v)) (m v))) ne ∙ sym (ap (λ t. offer le u x (hand_by hand (cond t (some e) (towards es v))) (m v)) ne)

-- one line more along a chain
pub chain_more : {G : Type 0} (lines : List (Line G)) (k number : ℕ) (held : Held (Line G)) → held ≡ line_at lines number → chain lines (suc k) number ≡ linked number (chain lines k) held
chain_more lines k number held e = ap (linked number (chain lines k)) (sym e)
