-- The way back over working memory is the way in of the search. Assumes nothing.
use Rattle.std.proofs.Common.{◌≡◌, ℕ, zero, suc, Bool, true, false, eqb, List, ◌∷◌, get_or, Some, None, Option as Held, sym, refl, ap, ◌∙◌}
use Rattle.theory.specs.Search.{way_in, way_from}
use Rattle.search.specs.Marks.{mark_of, state_of}
use Rattle.search.specs.Ways.{back_from, back}

module _ {X : Type 0} (read : ℕ → Held X) (labels ways : List ℕ) (a v : ℕ) (rest : List ℕ) where
  -- the way back ends at the start
  pub back_ends : (k : ℕ) → eqb v a ≡ true → back read labels ways k a v rest ≡ rest
  back_ends zero eq = refl
  back_ends (suc k) eq = ap (λ t. back_from (back read labels ways k a) rest v t (read (get_or labels v 0)) (get_or ways v 0)) eq

  stays_absent : (go : ℕ → List ℕ → List ℕ) (t : Bool) (way : ℕ) → back_from {X = X} go rest v t None way ≡ rest
  stays_absent go true way = refl
  stays_absent go false way = refl

  -- and where there is no label
  pub back_absent : (k : ℕ) → None ≡ read (get_or labels v 0) → back read labels ways k a v rest ≡ rest
  back_absent zero e = refl
  back_absent (suc k) e = ap (λ h. back_from (back read labels ways k a) rest v (eqb v a) h (get_or ways v 0)) (sym e) ∙ stays_absent (back read labels ways k a) (eqb v a) (get_or ways v 0)

  -- one bridge more
  pub back_more : (k : ℕ) (x : X) → eqb v a ≡ false → Some x ≡ read (get_or labels v 0) → back read labels ways (suc k) a v rest ≡ back read labels ways k a (get_or ways v 0) (v ∷ rest)
  back_more k x ne e =
      ap (λ t. back_from (back read labels ways k a) rest v t (read (get_or labels v 0)) (get_or ways v 0)) ne
      ∙ ap (λ h. back_from (back read labels ways k a) rest v false h (get_or ways v 0)) (sym e)

-- the way back over memory is the search's way in
pub back-way_in : {X : Type 0} (read : ℕ → Held X) (labels ways taken : List ℕ) (a k v : ℕ) (rest : List ℕ) → back read labels ways k a v rest ≡ way_in k (state_of read labels ways taken) a v rest
back-way_in read labels ways taken a zero v rest = refl
back-way_in {X} read labels ways taken a (suc k) v rest = by (back-way_in read labels ways taken a k (get_or ways v 0) (v ∷ rest)) (eqb v a) (read (get_or labels v 0))
  where
    by : back read labels ways k a (get_or ways v 0) (v ∷ rest) ≡ way_in k (state_of read labels ways taken) a (get_or ways v 0) (v ∷ rest) → (t : Bool) (h : Held X) → back_from (back read labels ways k a) rest v t h (get_or ways v 0) ≡ way_from (way_in k (state_of read labels ways taken) a) rest v t (mark_of h (get_or ways v 0))
    by same true h = refl
    by same false None = refl
    by same false (Some x) = same
