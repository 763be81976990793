-- The way in to a bridge, as working memory holds it. Assumes nothing.
use Rattle.std.specs.Prelude.{ℕ, zero, suc, ◌+◌, Bool, true, false, List, [], ◌∷◌, Some, None, Option as Held, ◌==◌, slice_index, slice_set}

-- one step of the way back: it ends at the start (the test) and where there is no label
abbrev pub back_from : {X : Type 0} → (ℕ → List ℕ → List ℕ) → List ℕ → ℕ → Bool → Held X → ℕ → List ℕ
back_from go rest v true label way = rest
back_from go rest v false None way = rest
back_from go rest v false (Some x) way = go way (v ∷ rest)

-- the way back over the numbers that memory holds
abbrev pub back : {X : Type 0} → (ℕ → Held X) → List ℕ → List ℕ → ℕ → ℕ → ℕ → List ℕ → List ℕ
back read labels ways zero a v rest = rest
back read labels ways (suc k) a v rest = back_from (back read labels ways k a) rest v (v == a) (read (slice_index labels v)) (slice_index ways v)

-- a number that may be there, written at a place, and the place after it
abbrev pub placed : List ℕ → ℕ → Held ℕ → List ℕ
placed numbers at None = numbers
placed numbers at (Some x) = slice_set numbers at x

abbrev pub place_after : ℕ → Held ℕ → ℕ
place_after at None = at
place_after at (Some x) = at + 1

-- a number that may be there, in front of others
abbrev pub with_number : Held ℕ → List ℕ → List ℕ
with_number None ks = ks
with_number (Some k) ks = k ∷ ks

-- the numbers that are told for each two bridges that follow one another from u on
abbrev pub named_over : (ℕ → ℕ → Held ℕ) → ℕ → List ℕ → List ℕ
named_over tells u [] = []
named_over tells u (v ∷ bs) = with_number (tells u v) (named_over tells v bs)
