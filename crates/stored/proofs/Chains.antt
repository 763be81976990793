-- The steps along a chain of a stored survey. Assumes nothing.
use Rattle.std.proofs.Common.{◌≡◌, ℕ, zero, suc, ◌-◌, ◌<◌, true, false, ◌&&◌, eqb, leb, List, [], ◌∷◌, map, length, Some, None, sym, refl, ap, ◌∙◌, ⊎_elim, arith}
use Rattle.std.proofs.lemmas.Option.{none-some, same_Some}
use Rattle.std.proofs.lemmas.Bool.{cond-true, cond-false, eq-eqb, ne_eqb}
use Rattle.stored.specs.declared.layout.Record.{Record}
use Rattle.field.specs.Meaning.{nth}
use Rattle.stored.specs.Stored.{stored_at, next_in, chain}
use Rattle.stored.specs.Marks.{record_at}
use Rattle.grade.proofs.Replies.{by_cond}

-- an index that names a record, and one that names none
pub names : (bytes : List ℕ) (base r index : ℕ) (rec : Record) → Some rec ≡ record_at bytes base r index → ((leb 1 index && leb index r) ≡ true) × (rec ≡ stored_at bytes base index)
names bytes base r index rec h =
    ⊎_elim (λ yes'. (yes'.0, sym (same_Some _ _ yes'.1))) (λ none. absurd (none-some _ none.1)) (by_cond (leb 1 index && leb index r) (sym h))

pub names_none : (bytes : List ℕ) (base r index : ℕ) → None ≡ record_at bytes base r index → (leb 1 index && leb index r) ≡ false
names_none bytes base r index h =
    ⊎_elim (λ some. absurd (none-some _ (sym some.1))) (λ none. none.0) (by_cond (leb 1 index && leb index r) (sym h))

pub chain_more : (next : ℕ → ℕ) (r left index : ℕ) → 0 < left → (leb 1 index && leb index r) ≡ true → chain next r left index ≡ index ∷ chain next r (left - 1) (next index)
unfolding chain
chain_more next r left index l t =
    let turns : left ≡ suc (left - 1) = omega arith in
    ap (λ k. chain next r k index) turns ∙ cond-true (leb 1 index && leb index r) _ _ t

pub chain_end : (next : ℕ → ℕ) (r left index : ℕ) → (leb 1 index && leb index r) ≡ false → chain next r left index ≡ []
unfolding chain
chain_end next r zero index t = refl
chain_end next r (suc left) index t = cond-false (leb 1 index && leb index r) _ _ t

pub chain_over : (next : ℕ → ℕ) (r left index : ℕ) → left ≡ 0 → chain next r left index ≡ []
unfolding chain
chain_over next r left index z = ap (λ k. chain next r k index) z

module _ (bytes : List ℕ) (base r : ℕ) where
  -- one record further along a chain, in its length
  pub length_more : (left index : ℕ) (rec : Record) → 0 < left → Some rec ≡ record_at bytes base r index
      → length (chain (next_in bytes base) r left index) ≡ suc (length (chain (next_in bytes base) r (left - 1) rec.next))
  length_more left index rec l is =
      let named = names bytes base r index rec is in
      ap length (chain_more (next_in bytes base) r left index l named.0) ∙ ap (λ x. suc (length (chain (next_in bytes base) r (left - 1) x.next))) (sym named.1)

  -- and in its k-th record
  pub nth_here : (left index k : ℕ) (rec : Record) → 0 < left → Some rec ≡ record_at bytes base r index → k ≡ 1
      → nth (map (stored_at bytes base) (chain (next_in bytes base) r left index)) k ≡ Some rec
  nth_here left index k rec l is at =
      let named = names bytes base r index rec is in
      ap (λ xs. nth (map (stored_at bytes base) xs) k) (chain_more (next_in bytes base) r left index l named.0)
      ∙ cond-true (eqb k 1) _ _ (eq-eqb k 1 at)
      ∙ ap (λ x. Some x) (sym named.1)

  pub nth-more : (left index k : ℕ) (rec : Record) → 0 < left → Some rec ≡ record_at bytes base r index → (k ≡ 1 → ⊥)
      → nth (map (stored_at bytes base) (chain (next_in bytes base) r left index)) k ≡ nth (map (stored_at bytes base) (chain (next_in bytes base) r (left - 1) rec.next)) (k - 1)
  nth-more left index k rec l is off =
      let named = names bytes base r index rec is in
      ap (λ xs. nth (map (stored_at bytes base) xs) k) (chain_more (next_in bytes base) r left index l named.0)
      ∙ cond-false (eqb k 1) _ _ (ne_eqb k 1 off)
      ∙ ap (λ x. nth (map (stored_at bytes base) (chain (next_in bytes base) r (left - 1) x.next)) (k - 1)) (sym named.1)

  pub nth_none : (left index k : ℕ) → None ≡ record_at bytes base r index → nth (map (stored_at bytes base) (chain (next_in bytes base) r left index)) k ≡ None
  nth_none left index k is = ap (λ xs. nth (map (stored_at bytes base) xs) k) (chain_end (next_in bytes base) r left index (names_none bytes base r index is))

  pub length_none : (left index : ℕ) → None ≡ record_at bytes base r index → length (chain (next_in bytes base) r left index) ≡ 0
  length_none left index is = ap length (chain_end (next_in bytes base) r left index (names_none bytes base r index is))
