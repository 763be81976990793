-- Stored surveys tell what a field may tell. Assumes nothing.
use Rattle.std.specs.Prelude.{◌≡◌, ℕ, zero, suc, ◌+◌, ◌-◌, ◌*◌, ◌^◌, ◌<◌, ◌≤◌, Bool, true, false, cond, ◌&&◌, ◌⊎◌, List, [], ◌∷◌, map, length, nat_le, slice_index, refl}
use Rattle.std.proofs.Common.{◌∙◌, ⊎_elim, mod-lt, arith}
use Rattle.std.proofs.lemmas.List.{length-map}
use Rattle.std.proofs.lemmas.Bool.{and_parts, leb-true}
use Rattle.theory.specs.Lists.{Each}
use Rattle.field.specs.Meaning.{silent, listed, Sound, Lawful}
use Rattle.stored.specs.Stored.{byte_at, u16_at, bridges, records, base_of, head_of, well_shaped, stored_at, next_in, chain, entry_of, has_list, list_of, stored_tells}

byte_below : (bytes : List ℕ) (at : ℕ) → byte_at bytes at < 256
byte_below bytes at = mod-lt (slice_index bytes at) (omega arith)

u16_below : (bytes : List ℕ) (at : ℕ) → u16_at bytes at < 2 ^ 16
u16_below bytes at = omega (arith, byte_below bytes at, byte_below bytes (at + 1))

chain_short : (next : ℕ → ℕ) (r left index : ℕ) → length (chain next r left index) ≤ left
unfolding chain
chain_short next r zero index = omega arith
chain_short next r (suc left) index = at (nat_le 1 index && nat_le index r) (chain_short next r left (next index))
  where
    at : (t : Bool) → length (chain next r left (next index)) ≤ left → length (cond t (index ∷ chain next r left (next index)) []) ≤ suc left
    at true h = omega arith
    at false h = omega arith

module _ (bytes : List ℕ) where
  sound_entries : (base : ℕ) (xs : List ℕ) → Each (λ e. e.far < 2 ^ 16) (map entry_of (map (stored_at bytes base) xs))
  sound_entries base [] = tt
  sound_entries base (i ∷ xs) = (u16_below bytes (base + 8 * (i - 1)), sound_entries base xs)

  stored_sound : (b : ℕ) (t : Bool) → Sound (cond t (listed (map entry_of (list_of bytes b))) (silent 1))
  stored_sound b true =
      let long = length-map (list_of bytes b) entry_of ∙ length-map (chain (next_in bytes (base_of bytes)) (records bytes) 255 (head_of bytes b)) (stored_at bytes (base_of bytes)) in
      let short = chain_short (next_in bytes (base_of bytes)) (records bytes) 255 (head_of bytes b) in
      (omega arith, sound_entries (base_of bytes) (chain (next_in bytes (base_of bytes)) (records bytes) 255 (head_of bytes b)))
  stored_sound b false = (omega arith, omega arith)

  stored_outside : (b : ℕ) → (b < 1) ⊎ (256 < b) → (t : Bool) → has_list bytes b ≡ t → cond t (listed (map entry_of (list_of bytes b))) (silent 1) ≡ silent 1
  stored_outside b out true e =
      let parts = and_parts (well_shaped bytes) (nat_le 1 b && nat_le b (bridges bytes)) e in
      let within = and_parts (nat_le 1 b) (nat_le b (bridges bytes)) parts.1 in
      let shape = and_parts (nat_le 1 (bridges bytes) && nat_le (bridges bytes) 256) _ parts.0 in
      let limits = and_parts (nat_le 1 (bridges bytes)) (nat_le (bridges bytes) 256) shape.0 in
      let low = leb-true 1 b within.0 in
      let high = leb-true b (bridges bytes) within.1 in
      let most = leb-true (bridges bytes) 256 limits.1 in
      absurd (⊎_elim (λ h. omega arith) (λ h. omega arith) out)
  stored_outside b out false e = refl

  pub stored_lawful : Lawful (stored_tells bytes)
  stored_lawful = record {
    sound = λ b. stored_sound b (has_list bytes b);
    outside = λ b out. stored_outside b out (has_list bytes b) refl;
  }
