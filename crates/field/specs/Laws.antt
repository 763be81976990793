-- Ring plans tell what a field may tell. Assumes nothing.
use Rattle.std.specs.Prelude.{◌≡◌, ℕ, ◌+◌, ◌-◌, ◌^◌, ◌<◌, ◌≤◌, Bool, true, false, cond, ◌&&◌, ◌⊎◌, [], ◌∷◌, ◌==◌, nat_le, refl}
use Rattle.std.proofs.Common.{⊎_elim, arith}
use Rattle.std.proofs.lemmas.Bool.{and_parts, leb-true}
use Rattle.field.specs.Meaning.{silent, listed, Sound, Lawful}
use Rattle.field.specs.Ring.{next_of, before_of, entry, ring_list, ring_tells}

cond_below : (t : Bool) (x y m : ℕ) → x < m → y < m → cond t x y < m
cond_below true x y m hx hy = hx
cond_below false x y m hx hy = hy

module _ {G : Type 0} (k : ℕ) (grade : G) (most : k ≤ 256) where
  ring_sound_list : (b : ℕ) → b ≤ k → (t : Bool) → Sound (listed (entry (next_of k b) grade ∷ cond t [] (entry (before_of k b) grade ∷ [])))
  ring_sound_list b h true = (omega arith, (cond_below (b == k) 1 (b + 1) (2 ^ 16) (omega arith) (omega arith), tt))
  ring_sound_list b h false = (omega arith, (cond_below (b == k) 1 (b + 1) (2 ^ 16) (omega arith) (omega arith), (cond_below (b == 1) k (b - 1) (2 ^ 16) (omega arith) (omega arith), tt)))

  ring_sound : (b : ℕ) (t : Bool) → (nat_le 1 b && nat_le b k) ≡ t → Sound (cond t (listed (ring_list k grade b)) (silent 1))
  ring_sound b true e = ring_sound_list b (leb-true b k (and_parts (nat_le 1 b) (nat_le b k) e).1) (k == 2)
  ring_sound b false e = (omega arith, omega arith)

  ring_outside : (b : ℕ) → (b < 1) ⊎ (256 < b) → (t : Bool) → (nat_le 1 b && nat_le b k) ≡ t → cond t (listed (ring_list k grade b)) (silent 1) ≡ silent 1
  ring_outside b out true e =
      let parts = and_parts (nat_le 1 b) (nat_le b k) e in
      let low = leb-true 1 b parts.0 in
      let high = leb-true b k parts.1 in
      absurd (⊎_elim (λ h. omega arith) (λ h. omega arith) out)
  ring_outside b out false e = refl

  pub ring_lawful : Lawful (ring_tells k grade)
  ring_lawful = record {
    sound = λ b. ring_sound b (nat_le 1 b && nat_le b k) refl;
    outside = λ b out. ring_outside b out (nat_le 1 b && nat_le b k) refl;
  }
