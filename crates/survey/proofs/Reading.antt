-- The steps of reading one list, and the stamps of what it told. Assumes nothing.
use Rattle.std.proofs.Common.{◌≡◌, ℕ, zero, suc, ◌+◌, ◌-◌, ◌<◌, ◌≤◌, true, false, cond, not, ◌&&◌, ◌||◌, eqb, ltb, leb, ◌≢◌, List, [], ◌∷◌, length, get_or, drop, set, Some, None, Ok, Err, Result, MatchResult, sym, refl, ap, ◌∙◌, subst, ⊎_elim, arith, length-set}
use Rattle.std.proofs.lemmas.List.{get_or-set_same, get_or-set_other}
use Rattle.std.proofs.lemmas.Bool.{cases_Bool, cases_eq, eq-eqb, ne_eqb, and_parts, leb-true, lt-ltb, le-ltb, cond-true, cond-false}
use Rattle.field.specs.declared.Silence.{Silence}
use Rattle.field.specs.Meaning.{Told, silent, listed, Entry, listing, entries, nth, line_at, far_of, far_at}
use Rattle.grade.specs.Told.{Reply, refuses}
use Rattle.theory.specs.Lists.{among}
use Rattle.survey.specs.Walk.{join, wrong_far, Progress, progress, read_list, read_bridge}
use Rattle.survey.specs.Working.{Stamped, Unstamped}

-- an answer that `map_err` passed on
pub answered : (E : Type 0) (r : Result ℕ Silence) (m : ℕ) → MatchResult r (λ x. ◌≡◌ {A = Result ℕ E} (Ok m) (Ok x)) (λ e. ⊥) → r ≡ Ok m
answered E (Ok x) m h = cc
answered E (Err e) m h = absurd h

-- a bridge that answers with a length has a list of that length
pub length_listed : {G : Type 0} (t : Told G) (m : ℕ) → listing t ≡ Ok m → length (entries t) ≡ m
length_listed (silent cause) m h = let z : ◌≡◌ {A = ℕ} 0 1 = cc in absurd (omega arith)
length_listed (listed es) m h = cc

pub read_listed : {G : Type 0} (n L near : ℕ) (p : Progress) (t : Told G) (m : ℕ) → listing t ≡ Ok m → read_bridge n L near p t ≡ read_list n L near 1 [] p (entries t)
read_listed n L near p (silent cause) m h = let z : ◌≡◌ {A = ℕ} 0 1 = cc in absurd (omega arith)
read_listed n L near p (listed es) m h = refl

pub line_of-entries : {G : Type 0} (t : Told G) (k : ℕ) → line_at t k ≡ nth (entries t) k
line_of-entries (silent cause) k = refl
line_of-entries (listed es) k = refl

-- the k-th line, counted from 1
pub line_at-place : {G : Type 0} (es : List (Entry G)) (k : ℕ) → 1 ≤ k → k ≤ length es → (e : Entry G) × (nth es k ≡ Some e) × (drop (k - 1) es ≡ e ∷ drop k es)
line_at-place [] k low high = absurd (omega arith)
line_at-place (x ∷ es) zero low high = absurd (omega arith)
line_at-place (x ∷ es) (suc zero) low high = (x, refl, refl)
line_at-place (x ∷ es) (suc (suc k)) low high =
    let rest = line_at-place es (suc k) (omega arith) (omega arith) in
    let later : eqb (suc (suc k)) 1 ≡ false = ne_eqb (suc (suc k)) 1 (omega arith) in
    let less : suc (suc k) - 1 ≡ suc k = omega arith in
    let back : k ≡ suc k - 1 = omega arith in (
      rest.0,
      cond-false (eqb (suc (suc k)) 1) (Some x) (nth es (suc (suc k) - 1)) later ∙ ap (nth es) less ∙ rest.1,
      ap (λ j. drop j (x ∷ es)) less ∙ ap (λ j. drop j es) back ∙ rest.2,
    )

-- a list of m lines has each of its lines
pub some_line : {G : Type 0} (t : Told G) (m k : ℕ) → listing t ≡ Ok m → 1 ≤ k → k ≤ m → far_at t k ≡ None → ⊥
some_line t m k h low high none =
    let long = length_listed t m h in
    let at = line_at-place (entries t) k low (omega arith) in
    let is : far_at t k ≡ Some at.0.far = ap far_of (line_of-entries t k ∙ at.1) in
    let z : ◌≡◌ {A = ℕ} 0 1 = cc in
    omega arith

module _ {G : Type 0} (n L near : ℕ) (before : List ℕ) (p : Progress) (t : Told G) (m k far : ℕ) (has_list : listing t ≡ Ok m) (low : 1 ≤ k) (high : k ≤ m) (tells-far : Some far ≡ far_at t k) where
  the_line : (e : Entry G) × (drop (k - 1) (entries t) ≡ e ∷ drop k (entries t)) × (e.far ≡ far)
  the_line =
      let long = length_listed t m has_list in
      let at = line_at-place (entries t) k low (omega arith) in
      let is : far_at t k ≡ Some at.0.far = ap far_of (line_of-entries t k ∙ at.1) in
      (at.0, at.2, cc)

  abbrev step_at : ℕ → Reply Progress
  step_at x =
      cond (wrong_far n near before x) (refuses (10, near, k))
      (cond (ltb p.lines L) (read_list n L near (k + 1) (x ∷ before) (progress (join p.found x) (p.lines + 1)) (drop k (entries t)))
      (refuses (8, near, k)))

  stepped : read_list n L near k before p (drop (k - 1) (entries t)) ≡ step_at far
  stepped = ap (read_list n L near k before p) the_line.1 ∙ ap step_at the_line.2

  pub stops_far : wrong_far n near before far ≡ true → read_list n L near k before p (drop (k - 1) (entries t)) ≡ refuses (10, near, k)
  stops_far w = stepped ∙ cond-true (wrong_far n near before far) _ _ w

  pub stops_full : wrong_far n near before far ≡ false → L ≤ p.lines → read_list n L near k before p (drop (k - 1) (entries t)) ≡ refuses (8, near, k)
  stops_full w full = stepped ∙ cond-false (wrong_far n near before far) _ _ w ∙ cond-false (ltb p.lines L) _ _ (le-ltb p.lines L full)

  pub goes_on : wrong_far n near before far ≡ false → p.lines < L
      → read_list n L near k before p (drop (k - 1) (entries t)) ≡ read_list n L near (k + 1) (far ∷ before) (progress (join p.found far) (p.lines + 1)) (drop (k + 1 - 1) (entries t))
  goes_on w room =
      let at : k ≡ k + 1 - 1 = omega arith in
      stepped ∙ cond-false (wrong_far n near before far) _ _ w ∙ cond-true (ltb p.lines L) _ _ (lt-ltb p.lines L room)
      ∙ ap (λ j. read_list n L near (k + 1) (far ∷ before) (progress (join p.found far) (p.lines + 1)) (drop j (entries t))) at

-- the stamps tell what was told before
pub stamps_tell : {n turn : ℕ} {stamps before : List ℕ} (near far : ℕ) → Stamped n turn stamps before → (not (leb 1 far && leb far n) || (eqb far near || eqb (get_or stamps (far - 1) 0) turn)) ≡ wrong_far n near before far
stamps_tell {n} {turn} {stamps} {before} near far S =
    ⊎_elim
    (λ e. let parts = and_parts (leb 1 far) (leb far n) e in ap (λ x. not (leb 1 far && leb far n) || (eqb far near || x)) (S.told far (leb-true 1 far parts.0) (leb-true far n parts.1)))
    (λ e. rw e)
    (cases_Bool (leb 1 far && leb far n))

pub stamped_none : {n turn : ℕ} {stamps : List ℕ} → Unstamped n turn stamps → Stamped n turn stamps []
stamped_none U = record {
  told = λ b l h. ne_eqb _ _ (λ e. let early = U.earlier b l h in omega arith);
  none_later = λ b l h. let early = U.earlier b l h in omega arith;
  long = U.long;
}

pub stamped_more : {n turn : ℕ} {stamps before : List ℕ} (far : ℕ) → 1 ≤ far → far ≤ n → Stamped n turn stamps before → Stamped n turn (set stamps (far - 1) turn) (far ∷ before)
stamped_more {n} {turn} {stamps} {before} far low high S = record {
  told = λ b l h. ⊎_elim
      (λ e. subst (λ x. eqb (get_or (set stamps (far - 1) turn) (x - 1) 0) turn ≡ (eqb far x || among before x)) (sym e) (ap (λ v. eqb v turn) here ∙ eq-eqb turn turn refl ∙ sym (ap (λ v. v || among before far) (eq-eqb far far refl))))
      (λ ne. ap (λ v. eqb v turn) (other b l h ne) ∙ S.told b l h ∙ sym (ap (λ v. v || among before b) (ne_eqb far b (λ e. ne (sym e)))))
      (cases_eq b far);
  none_later = λ b l h. ⊎_elim
      (λ e. subst (λ x. get_or (set stamps (far - 1) turn) (x - 1) 0 ≤ turn) (sym e) (omega (arith, here)))
      (λ ne. omega (arith, other b l h ne, S.none_later b l h))
      (cases_eq b far);
  long = rw length-set S.long;
}
  where
    here : get_or (set stamps (far - 1) turn) (far - 1) 0 ≡ turn
    here = get_or-set_same stamps (far - 1) turn 0 (omega (arith, S.long))

    other : (b : ℕ) → 1 ≤ b → b ≤ n → (b ≡ far → ⊥) → get_or (set stamps (far - 1) turn) (b - 1) 0 ≡ get_or stamps (b - 1) 0
    other b l h ne = let apart : b - 1 ≢ far - 1 = omega arith in get_or-set_other stamps (far - 1) (b - 1) turn 0 apart
