-- The rounds of marking what is reached, line after line. Assumes nothing.
use Rattle.std.proofs.Common.{◌≡◌, ℕ, zero, suc, ◌+◌, ◌-◌, ◌<◌, ◌≤◌, Bool, true, false, cond, not, ◌&&◌, ◌||◌, eqb, List, [], ◌∷◌, length, get_or, drop, set, sym, refl, ap, ◌∙◌, subst, arith, eq-eqb, ne_eqb, eqb-true}
use mathlib.Core.Path.{fun_ext}
use borrow.Author.Tests.{eqb-false}
use Rattle.theory.specs.Order.{better}
use Rattle.theory.specs.Lists.{Each}
use Rattle.theory.specs.Arcs.{Arc}
use Rattle.theory.specs.Reach.{leads, marks}
use Rattle.book.specs.declared.memory.Line.{Line}
use Rattle.standing.specs.Standing.{arc}
use Rattle.search.specs.Marks.{takens}
use Rattle.search.proofs.States.{taken_set}
use Rattle.standing.specs.Standing.{standing_from}
use Rattle.margins.specs.declared.reach.Direction.{Direction}
use Rattle.margins.specs.Facing.{pick, faced, steps}

-- the slots from a place on
pub drop_read : {A : Type 0} (xs : List A) (i : ℕ) (x : A) → i < length xs → x ≡ get_or xs i x → drop i xs ≡ x ∷ drop (suc i) xs
drop_read [] i x within is = absurd (omega arith)
drop_read (y ∷ xs) zero x within is = ap (λ h. h ∷ xs) (sym is)
drop_read (y ∷ xs) (suc i) x within is = drop_read xs i x (omega arith) is

and_assoc : (x y z : Bool) → (x && (y && z)) ≡ ((x && y) && z)
and_assoc true y z = refl
and_assoc false y z = refl

-- the lines that lead to b: the first slot's, and those of the other slots
leads-more : {G : Type 0} (le : G → G → Bool) (bar : G) (d : Direction) (marked : ℕ → Bool) (k : ℕ) (l : Line G) (ls : List (Line G)) (b : ℕ) → leads le bar marked (faced d (standing_from k (l ∷ ls))) b ≡ ((steps le bar d marked l && eqb (pick d l.far l.near) b) || leads le bar marked (faced d (standing_from (suc k) ls)) b)
leads-more {G} le bar d marked k l ls b = go (eqb l.near 0)
  where
    go : (free : Bool) → leads le bar marked (faced d (cond free (standing_from (suc k) ls) (arc k l ∷ standing_from (suc k) ls))) b ≡ ((cond free false (better le l.grade bar && marked (pick d l.near l.far)) && eqb (pick d l.far l.near) b) || leads le bar marked (faced d (standing_from (suc k) ls)) b)
    go true = refl
    go false = ap (λ t. t || leads le bar marked (faced d (standing_from (suc k) ls)) b) (and_assoc (better le l.grade bar) (marked (pick d l.near l.far)) (eqb (pick d l.far l.near) b))

or_swap : (x y z : Bool) → ((x || y) || z) ≡ (y || (x || z))
or_swap true true z = refl
or_swap true false z = refl
or_swap false true z = refl
or_swap false false z = refl

eqb_flip : (a b : ℕ) → eqb a b ≡ eqb b a
eqb_flip a b = go (eqb b a) refl
  where
    go : (t : Bool) → eqb b a ≡ t → eqb a b ≡ t
    go true e = eq-eqb a b (sym (eqb-true b a e))
    go false e = ne_eqb a b (λ is. eqb-false b a e (sym is))

module _ {G : Type 0} (le : G → G → Bool) (bar : G) (d : Direction) (marked : ℕ → Bool) (k : ℕ) (l : Line G) (ls : List (Line G)) (spreading : List ℕ) where
  abbrev others : ℕ → Bool
  others b = leads le bar marked (faced d (standing_from (suc k) ls)) b

  abbrev to : ℕ
  to = pick d l.far l.near

  -- a line that leads on marks the bridge that it leads to
  pub spread_marks : pick d l.far l.near < length spreading → true ≡ steps le bar d marked l → (b : ℕ) → (takens (set spreading (pick d l.far l.near) 1) b || leads le bar marked (faced d (standing_from (suc k) ls)) b) ≡ (takens spreading b || leads le bar marked (faced d (standing_from k (l ∷ ls))) b)
  spread_marks within on b =
      ap (λ t. t b || others b) (taken_set spreading to within)
      ∙ or_swap (eqb b to) (takens spreading b) (others b)
      ∙ ap (λ t. takens spreading b || (t || others b)) (eqb_flip b to)
      ∙ ap (λ t. takens spreading b || ((t && eqb to b) || others b)) on
      ∙ sym (ap (λ t. takens spreading b || t) (leads-more le bar d marked k l ls b))

  -- another changes nothing
  pub spread_stays : false ≡ steps le bar d marked l → (b : ℕ) → (takens spreading b || leads le bar marked (faced d (standing_from (suc k) ls)) b) ≡ (takens spreading b || leads le bar marked (faced d (standing_from k (l ∷ ls))) b)
  spread_stays off b =
      ap (λ t. takens spreading b || ((t && eqb to b) || others b)) off
      ∙ sym (ap (λ t. takens spreading b || t) (leads-more le bar d marked k l ls b))

-- what holds of each line holds of the first slot's, where it stands
pub each_first : {G : Type 0} (P : Arc G → Type 0) (k : ℕ) (l : Line G) (ls : List (Line G)) → eqb l.near 0 ≡ false → Each P (standing_from k (l ∷ ls)) → P (arc k l)
each_first P k l ls stands each = (subst (λ (t : Bool). Each P (cond t (standing_from (suc k) ls) (arc k l ∷ standing_from (suc k) ls))) stands each).0

pub each-rest : {G : Type 0} (P : Arc G → Type 0) (k : ℕ) (l : Line G) (ls : List (Line G)) → Each P (standing_from k (l ∷ ls)) → Each P (standing_from (suc k) ls)
each-rest {G} P k l ls each = go (eqb l.near 0) each
  where
    go : (free : Bool) → Each P (cond free (standing_from (suc k) ls) (arc k l ∷ standing_from (suc k) ls)) → Each P (standing_from (suc k) ls)
    go true h = h
    go false h = h.1

-- a line that leads on stands
pub each_on : {G : Type 0} (P : Arc G → Type 0) (le : G → G → Bool) (bar : G) (d : Direction) (marked : ℕ → Bool) (k : ℕ) (l : Line G) (ls : List (Line G)) → true ≡ steps le bar d marked l → Each P (standing_from k (l ∷ ls)) → P (arc k l)
each_on P le bar d marked k l ls on each = each_first P k l ls (go (eqb l.near 0) on) each
  where
    go : (free : Bool) → true ≡ cond free false (better le l.grade bar && marked (pick d l.near l.far)) → free ≡ false
    go true e = e
    go false e = refl

or_false : (x : Bool) → (x || false) ≡ x
or_false true = refl
or_false false = refl

-- past the last slot there is nothing to add
pub spread_done : {G : Type 0} (le : G → G → Bool) (bar : G) (d : Direction) (marked : ℕ → Bool) (k : ℕ) (ls : List (Line G)) (t : Bool) (b : ℕ) → ls ≡ [] → t ≡ (t || leads le bar marked (faced d (standing_from k ls)) b)
spread_done le bar d marked k ls t b none_left = sym (ap (λ xs. t || leads le bar marked (faced d (standing_from k xs)) b) none_left ∙ or_false t)

-- at first only the start is marked
pub start-marked : (memory : List ℕ) (a : ℕ) → a < length memory → ((k : ℕ) → get_or memory k 0 ≡ 0) → (b : ℕ) → takens (set memory a 1) b ≡ eqb a b
start-marked memory a within clear b =
    ap (λ t. t b) (taken_set memory a within)
    ∙ ap (λ k. eqb b a || not (eqb k 0)) (clear b)
    ∙ or_false (eqb b a)
    ∙ eqb_flip b a

-- one round more
pub round_more : {G : Type 0} (le : G → G → Bool) (arcs : List (Arc G)) (w : G) (a k : ℕ) (t : ℕ → Bool) → ((b : ℕ) → t b ≡ marks le arcs w a k b) → (b : ℕ) → (t b || leads le w t arcs b) ≡ marks le arcs w a (suc k) b
round_more le arcs w a k t so_far b = ap (λ s. s b || leads le w s arcs b) (fun_ext so_far)

-- a round that adds nothing is the last
pub settled : {G : Type 0} (le : G → G → Bool) (arcs : List (Arc G)) (w : G) (a k n : ℕ) → k ≤ n → ((b : ℕ) → marks le arcs w a (suc k) b ≡ marks le arcs w a k b) → (b : ℕ) → marks le arcs w a k b ≡ marks le arcs w a n b
settled le arcs w a k n below same b =
    let whole : (n - k) + k ≡ n = omega arith in
    sym (later (n - k) b) ∙ ap (λ (i : ℕ). marks le arcs w a i b) whole
  where
    later : (d : ℕ) (b : ℕ) → marks le arcs w a (d + k) b ≡ marks le arcs w a k b
    later zero b = let None-more : zero + k ≡ k = omega arith in ap (λ (i : ℕ). marks le arcs w a i b) None-more
    later (suc d) b =
        let one_more : suc d + k ≡ suc (d + k) = omega arith in
        ap (λ (i : ℕ). marks le arcs w a i b) one_more
        ∙ ap (λ (t : ℕ → Bool). t b || leads le w t arcs b) (fun_ext (later d))
        ∙ same b
