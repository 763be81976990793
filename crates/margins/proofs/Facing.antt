-- What is reached backward is what reaches forward. Assumes nothing.
use Rattle.std.proofs.Common.{◌≡◌, ℕ, ◌≤◌, Bool, true, List, [], ◌∷◌, sym, refl, ap, ◌∙◌, subst, inl, inr}
use Rattle.theory.specs.Lists.{In, Each}
use Rattle.theory.specs.Order.{better}
use Rattle.theory.specs.Arcs.{Arc, Joins, Apart, AllApart, Proper, Lines}
use Rattle.theory.specs.Reach.{Over, Reach, reaches}
use Rattle.theory.proofs.Tests.{same_test}
use Rattle.theory.proofs.Walks.{over_none, over_first, over_then}
use Rattle.theory.proofs.Reaching.{reaches_tell}
use Rattle.margins.specs.declared.reach.Direction.{Direction}
use Rattle.margins.specs.declared.reach.Direction.TheVariants.{Forward, Backward}
use Rattle.margins.specs.Facing.{pick, facing, faced}

-- going forward the lines are as they stand
pub faced_forward : {G : Type 0} (es : List (Arc G)) → faced Forward es ≡ es
faced_forward [] = refl
faced_forward {G} (e ∷ es) = ap (λ (xs : List (Arc G)). e ∷ xs) (faced_forward es)

-- either bridge of a line is one of 1 to n
pub pick_within : {G : Type 0} (n : ℕ) (d : Direction) (e : Arc G) → Proper n e → pick d e.far e.near ≤ n
pick_within n Forward e p = p.far_to
pick_within n Backward e p = p.near_to

-- each line of a walk has another in its place that leads back
over_back : {G : Type 0} {P Q : Arc G → Type 0} {a b : ℕ} →
    ((x : Arc G) → P x → (y : Arc G) × (y.near ≡ x.far) × (y.far ≡ x.near) × Q y) → Over P a b → Over Q b a
over_back {G} {P} {Q} {a} {b} f o = go a o.walk o.joins o.each
  where
    go : (a : ℕ) (q : List (Arc G)) → Joins a b q → Each P q → Over Q b a
    go a [] j h = over_none (sym j)
    go a (x ∷ q) j h =
        let t = f x h.0 in
        over_then (go x.far q j.1 h.1) (over_first t.0 t.1 t.3 (over_none (t.2 ∙ j.0)))

in_faced : {G : Type 0} (es : List (Arc G)) (x : Arc G) → In x (faced Backward es) → (y : Arc G) × In y es × (x ≡ facing Backward y)
in_faced [] x i = absurd i
in_faced (e ∷ es) x (inl s) = (e, inl refl, s)
in_faced (e ∷ es) x (inr i) = let t = in_faced es x i in (t.0, inr t.1, t.2)

faced_in : {G : Type 0} (es : List (Arc G)) (x : Arc G) → In x es → In (facing Backward x) (faced Backward es)
faced_in [] x i = absurd i
faced_in (e ∷ es) x (inl s) = inl (ap (facing Backward) s)
faced_in (e ∷ es) x (inr i) = inr (faced_in es x i)

module _ {G : Type 0} (le : G → G → Bool) (arcs : List (Arc G)) (w : G) where
  back : {a b : ℕ} → Reach le (faced Backward arcs) w a b → Reach le arcs w b a
  back r = over_back one r
    where
      one : (x : Arc G) → In x (faced Backward arcs) × (better le x.grade w ≡ true) → (y : Arc G) × (y.near ≡ x.far) × (y.far ≡ x.near) × (In y arcs × (better le y.grade w ≡ true))
      one x h =
          let t = in_faced arcs x h.0 in
          (t.0, sym (ap (λ (e : Arc G). e.far) t.2), sym (ap (λ (e : Arc G). e.near) t.2), (t.1, subst (λ (e : Arc G). better le e.grade w ≡ true) t.2 h.1))

  forth : {a b : ℕ} → Reach le arcs w b a → Reach le (faced Backward arcs) w a b
  forth r = over_back (λ x h. (facing Backward x, refl, refl, (faced_in arcs x h.0, h.1))) r

apart_back : {G : Type 0} (e : Arc G) (es : List (Arc G)) → Apart e es → Apart (facing Backward e) (faced Backward es)
apart_back e [] a = tt
apart_back e (x ∷ es) a = ((a.0.0, (λ p q. a.0.1 q p)), apart_back e es a.1)

all_apart_back : {G : Type 0} (es : List (Arc G)) → AllApart es → AllApart (faced Backward es)
all_apart_back [] a = tt
all_apart_back (e ∷ es) a = (apart_back e es a.0, all_apart_back es a.1)

within_back : {G : Type 0} (n : ℕ) (es : List (Arc G)) → Each (Proper n) es → Each (Proper n) (faced Backward es)
within_back n [] h = tt
within_back n (e ∷ es) h =
    let p = h.0 in
    (record { near_from = p.far_from; near_to = p.far_to; far_from = p.near_from; far_to = p.near_to; differ = λ q. p.differ (sym q) }, within_back n es h.1)

-- the marks from z going backward tell what reaches z
pub reaches-back : {G : Type 0} (le : G → G → Bool) (n : ℕ) (arcs : List (Arc G)) → Lines n arcs → (w : G) (z b : ℕ) → reaches le n (faced Backward arcs) w z b ≡ reaches le n arcs w b z
reaches-back le n arcs L w z b =
    let turned : Lines n (faced Backward arcs) = record { within = within_back n arcs L.within; apart = all_apart_back arcs L.apart } in
    same_test _ _
    (λ t. (reaches_tell le n arcs L w b z).1 (back le arcs w ((reaches_tell le n (faced Backward arcs) turned w z b).0 t)))
    (λ t. (reaches_tell le n (faced Backward arcs) turned w z b).1 (forth le arcs w ((reaches_tell le n arcs L w b z).0 t)))
