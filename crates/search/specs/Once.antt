-- That tables are lawful has one proof at most, as a struct that keeps it asks. Assumes nothing.
use Rattle.std.specs.Prelude.{ℕ, ◌<◌, List, [], ◌∷◌, map}
use Rattle.std.specs.Coded.{×_prop, Unit-prop, le_prop}
use mathlib.Core.Path.{fun_ext}
use Rattle.theory.specs.Lists.{Each, Distinct}
use Rattle.theory.specs.Arcs.{Arc}
use Rattle.book.specs.declared.memory.Line.{Line}
use Rattle.search.specs.Chains.{Fan, Lawful}

each_once : {A : Type 0} (P : A → Type 0) → ((x : A) → IsProp (P x)) → (xs : List A) → IsProp (Each P xs)
each_once P once [] = Unit-prop
each_once P once (x ∷ xs) = ×_prop (once x) (each_once P once xs)

never_once : {A : Type 0} → IsProp (A → ⊥)
never_once f g = fun_ext (λ x. absurd (f x))

distinct_once : (ks : List ℕ) → IsProp (Distinct ks)
distinct_once [] = Unit-prop
distinct_once (k ∷ ks) = ×_prop never_once (distinct_once ks)

fan_once : {G : Type 0} (m : ℕ) (arcs : List (Arc G)) → IsProp (Fan m arcs)
fan_once m arcs a b = λ i. record {
  within = each_once (λ e. e.far < m) (λ e. le_prop) arcs a.within b.within i;
  apart = distinct_once (map (λ e. e.far) arcs) a.apart b.apart i;
}

pub Lawful-once : {G : Type 0} (n : ℕ) (first : List ℕ) (lines : List (Line G)) → IsProp (Lawful n first lines)
Lawful-once n first lines a b = λ i. record {
  bridges = le_prop a.bridges b.bridges i;
  fans = λ u low high. fan_once _ _ (a.fans u low high) (b.fans u low high) i;
}
