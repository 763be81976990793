-- What a call leaves in the whole of a list, and the parts that it is passed. Assumes nothing.
use Rattle.std.proofs.Common.{◌≡◌, ℕ, zero, suc, min, List, [], ◌∷◌, ◌++◌, length, take, drop, ap, ◌∙◌, arith, take_all}
use lib.Seq.{take-append-le}

pub kept : {A : Type 0} (n : ℕ) (xs old : List A) → length xs ≡ n → take n (xs ++ drop (length xs) old) ≡ xs
kept n xs old e = take-append-le n xs (drop (length xs) old) (omega arith) ∙ take_all n xs (omega arith)

pub take_min : (n : ℕ) (xs : List ℕ) → take (min n (length xs)) xs ≡ take n xs
take_min zero xs = let none : min 0 (length xs) ≡ 0 = omega arith in ap (λ k. take k xs) none
take_min (suc n) [] = let none : min (suc n) 0 ≡ 0 = omega arith in ap (λ k. take k []) none
take_min (suc n) (x ∷ xs) =
    let next : min (suc n) (length (x ∷ xs)) ≡ suc (min n (length xs)) = omega arith in
    ap (λ k. take k (x ∷ xs)) next ∙ ap (λ l. x ∷ l) (take_min n xs)

pub beside : {R A : Type 0} (r : R) {a a' : A} → a ≡ a' → ◌≡◌ {A = R × A} (r, a) (r, a')
beside r e = ap (λ x. (r, x)) e

pub both : {R A B : Type 0} (r : R) {a a' : A} {b b' : B} → a ≡ a' → b ≡ b' → ◌≡◌ {A = R × (A × B)} (r, (a, b)) (r, (a', b'))
both r e h = cc

pub joined : {A B R : Type 0} (f : A → B → R) {a a' : A} {b b' : B} → a ≡ a' → b ≡ b' → f a b ≡ f a' b'
joined f p q = cc

pub moved : {A B C D E R : Type 0} (f : A → B → C → D → E → R) {a a' : A} {b b' : B} {c c' : C} {d d' : D} {e e' : E} → a ≡ a' → b ≡ b' → c ≡ c' → d ≡ d' → e ≡ e' → f a b c d e ≡ f a' b' c' d' e'
moved f p q r s t = cc
