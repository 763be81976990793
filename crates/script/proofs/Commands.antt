-- A command made of the numbers that were read. Assumes nothing.
use Rattle.std.proofs.Common.{◌≡◌, ℕ, [], ◌∷◌, List, Result, Ok, Err, sym, subst}
use Rattle.std.specs.Result.{MatchResult, IsOkAnd}
use Rattle.grade.specs.declared.refusal.Refusal.{Refusal}
use Rattle.grade.specs.Told.{told, refusal}
use Rattle.grammar.specs.declared.words.Command.{Command}
use Rattle.grammar.specs.declared.words.Verb.{Verb}
use Rattle.grammar.specs.Grammar.{verb_of, numbers_of, arity, Numbers}
use Rattle.grammar.specs.Words.{ReadThree, ReadCommand, Failed}

module _ (v : Verb) (xs : List ℕ) (place : ℕ) (made : ℕ × ℕ × ℕ → Command) (three : arity v ≡ 3) (verb : (a : ℕ × ℕ × ℕ) → verb_of (made a) ≡ v) (numbers : (a : ℕ × ℕ × ℕ) → numbers_of (made a) ≡ a.0 ∷ a.1 ∷ a.2 ∷ []) where
  pub of_three : (q : Result (ℕ × ℕ × ℕ) Refusal) (r : Result Command Refusal) {F : ℕ × ℕ × ℕ → Command → Type 0} → MatchResult q (λ a. IsOkAnd r (F a)) (λ e. r ≡ Err e) → ((a : ℕ × ℕ × ℕ) (c : Command) → F a c → c ≡ made a) → ReadThree xs place (told (λ a. a) q) → ReadCommand v xs place (told (λ c. c) r)
  of_three (Ok a) (Ok c) h made_so t = subst (λ d. (verb_of d ≡ v) × Numbers (numbers_of d) xs) (sym (made_so a c h)) (verb a, subst (λ ns. Numbers ns xs) (sym (numbers a)) t)
  of_three (Ok a) (Err e) h made_so t = absurd h
  of_three (Err e) r h made_so t = subst (λ s. ReadCommand v xs place (told (λ c. c) s)) (sym h) (subst (λ k. Failed k xs place (refusal e)) (sym three) t)
