-- The state before the first turn. Assumes nothing.
use Rattle.std.proofs.Common.{◌≡◌, ℕ, ◌<◌, Bool, true, false, cond, not, eqb, List, length, get_or, set, Some, None, Option as Held, refl, ap, ◌∙◌, get_or-set_other, get_or-set_same, eqb-true}
use mathlib.Core.Path.{fun_ext}
use mathlib.Core.Option.{none, some}
use borrow.Author.Tests.{eqb-false}
use Rattle.theory.specs.Search.{start}
use Rattle.search.specs.Marks.{mark_of, state_of}
use Rattle.search.proofs.States.{state_path}

-- one number written among zeros
pub only_there : (xs : List ℕ) (a x : ℕ) → ((k : ℕ) → get_or xs k 0 ≡ 0) → a < length xs → (v : ℕ) → get_or (set xs a x) v 0 ≡ cond (eqb v a) x 0
only_there xs a x zeros within v = at (eqb v a) refl
  where
    at : (b : Bool) → eqb v a ≡ b → get_or (set xs a x) v 0 ≡ cond b x 0
    at true eq = ap (λ k. get_or (set xs a x) k 0) (eqb-true v a eq) ∙ get_or-set_same xs a x 0 within
    at false ne = get_or-set_other xs a v x 0 (eqb-false v a ne) ∙ zeros v

module _ {X : Type 0} (read : ℕ → Held X) (none_read : read 0 ≡ None) (number : ℕ) (top : X) (top_read : read number ≡ Some top) (a : ℕ) where
  start_mark : (b : Bool) → mark_of (read (cond b number 0)) 0 ≡ cond b (some (record { label = top; from = 0 })) none
  start_mark true = ap (λ h. mark_of h 0) top_read
  start_mark false = ap (λ h. mark_of h 0) none_read

  -- memory in which only the start is labelled is the state before the first turn
  pub begun : (labels ways taken : List ℕ) → ((v : ℕ) → get_or labels v 0 ≡ cond (eqb v a) number 0) → ((v : ℕ) → get_or ways v 0 ≡ 0) → ((v : ℕ) → get_or taken v 0 ≡ 0)
      → state_of read labels ways taken ≡ start a top
  begun labels ways taken labelled no_way none-taken =
      state_path
      (fun_ext (λ v. ap (λ k. mark_of (read k) (get_or ways v 0)) (labelled v) ∙ ap (mark_of (read (cond (eqb v a) number 0))) (no_way v) ∙ start_mark (eqb v a)))
      (fun_ext (λ v. ap (λ k. not (eqb k 0)) (none-taken v)))
