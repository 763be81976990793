-- States of the search and the taken marks in memory. Assumes nothing.
use Rattle.std.proofs.Common.{◌≡◌, ℕ, ◌<◌, Bool, true, false, not, ◌||◌, eqb, ◌≢◌, List, length, get_or, set, sym, refl, ap, ◌∙◌, get_or-set_other, get_or-set_same, eqb-true}
use mathlib.Core.Path.{fun_ext}
use mathlib.Core.Option.{Option}
use borrow.Author.Tests.{eqb-false}
use Rattle.theory.specs.Search.{Mark, State}
use Rattle.search.specs.Marks.{takens}

-- two states are one where their parts are
pub state_path : {X : Type 0} {m k : ℕ → Option (Mark X)} {s t : ℕ → Bool} → m ≡ k → s ≡ t → ◌≡◌ {A = State X} (record { mark = m; taken = s }) (record { mark = k; taken = t })
state_path p q = λ i. record { mark = p i; taken = q i }

-- a bridge's taken mark is written
pub taken_set : (taken : List ℕ) (u : ℕ) → u < length taken → takens (set taken u 1) ≡ (λ v. eqb v u || takens taken v)
taken_set taken u within = fun_ext (λ v. at v (eqb v u) refl)
  where
    at : (v : ℕ) (b : Bool) → eqb v u ≡ b → takens (set taken u 1) v ≡ (eqb v u || takens taken v)
    at v true eq =
        let is : v ≡ u = eqb-true v u eq in
        let one : get_or (set taken u 1) v 0 ≡ 1 = ap (λ k. get_or (set taken u 1) k 0) is ∙ get_or-set_same taken u 1 0 within in
        ap (λ k. not (eqb k 0)) one ∙ sym (ap (λ t. t || takens taken v) eq)
    at v false ne =
        let apart : v ≢ u = eqb-false v u ne in
        ap (λ k. not (eqb k 0)) (get_or-set_other taken u v 1 0 apart) ∙ sym (ap (λ t. t || takens taken v) ne)
