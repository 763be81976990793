-- The choice of the bridge to take next. Assumes nothing.
use Rattle.std.proofs.Common.{◌≡◌, ℕ, suc, Bool, true, false, cond, List, [], get_or, Some, None, Option as Held, sym, refl, ap, ◌∙◌, arith}
use mathlib.Core.Option.{Option, none, some}
use Rattle.theory.specs.Order.{better}
use Rattle.theory.specs.Search.{best, choose, Choice as ChosenMark}
use Rattle.search.specs.declared.choice.Choice.{Choice}
use Rattle.search.specs.Marks.{mark_of, state_of, takens}
use Rattle.search.specs.Choices.{choice, forget, pick, Chosen, Choosing}

forget-cond : {X : Type 0} (b : Bool) (x y : Option (ChosenMark X)) → forget (cond b x y) ≡ cond b (forget x) (forget y)
forget-cond true x y = refl
forget-cond false x y = refl

-- the code's choice is the search's
pub forget-choose : {X : Type 0} (le : X → X → Bool) (i : ℕ) (t : Bool) (x : Held X) (w : ℕ) (c : Option (ChosenMark X)) → forget (choose le i t (mark_of x w) c) ≡ pick le i t x (forget c)
forget-choose le i true x w c = refl
forget-choose le i false None w c = refl
forget-choose le i false (Some x) w none = refl
forget-choose le i false (Some x) w (some k) = forget-cond (better le x k.mark.label) (some (record { bridge = i; mark = record { label = x; from = w } })) (some k)

module _ {X : Type 0} (le : X → X → Bool) (read : ℕ → Held X) (labels taken ways : List ℕ) where
  -- one bridge more
  pub best-more : (k : ℕ) → forget (best le (state_of read labels ways taken) (suc k)) ≡ pick le (suc k) (takens taken (suc k)) (read (get_or labels (suc k) 0)) (forget (best le (state_of read labels ways taken) k))
  best-more k = forget-choose le (suc k) (takens taken (suc k)) (read (get_or labels (suc k) 0)) (get_or ways (suc k) 0) (best le (state_of read labels ways taken) k)

  further : (k : ℕ) (c : Held (Choice X)) → Choosing read labels k c → Choosing read labels (suc k) c
  further k None h = tt
  further k (Some c) h = record { least = h.least; most = omega (arith, h.most); holds = h.holds }

  new : (k : ℕ) (x : X) → read (get_or labels (suc k) 0) ≡ Some x → Chosen read labels (suc k) (choice (suc k) x)
  new k x e = record { least = omega arith; most = omega arith; holds = e }

  either : (k : ℕ) (b : Bool) (x : X) (c : Choice X) → read (get_or labels (suc k) 0) ≡ Some x → Chosen read labels (suc k) c → Choosing read labels (suc k) (cond b (Some (choice (suc k) x)) (Some c))
  either k true x c e h = new k x e
  either k false x c e h = h

  pub pick_chosen : (k : ℕ) (t : Bool) (x : Held X) (c : Held (Choice X)) → read (get_or labels (suc k) 0) ≡ x → Choosing read labels k c → Choosing read labels (suc k) (pick le (suc k) t x c)
  pick_chosen k true x c e h = further k c h
  pick_chosen k false None c e h = further k c h
  pick_chosen k false (Some x) None e h = new k x e
  pick_chosen k false (Some x) (Some c) e h = either k (better le x c.label) x c e (further k (Some c) h)

-- one bridge more, for the choice and what is known of it
pub chosen_more : {X : Type 0} (le : X → X → Bool) (read : ℕ → Held X) (labels taken : List ℕ) (k b : ℕ) (c r : Held (Choice X)) → b ≡ suc k
    → ((ways : List ℕ) → c ≡ forget (best le (state_of read labels ways taken) k)) → Choosing read labels k c
    → r ≡ pick le b (takens taken b) (read (get_or labels b 0)) c
    → ((ways : List ℕ) → r ≡ forget (best le (state_of read labels ways taken) b)) × Choosing read labels b r
chosen_more le read labels taken k b c r is picks held step =
    let now = rw is at step in
    rw is (
      (λ ways. now ∙ ap (pick le (suc k) (takens taken (suc k)) (read (get_or labels (suc k) 0))) (picks ways) ∙ sym (best-more le read labels taken ways k)),
      rw now (pick_chosen le read labels taken [] k (takens taken (suc k)) (read (get_or labels (suc k) 0)) c refl held),
    )
