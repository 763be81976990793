-- The steps of a walk from bridge to bridge. Assumes nothing.
use Rattle.std.proofs.Common.{◌≡◌, ℕ, zero, suc, ◌+◌, ◌-◌, ◌<◌, ◌≤◌, ltb, List, ◌++◌, length, get_or, take, sym, refl, ap, ◌∙◌, arith}
use Rattle.std.proofs.lemmas.List.{length-take-le, take-append-le, get_or-take}
use Rattle.std.proofs.lemmas.Bool.{lt-ltb, le-ltb, cond-true, cond-false}
use Rattle.field.specs.Meaning.{Told}
use Rattle.grade.specs.Told.{Reply, answers, and_then}
use Rattle.survey.specs.Walk.{Progress, progress, read_bridge, walk_on}
use Rattle.survey.specs.Working.{FoundIn, stands_for}
use Rattle.survey.specs.declared.walk.Tally.{Tally}

-- the bridges found are as many as the count says, and stand where the memory has them
pub count_found : {n count : ℕ} {order marks : List ℕ} → FoundIn n order marks count → length (take count order) ≡ count
count_found {n} {count} {order} F = length-take-le count order (omega (arith, F.few, F.long_order))

-- the order found stands at the front of the whole working memory
pub stands_in : {n : ℕ} {order marks : List ℕ} (more : List ℕ) (t : Tally) → FoundIn n order marks t.found → stands_for (order ++ more) t ≡ stands_for order t
stands_in {n} {order} more t F = ap (λ found. progress found t.lines) (take-append-le t.found order more (omega (arith, F.few, F.long_order)))

module _ {G : Type 0} (tells : ℕ → Told G) (n L : ℕ) where
  pub walk_end : (turns taken : ℕ) (p : Progress) → length p.found ≤ taken → walk_on tells n L turns taken p ≡ answers p
  walk_end zero taken p h = refl
  walk_end (suc turns) taken p h = cond-false (ltb taken (length p.found)) _ _ (le-ltb taken (length p.found) h)

  walk_more : (taken : ℕ) (p : Progress) → taken < n → taken < length p.found
      → walk_on tells n L (n - taken) taken p ≡ and_then (read_bridge n L (get_or p.found taken 0) p (tells (get_or p.found taken 0))) (walk_on tells n L (n - (taken + 1)) (taken + 1))
  walk_more taken p l h =
      let turns : n - taken ≡ suc (n - (taken + 1)) = omega arith in
      ap (λ t. walk_on tells n L t taken p) turns ∙ cond-true (ltb taken (length p.found)) _ _ (lt-ltb taken (length p.found) h)

  -- the bridge that memory has next is taken, and gives an answer
  pub walk_take : {order marks : List ℕ} {count : ℕ} (taken lines : ℕ) (a : Reply Progress) → FoundIn n order marks count → taken < count
      → a ≡ read_bridge n L (get_or order taken 0) (progress (take count order) lines) (tells (get_or order taken 0))
      → walk_on tells n L (n - taken) taken (progress (take count order) lines) ≡ and_then a (walk_on tells n L (n - (taken + 1)) (taken + 1))
  walk_take {order} {marks} {count} taken lines a F l read =
      let many = count_found F in
      let few = F.few in
      let same = get_or-take count order taken 0 l in
      walk_more taken (progress (take count order) lines) (omega arith) (omega arith)
      ∙ ap (λ b. and_then (read_bridge n L b (progress (take count order) lines) (tells b)) (walk_on tells n L (n - (taken + 1)) (taken + 1))) same
      ∙ ap (λ x. and_then x (walk_on tells n L (n - (taken + 1)) (taken + 1))) (sym read)
