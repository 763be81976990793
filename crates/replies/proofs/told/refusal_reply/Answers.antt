use Rattle.std.proofs.Common.{◌≡◌, ℕ, Bool, false, cond, eqb, [], ◌++◌, codes, decimal, sym, refl, ap, ◌∙◌, append-nil}
use Rattle.std.proofs.lemmas.Result.{IfOk-weaker}
use Rattle.grade.specs.Told.{refusal}
use Rattle.grade.specs.declared.refusal.Refusal.{Refusal}
use Rattle.grade.specs.declared.refusal.Refusal.TheVariants.{NotLawful, MemoryTooShort, BridgeOutOfRange, SameBridge, NoRoute, PairStands, PairAbsent, NoFreeSlot, SurveyOverflows, SilentBridge, WrongFar, NotARoute, WiderRouteExists, WrongSurveyShape, BrokenChains, WrongGrade, WrongSize, WrongScriptLine}
use Rattle.replies.specs.Replies.{word, refusal_reply}
use Rattle.replies.proofs.told.refusal_reply.Goals as goal

bad-line : (e : Refusal) (place n : ℕ) → e ≡ WrongScriptLine place → n ≡ (refusal e).0 → codes "no " ++ (decimal n ++ word place) ≡ refusal_reply (refusal e)
bad-line e place n is number =
    ap (λ (k : ℕ). codes "no " ++ (decimal k ++ word place)) (number ∙ ap (λ (x : Refusal). (refusal x).0) is) ∙ sym (ap (λ (x : Refusal). refusal_reply (refusal x)) is)

-- 17 is the number of bad lines alone
not-17 : (e : Refusal) → ((place : ℕ) → e ≡ WrongScriptLine place → ⊥) → eqb (refusal e).0 17 ≡ false
not-17 NotLawful h = refl
not-17 MemoryTooShort h = refl
not-17 BridgeOutOfRange h = refl
not-17 SameBridge h = refl
not-17 NoRoute h = refl
not-17 PairStands h = refl
not-17 PairAbsent h = refl
not-17 NoFreeSlot h = refl
not-17 (SurveyOverflows bridge position) h = refl
not-17 (SilentBridge bridge cause) h = refl
not-17 (WrongFar bridge position) h = refl
not-17 NotARoute h = refl
not-17 WiderRouteExists h = refl
not-17 WrongSurveyShape h = refl
not-17 (BrokenChains k) h = refl
not-17 (WrongGrade k) h = refl
not-17 WrongSize h = refl
not-17 (WrongScriptLine place) h = absurd (h place refl)

other : (e : Refusal) (n : ℕ) → ((place : ℕ) → e ≡ WrongScriptLine place → ⊥) → n ≡ (refusal e).0 → codes "no " ++ decimal n ≡ refusal_reply (refusal e)
other e n h number =
    ap (λ (k : ℕ). codes "no " ++ decimal k) number
    ∙ sym (ap (λ l. codes "no " ++ l) (ap (λ (b : Bool). decimal (refusal e).0 ++ cond b (word (refusal e).1) []) (not-17 e h) ∙ append-nil (decimal (refusal e).0)))

pub returns-in_default : goal.returns-in_default
returns-in_default c =
    IfOk-weaker c.format-in_default.result _ _ (λ s e. e ∙ other c.args.refusal c.number-number.result c.in_default.not-WrongScriptLine c.number-number.ensures) c.format-in_default.ensures.ok
