use Rattle.std.proofs.Common.{◌≡◌, ℕ, List, [], ◌∷◌, ◌++◌, length, take, string_bytes, sym, refl, ap, ◌∙◌, subst, arith, eqb-true}
use borrow.Author.Tests.{eqb-false}
use Rattle.answers.specs.Answers.{tables}
use Rattle.input.specs.Lines.{last_line}
use Rattle.console.specs.Replied.{Replied}
use Rattle.console.proofs.Going.{replied_none}
use Rattle.console.proofs.blocks.answer_rest.Goals as goal

no_line : (line : List ℕ) → length (take 32 line) ≡ 0 → last_line line ≡ []
no_line [] e = refl
no_line (b ∷ bs) e = absurd (omega arith)

one_line : (line : List ℕ) → (length (take 32 line) ≡ 0 → ⊥) → last_line line ≡ line ∷ []
one_line [] h = absurd (h refl)
one_line (b ∷ bs) h = refl

pub returns : goal.returns
returns c = λ line e.
    let m = tables c.args.book.now in
    let some = eqb-false _ 0 (sym c.is_unbegun.ensures ∙ c.if-is_unbegun.false) in
    let ends = one_line line (λ z. some (ap length e ∙ z)) in
    let more = c.in_ok-put_reply.ensures line e in
    let text : string_bytes c.put_reply.new.text ≡ more.0 = more.1 ∙ ap (λ l. l ++ more.0) c.new-text.ensures.bytes in
    subst (λ ls. Replied ls m (string_bytes c.put_reply.new.text) (tables c.put_reply.new.book)) (sym ends)
    (subst (λ t. Replied (line ∷ []) m t (tables c.put_reply.new.book)) (sym text) more.2)
