use Rattle.std.proofs.Common.{[], ◌∷◌, ◌++◌, string_bytes, ap, ◌∙◌, append_assoc}
use Rattle.answers.specs.Answers.{tables}
use Rattle.console.proofs.Going.{replied_one}
use Rattle.console.proofs.blocks.put_reply.Goals as goal

pub returns : goal.returns
returns c = λ line e.
    let a = c.in_ok-reply.ensures line (c.bytes.ensures ∙ e) in
    let reply = c.as_str.result.now in (
      reply ++ 10 ∷ [],
      c.in_ok-add_line.ensures ∙ append_assoc (string_bytes c.args.text.now) reply (10 ∷ []),
      replied_one line a.0 (tables c.args.book.now) (tables c.answer_line.new.book) (reply ++ 10 ∷ []) a.1 (ap (λ l. l ++ 10 ∷ []) (c.as_str.ensures.value ∙ a.2.0)) a.2.1,
    )
