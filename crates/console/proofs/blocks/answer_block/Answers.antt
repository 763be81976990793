use Rattle.std.proofs.Common.{◌≡◌, ℕ, ◌+◌, ◌-◌, List, length, take, drop, sym, refl, ap, ◌∙◌, subst, arith, length-drop, take_all, drop-drop}
use Rattle.answers.specs.Answers.{tables}
use Rattle.input.specs.Filling.{kept}
use Rattle.console.proofs.Going.{Going, going_none, going_more, going_end}
use Rattle.console.proofs.blocks.answer_block.Goals as goal

-- what is left behind the first n bytes
behind : (n : ℕ) (xs : List ℕ) → take (length xs - n) (drop n xs) ≡ drop n xs
behind n xs = take_all (length xs - n) (drop n xs) (omega (arith, length-drop n xs))

pub loop-used-init : goal.loop-used-init
loop-used-init c = (
  0,
  omega arith,
  refl,
  λ line e.
      let m = tables c.args.book.now in
      subst (λ t. Going line c.args.block.now m 0 (kept c.args.held.now) t m) (sym c.new-text.ensures.bytes) (going_none line c.args.block.now m (kept c.args.held.now) e),
)

pub loop-used-preserved : goal.loop-used-preserved
loop-used-preserved c =
    let h = c.loop-used.invariant in
    let used = c.in-Some.used in
    let block = c.args.block.now in (
      h.0 + used,
      omega (arith, h.1, ap length h.2, c.in-Some.ensures.used.1, length-drop h.0 block),
      behind used _ ∙ ap (drop used) h.2 ∙ drop-drop used h.0 block,
      λ line e.
          let g = h.3 line e in
          let ended = c.in-Some.ensures.lines g.begun g.holds in
          let more = c.in_ok-put_reply.ensures ended.this ended.shown in
          going_more g _ h.2 used _ ended more.0 _ _ _ more.2 more.1 c.clear.ensures,
    )

pub returns : goal.returns
returns c = λ line e.
    let h = c.loop-used.invariant in
    let g = h.3 line e in
    going_end g _ h.2 _ (c.in_default.ensures.lines g.begun g.holds)
