use Rattle.std.proofs.Common.{◌∙◌, length}
use Rattle.grade.specs.Kinds.{slots_of}
use Rattle.book.specs.Memory.{memory}
use Rattle.turn.specs.Outcomes.{turning_round}
use Rattle.desk.proofs.Kept.{kept, both, moved}
use Rattle.desk.proofs.Desk+Slots.turn.Goals as goal

pub returns-clause-told : goal.returns-clause-told
returns-clause-told c =
    let bridges = kept _ c.turn.new.bridges c.args.self.now.numbers.items (c.turn.auto.bridges ∙ c.deref_mut-2.ensures.len) in
    let turned = kept _ c.turn.new.turned c.args.self.now.turned.items (c.turn.auto.turned ∙ c.deref_mut-3.ensures.len) in
    both _ bridges turned ∙ c.turn.ensures
    ∙ moved (λ f l w b t. turning_round slots_of (memory c.args.self.now.head f l) (length w) c.args.from c.args.to b t) c.deref.ensures.value c.deref-2.ensures.value c.deref_mut.ensures.value c.deref_mut-2.ensures.value c.deref_mut-3.ensures.value
