use Rattle.std.proofs.Common.{◌∙◌, length}
use Rattle.book.specs.Memory.{memory}
use Rattle.route.specs.Routing.{routing}
use Rattle.desk.proofs.Kept.{kept, both, moved}
use Rattle.desk.proofs.Desk.route.Goals as goal

pub returns-clause-told : goal.returns-clause-told
returns-clause-told g c =
    let numbers = kept _ c.route.new.numbers c.args.self.now.numbers.items (c.route.auto.numbers ∙ c.deref_mut-2.ensures.len) in
    let side = kept _ c.route.new.side c.args.self.now.side.items (c.route.auto.side ∙ c.deref_mut-3.ensures.len) in
    both _ numbers side ∙ c.route.ensures
    ∙ moved (λ f l w n s. routing g.G.Grade.le (memory c.args.self.now.head f l) (length w) c.args.from c.args.to n s) c.deref.ensures.value c.deref-2.ensures.value c.deref_mut.ensures.value c.deref_mut-2.ensures.value c.deref_mut-3.ensures.value
