use Rattle.std.proofs.Common.{ap, ◌∙◌}
use Rattle.grade.specs.Kinds.{slots_le}
use Rattle.route.specs.Routing.{routing}
use Rattle.answers.specs.Answers.{tables, bridge_of}
use Rattle.answers.proofs.script_book.Book.route.Goals as goal

pub returns : goal.returns
returns c =
    let m = tables c.args.self.now in
    let numbers = c.args.numbers.now in
    let side = c.args.side.now in
    c.route.ensures ∙ ap (λ a. routing slots_le m 192 a c.bridge-2.result numbers side) c.bridge.ensures ∙ ap (λ z. routing slots_le m 192 (bridge_of c.args.start) z numbers side) c.bridge-2.ensures
