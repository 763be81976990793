use Rattle.std.proofs.Common.{length, ap, ◌∙◌, subst}
use Rattle.std.proofs.lemmas.Result.{IfOk-at_ok}
use Rattle.grade.specs.Kinds.{slots_le}
use Rattle.book.specs.Memory.{memory}
use Rattle.book.specs.Opening.{opening}
use Rattle.plain.specs.Plain.{new_book}
use Rattle.planner.specs.Promise.{EveryHistory}
use Rattle.answers.proofs.Scripts.{every_script}
use Rattle.answers.proofs.script_book.Book.new.Goals as goal

pub returns : goal.returns
returns c =
    let opened = c.open.ensures.value ∙ ap (opening 16) c.blank-book.ensures in
    let slots = ap (λ m. length m.lines) c.blank-book.ensures in
    let m = memory c.open.new.head c.open.new.first c.open.new.lines in
    let histories = subst (λ k. EveryHistory slots_le m (new_book 16 k)) slots (IfOk-at_ok _ c.unwrap.ensures c.open.ensures.promise) in
    record { memory = ap (λ x. x.1) opened; histories = histories; scripts = every_script m (new_book 16 64) histories }
