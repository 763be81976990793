use Rattle.std.proofs.Common.{subst}
use Rattle.plain.specs.Plain.{new_book}
use Rattle.answers.specs.Scripts.{EveryScript}
use Rattle.console.proofs.Sessions.{every_session}
use Rattle.console.proofs.serving.start.Goals as goal

pub returns : goal.returns
returns c = record {
  book = c.new-book.ensures.memory;
  held = c.new-held.ensures;
  sessions = every_session (subst (λ m. EveryScript m (new_book 16 64)) c.new-book.ensures.memory c.new-book.ensures.scripts);
}
