-- Lines that were replied to, and the text of the replies. Assumes nothing.
use Rattle.std.specs.Prelude.{◌≡◌, ℕ, List, [], ◌∷◌, ◌++◌}
use Rattle.grade.specs.declared.slots.Slots.{Slots}
use Rattle.grade.specs.Told.{Reply}
use Rattle.book.specs.Memory.{Memory}
use Rattle.grammar.specs.declared.words.Command.{Command}
use Rattle.answers.specs.Answers.{in_memory}
use Rattle.answers.specs.Scripts.{Asked, served}

-- the text of replies, each ended by a byte 10
abbrev pub written : List (List ℕ) → List ℕ
written [] = []
written (reply ∷ replies) = reply ++ (10 ∷ written replies)

-- on the book m the lines were replied to with this text, which left the book after it
pub record Replied (lines : List (List ℕ)) (m : Memory Slots) (text : List ℕ) (after : Memory Slots) : Type 0 where
  pub asked : List (Reply Command)
  pub asks : Asked lines asked
  pub replies : text ≡ written (served in_memory asked m).0
  pub book : after ≡ (served in_memory asked m).1
