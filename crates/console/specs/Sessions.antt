-- A script that comes in blocks. Assumes nothing.
use Rattle.std.specs.Prelude.{◌≡◌, ℕ, List, [], ◌∷◌, ◌++◌}
use Rattle.grade.specs.declared.slots.Slots.{Slots}
use Rattle.grade.specs.Told.{Reply}
use Rattle.book.specs.Memory.{Memory}
use Rattle.plain.specs.Plain.{new_book}
use Rattle.grammar.specs.declared.words.Command.{Command}
use Rattle.answers.specs.Answers.{plainly}
use Rattle.answers.specs.Scripts.{new_tables, Asked, served}
use Rattle.input.specs.Lines.{finished, unfinished, last_line, script_lines, whole}
use Rattle.console.specs.Replied.{written, Replied}

-- after the bytes of a line, each block's lines are replied to as it comes, and in the end the line that is left: this is the text
abbrev pub Session : List ℕ → List (List ℕ) → Memory Slots → List ℕ → Type 0
Session line [] m text = (after : Memory Slots) × Replied (last_line line) m text after
Session line (block ∷ blocks) m text =
    (first : List ℕ) × (later : List ℕ) × (after : Memory Slots)
    × (text ≡ first ++ later) × Replied (finished line block) m first after × Session (unfinished line block) blocks after later

-- however a script is cut into blocks, the text has the replies of the plain book of 16 bridges and 64 numbers to its lines
abbrev pub EverySession : Type 0
EverySession =
    (blocks : List (List ℕ)) (text : List ℕ) → Session [] blocks new_tables text →
    (asked : List (Reply Command)) × Asked (script_lines (whole blocks)) asked × (text ≡ written (served plainly asked (new_book 16 64)).0)
