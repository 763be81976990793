-- Whole scripts, on the book in memory and on the plain book. Assumes nothing.
use Rattle.std.specs.Prelude.{◌≡◌, ℕ, List, [], ◌∷◌, replicate}
use Rattle.grade.specs.declared.slots.Slots.{Slots}
use Rattle.grade.specs.Told.{Reply}
use Rattle.grade.specs.Kinds.{slots_grade}
use Rattle.book.specs.Memory.{Memory, memory}
use Rattle.book.specs.Opening.{fresh}
use Rattle.plain.specs.Plain.{Plain, Agrees}
use Rattle.grammar.specs.declared.words.Command.{Command}
use Rattle.grammar.specs.Grammar.{Parsed}
use Rattle.answers.specs.Answers.{Calls, in_memory, plainly, replied, shown}

-- memory for 16 bridges and 64 lines, with grades of one slot
abbrev pub blank_tables : Memory Slots
blank_tables =
    memory (record { bridges = 0; slots = 0; standing = 0; free = 0 }) (replicate 16 0)
    (replicate 64 (record { near = 0; far = 0; next = 0; grade = slots_grade 1 }))

-- the new book in it: no bridge has a line, and all slots are free
abbrev pub new_tables : Memory Slots
new_tables = fresh 16 blank_tables

-- what the lines of a script ask, one by one
abbrev pub Asked : List (List ℕ) → List (Reply Command) → Type 0
Asked [] [] = Unit {0}
Asked [] (q ∷ qs) = ⊥
Asked (line ∷ lines) [] = ⊥
Asked (line ∷ lines) (q ∷ qs) = Parsed line q × Asked lines qs

-- the bytes of the replies to a script, one reply to a line, and the book after it
abbrev pub served : {B : Type 0} → Calls B → List (Reply Command) → B → List (List ℕ) × B
served calls [] b = ([], b)
served calls (q ∷ qs) b = (shown (replied calls q b).0 ∷ (served calls qs (replied calls q b).1).0, (served calls qs (replied calls q b).1).1)

-- every script is replied to as on the plain book, and the two books agree after it: in free numbers, in lines and in chains
abbrev pub EveryScript : Memory Slots → Plain Slots → Type 0
EveryScript m p =
    (script : List (List ℕ)) (asked : List (Reply Command)) → Asked script asked →
    ((served in_memory asked m).0 ≡ (served plainly asked p).0) × Agrees (served in_memory asked m).1 (served plainly asked p).1
