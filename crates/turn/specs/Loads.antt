-- The load of a book: the slots of all standing lines, by line number, for any reading of grades as slots. Assumes nothing.
use Rattle.std.specs.Prelude.{ℕ, cond, List, sum_by, ◌==◌}
use Rattle.grade.specs.Told.{Reply, answers, refuses}
use Rattle.book.specs.declared.memory.Line.{Line}
use Rattle.book.specs.Memory.{Memory}
use Rattle.book.specs.Admission.{book_admission}

-- what a line record adds: nothing where it is free
abbrev pub share : {G : Type 0} → (G → ℕ) → Line G → ℕ
share slots line = cond (line.near == 0) 0 (slots line.grade)

abbrev pub load_of : {G : Type 0} → (G → ℕ) → List (Line G) → ℕ
load_of slots lines = sum_by (share slots) lines

-- what load answers once the checks that every call makes first have spoken
abbrev pub loaded : Reply (Unit {0}) → ℕ → Reply ℕ
loaded (answers u) sum = answers sum
loaded (refuses r) sum = refuses r

abbrev pub loading : {G : Type 0} → (G → ℕ) → Memory G → ℕ → Reply ℕ
loading slots m work = loaded (book_admission m work) (load_of slots m.lines)
