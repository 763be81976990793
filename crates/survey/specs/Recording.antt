-- What a survey answers, and the memory after it. Assumes nothing.
use Rattle.std.specs.Prelude.{ℕ, cond, List, [], ◌∷◌}
use Rattle.grade.specs.Told.{Reply, answers, refuses, refused, unless_refused}
use Rattle.book.specs.Memory.{Memory}
use Rattle.book.specs.Opening.{fresh}
use Rattle.book.specs.Admission.{is_bridge, book_admission}
use Rattle.lines.specs.Calls.{with_line}
use Rattle.field.specs.Meaning.{Told}
use Rattle.survey.specs.Walk.{Progress, walked, FoundLine, recorded}

-- lines laid one after another, each in the first free slot as the last of its near bridge
abbrev pub lay_all : {G : Type 0} → Memory G → List (FoundLine G) → Memory G
lay_all m [] = m
lay_all m (l ∷ ls) = lay_all (with_line m l.near l.far l.grade) ls

-- a walk that is accepted empties the book and lays what it found; a refusal changes nothing
abbrev pub recorded_over : {G : Type 0} → (ℕ → Told G) → Memory G → Reply Progress → Reply ℕ × Memory G
recorded_over tells m (refuses r) = (refuses r, m)
recorded_over tells m (answers w) = (answers w.lines, lay_all (fresh m.head.bridges m) (recorded tells w.found))

-- a survey from a start, with working memory of `work` numbers
abbrev pub surveying : {G : Type 0} → (ℕ → Told G) → Memory G → (work start : ℕ) → Reply ℕ × Memory G
surveying tells m work start =
    unless_refused (book_admission m work) m
    (cond (is_bridge m.head.bridges start) (recorded_over tells m (walked tells m.head.bridges m.head.slots start)) (refused 3, m))
