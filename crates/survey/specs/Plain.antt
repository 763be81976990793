-- A survey on the plain book: it starts afresh and lays the lists of the bridges found, in the order found. Assumes nothing.
use Rattle.std.specs.Prelude.{ℕ, ◌+◌, ◌*◌, cond, List, [], ◌∷◌, nat_le}
use Rattle.grade.specs.Told.{Reply, answers, refuses, refused}
use Rattle.book.specs.Admission.{is_bridge}
use Rattle.plain.specs.Plain.{Plain, lay_free, new_book}
use Rattle.field.specs.Meaning.{Told}
use Rattle.survey.specs.Walk.{Progress, walked, FoundLine, recorded}

-- a line laid on the plain book, with the first free number
abbrev pub plain_lay : {G : Type 0} → Plain G → FoundLine G → Plain G
plain_lay p l = (lay_free p l.near l.far l.grade p.free).1

abbrev pub plain_lay_all : {G : Type 0} → Plain G → List (FoundLine G) → Plain G
plain_lay_all p [] = p
plain_lay_all p (l ∷ ls) = plain_lay_all (plain_lay p l) ls

-- an accepted walk starts the plain book afresh and lays the lists of the bridges found, in the order found
abbrev pub plain_recorded_over : {G : Type 0} → (ℕ → Told G) → Plain G → Reply Progress → Reply ℕ × Plain G
plain_recorded_over tells p (refuses r) = (refuses r, p)
plain_recorded_over tells p (answers w) = (answers w.lines, plain_lay_all (new_book p.bridges p.slots) (recorded tells w.found))

abbrev pub plain_surveying : {G : Type 0} → (ℕ → Told G) → Plain G → (work start : ℕ) → Reply ℕ × Plain G
plain_surveying tells p work start =
    cond (nat_le (8 * p.bridges + p.slots) work)
    (cond (is_bridge p.bridges start)
    (plain_recorded_over tells p (walked tells p.bridges p.slots start))
    (refused 3, p)) (refused 2, p)
