-- What margins answers, and the memory after it, over the standing lines of a book. Assumes nothing.
use Rattle.std.specs.Prelude.{ℕ, Bool, cond, List, length, nat_le}
use Rattle.grade.specs.Told.{Reply, refused, unless_refused}
use Rattle.theory.specs.Verdicts.{margins_of}
use Rattle.book.specs.Memory.{Memory}
use Rattle.book.specs.Admission.{book_admission}
use Rattle.standing.specs.Standing.{standing}
use Rattle.margins.specs.declared.margin.Margin.{Margin}
use Rattle.margins.specs.Telling.{verdict_told}

-- the answer, and the records after it
abbrev pub ToldMargins : Type 0 → Type 0
ToldMargins G = Reply (Unit {0}) × List (Margin G)

-- the checks in their order, by the lengths of working memory and of the memory of records
abbrev pub margins_admission : {G : Type 0} → Memory G → ℕ → ℕ → Reply (Unit {0})
margins_admission m work records = cond (nat_le m.head.slots records) (book_admission m work) (refused 2)

-- then the verdict on the line numbers
abbrev pub margins_asked : {G : Type 0} → (G → G → Bool) → Memory G → ℕ → List ℕ → List (Margin G) → ToldMargins G
margins_asked le m work ks out =
    unless_refused (margins_admission m work (length out)) out (verdict_told (margins_of le m.head.bridges (standing m) ks) (standing m) out)
