-- What a number in memory stands for. Assumes nothing.
use Rattle.std.proofs.Common.{◌≡◌, ℕ, zero, suc, ◌<◌, List, length, Some, sym, ap, arith}
use Rattle.std.proofs.lemmas.Option.{slice_get_past}
use Rattle.book.specs.declared.memory.Line.{Line}
use Rattle.theory.specs.declared.labels.Label.TheVariants.{Unlimited, Limited}
use Rattle.standing.specs.Standing.{line_at}
use Rattle.search.specs.Labels.{label_of, grade_label}

module _ {G : Type 0} (lines : List (Line G)) where
  -- a number past the table stands for the start's label
  pub label_past : (number : ℕ) → length lines < number → Some Unlimited ≡ label_of lines number
  label_past zero past = absurd (omega arith)
  label_past (suc k) past = sym (ap (λ o. Some (grade_label o)) (slice_get_past lines k (omega arith)))

  -- the number of a record stands for its grade
  pub label_there : (number : ℕ) (line : Line G) → line_at lines number ≡ Some line → label_of lines number ≡ Some (Limited line.grade)
  label_there zero line e = absurd (let z : ◌≡◌ {A = ℕ} 0 1 = cc in omega arith)
  label_there (suc k) line e = ap (λ o. Some (grade_label o)) e
