-- A stored survey as the program reads it: records by their index, and marks for the records met. Assumes nothing.
use Rattle.std.specs.Prelude.{ℕ, zero, suc, ◌-◌, Bool, true, false, cond, not, ◌&&◌, List, Some, None, Option, ◌==◌, nat_le, slice_index_or, slice_set}
use Rattle.grade.specs.Told.{Reply, answers, refuses, and_then}
use Rattle.field.specs.Meaning.{nth}
use Rattle.stored.specs.declared.layout.Record.{Record}
use Rattle.stored.specs.Stored.{head_of, stored_at, has_list, list_of}

-- the record that an index names, among the r behind a base
abbrev pub record_at : List ℕ → (base r index : ℕ) → Option Record
record_at bytes base r index = cond (nat_le 1 index && nat_le index r) (Some (stored_at bytes base index)) None

-- the head of a bridge's chain, if the bridge has a list
abbrev pub first_of : List ℕ → ℕ → Option ℕ
first_of bytes b = cond (has_list bytes b) (Some (head_of bytes b)) None

-- the k-th record of a bridge's chain, counted from 1
abbrev pub line_of : List ℕ → (b k : ℕ) → Option Record
line_of bytes b k = cond (has_list bytes b) (nth (list_of bytes b) k) None

-- the same walk along chains with a mark for each record met, in the place of a list of them
unfoldable pub follow_marks : (ℕ → ℕ) → (r left index : ℕ) → List Bool → Reply (List Bool)
follow_marks next r zero index marks = cond (index == 0) (answers marks) (refuses (14, index, 0))
follow_marks next r (suc left) index marks =
    cond (index == 0) (answers marks)
    (cond (nat_le index r && not (slice_index_or marks (index - 1) false)) (follow_marks next r left (next index) (slice_set marks (index - 1) true)) (refuses (14, index, 0)))

abbrev pub follow_all_marks : (ℕ → ℕ) → (ℕ → ℕ) → (r b : ℕ) → List Bool → Reply (List Bool)
follow_all_marks head next r zero marks = answers marks
follow_all_marks head next r (suc b) marks = and_then (follow_all_marks head next r b marks) (follow_marks next r 255 (head (suc b)))
