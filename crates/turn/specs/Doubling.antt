-- The lines of a slots book with both directions of each pair added together, as working memory holds them: a label's number
-- is the number of a line, and stands for that line's slots with those of the line the other way round. Assumes nothing.
use Rattle.std.specs.Prelude.{◌≡◌, ℕ, zero, suc, ◌+◌, ◌≤◌, Bool, false, cond, List, [], ◌∷◌, ◌++◌, map, length, Some, None, Option as Held, ◌==◌, nat_le, slice_index}
use Rattle.std.specs.List.{slice_get}
use Rattle.theory.specs.Arcs.{Arc, Lines, line}
use Rattle.theory.specs.Search.{Rule}
use Rattle.theory.specs.Delivery.{hand_by}
use Rattle.theory.specs.Widest.{narrow}
use Rattle.theory.specs.Turning.{Net, as_slots, doubled_net, net_line}
use Rattle.theory.specs.declared.labels.Label.{Label}
use Rattle.theory.specs.declared.labels.Label.TheVariants.{Unlimited, Limited}
use Rattle.grade.specs.declared.slots.Slots.{Slots}
use Rattle.grade.specs.Kinds.{slots_of}
use Rattle.book.specs.declared.memory.Line.{Line}
use Rattle.standing.specs.Standing.{standing_from, line_at}
use Rattle.search.specs.Chains.{Lookup, numbered}

-- no line is fixed: any may be turned
abbrev pub none_fixed : ℕ → Bool
none_fixed k = false

-- the standing lines, read as slots
abbrev pub slot_lines : List (Line Slots) → List (Arc ℕ)
slot_lines lines = as_slots slots_of (standing_from 1 lines)

-- how many slots lead from bridge to bridge, both directions added together
abbrev pub both_ways : List (Line Slots) → Net
both_ways lines = doubled_net (slot_lines lines) none_fixed

-- what such a line hands on of a label
abbrev pub both_rule : ℕ → List (Line Slots) → Rule (Label ℕ)
both_rule n lines u v = hand_by (narrow nat_le) (net_line (both_ways lines) n u v)

-- a record of a slots book's line table
abbrev pub Row : Type 0
Row = Line Slots

-- the slots of a line by its number, 0 where there is none
abbrev pub record_slots : Held (Line Slots) → ℕ
record_slots None = 0
record_slots (Some line) = slots_of line.grade

abbrev pub slots_at : List (Line Slots) → ℕ → ℕ
slots_at lines number = record_slots (line_at lines number)

-- the number of a line that may be there, 0 for none
abbrev pub or_zero : Held ℕ → ℕ
or_zero None = 0
or_zero (Some k) = k

-- the number of the line the other way round
abbrev pub partner : Lookup Slots → Line Slots → ℕ
partner look line = or_zero (numbered (look line.far line.near))

-- the slots of a record with those the other way round
abbrev pub pair_slots : List (Line Slots) → List ℕ → ℕ → Line Slots → ℕ
pair_slots lines partners k line = slots_of line.grade + slots_at lines (slice_index partners k)

-- the label of the record at a place: past the table stands the start's label
abbrev pub pair_label : List (Line Slots) → List ℕ → ℕ → Held (Line Slots) → Label ℕ
pair_label lines partners k None = Unlimited
pair_label lines partners k (Some line) = Limited (pair_slots lines partners k line)

-- the label that a number stands for: none for 0
abbrev pub pair_label_of : List (Line Slots) → List ℕ → ℕ → Held (Label ℕ)
pair_label_of lines partners zero = None
pair_label_of lines partners (suc k) = Some (pair_label lines partners k (slice_get lines k))

-- what the search asks: a book's lines, and the number of the line the other way round at each line's place
pub record Paired (n : ℕ) (lines : List (Line Slots)) (partners : List ℕ) : Type 0 where
  pub few : length lines ≤ 1024
  pub standing : Lines n (standing_from 1 lines)
  pub paired : partners ≡ map (partner (line (standing_from 1 lines))) lines

-- the bridge at the other end of a standing line that touches bridge u
abbrev pub other_end : Line Slots → ℕ → Held ℕ
other_end line u = cond (line.near == 0) None (cond (line.near == u) (Some line.far) (cond (line.far == u) (Some line.near) None))

-- what a record adds to the lines that leave bridge u with both directions added together
abbrev pub crossing : ℕ → ℕ → ℕ → Held ℕ → List (Arc ℕ)
crossing u number slots None = []
crossing u number slots (Some v) = record { number = number; near = u; far = v; grade = slots } ∷ []

-- the same for the records from place k on
abbrev pub crossings : List (Line Slots) → List ℕ → ℕ → ℕ → List (Line Slots) → List (Arc ℕ)
crossings lines partners u k [] = []
crossings lines partners u k (l ∷ ls) = crossing u (k + 1) (pair_slots lines partners k l) (other_end l u) ++ crossings lines partners u (k + 1) ls
