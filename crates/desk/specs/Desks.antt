-- What a desk holds. Assumes nothing.
use Rattle.std.specs.Prelude.{◌≡◌, ℕ, ◌+◌, ◌*◌, List, length}
use Rattle.grade.specs.Told.{Reply, answers, refuses}
use Rattle.book.specs.Memory.{Memory, memory}
use Rattle.field.specs.Meaning.{Told}
use Rattle.survey.specs.Recording.{surveying}
use Rattle.margins.specs.declared.margin.Margin.{Margin}
use Rattle.desk.specs.declared.Desk.{Desk}

-- the book as it lies in the desk's memory
abbrev pub tables : {G : Type 0} → Desk G → Memory G
tables d = memory d.head d.first.items d.lines.items

-- how many numbers working memory has
abbrev pub room : {G : Type 0} → Desk G → ℕ
room d = length d.work.items

-- what no call on a desk changes: how many bridges it is for, and how many numbers working memory has
abbrev pub fixed : {G : Type 0} → Desk G → ℕ × ℕ
fixed d = (d.bridges, room d)

-- what was told last: numbers, a side, margins and turned lines
abbrev pub told_last : {G : Type 0} → Desk G → List ℕ × List ℕ × List (Margin G) × List ℕ
told_last d = (d.numbers.items, d.side.items, d.margins.items, d.turned.items)

-- what was told last by other questions than route, than margins, and than turn
abbrev pub beside_route : {G : Type 0} → Desk G → List (Margin G) × List ℕ
beside_route d = (d.margins.items, d.turned.items)

abbrev pub beside_margins : {G : Type 0} → Desk G → List ℕ × List ℕ × List ℕ
beside_margins d = (d.numbers.items, d.side.items, d.turned.items)

abbrev pub beside_turn : {G : Type 0} → Desk G → List ℕ × List (Margin G)
beside_turn d = (d.side.items, d.margins.items)

-- a desk's memory is for this many bridges and line slots: every call has all the memory that it asks for
pub record IsFor {G : Type 0} (bridges slots : ℕ) (d : Desk G) : Type 0 where
  pub asked : d.bridges ≡ bridges
  pub first : length d.first.items ≡ bridges
  pub lines : length d.lines.items ≡ slots
  pub work : length d.work.items ≡ 8 * bridges + slots
  pub numbers : length d.numbers.items ≡ bridges
  pub side : length d.side.items ≡ bridges
  pub margins : length d.margins.items ≡ slots
  pub turned : length d.turned.items ≡ bridges

-- a survey after an opening: a refused opening is refused as it was
abbrev pub surveyed : {G : Type 0} → (ℕ → Told G) → Reply (Unit {0}) × Memory G → ℕ → ℕ → Reply ℕ × Memory G
surveyed tells (answers done, m) work start = surveying tells m work start
surveyed tells (refuses r, m) work start = (refuses r, m)
