-- Small plans of discovery with known answers, as rows of one table over the definitions. Proved: every row holds. Assumes nothing.
use Rattle.std.specs.Prelude.{◌≡◌, List, [], ◌∷◌, ℕ, zero, suc, ◌+◌, replicate}
use Rattle.theory.specs.Lists.{Each}
use Rattle.theory.specs.Arcs.{graded}
use Rattle.theory.specs.Plants.{Plan, ring}
use Rattle.grade.specs.declared.slots.Slots.{Slots}
use Rattle.grade.specs.Kinds.{slots_of, slots_grade, slots_le}
use Rattle.grade.specs.Told.{Reply, answers, refuses, and_then}
use Rattle.book.specs.declared.memory.Line.{Line}
use Rattle.book.specs.Memory.{Memory, memory}
use Rattle.book.specs.Opening.{fresh}
use Rattle.plain.specs.Plain.{new_book}
use Rattle.field.specs.Meaning.{Told, silent, listed}
use Rattle.field.specs.Ring.{ring_tells}
use Rattle.stored.specs.Stored.{opened, stored_tells}
use Rattle.survey.specs.Walk.{Progress, walked}
use Rattle.survey.specs.Recording.{surveying}
use Rattle.survey.specs.Plain.{plain_surveying}
use Rattle.route.specs.Routing.{Routed, routing}

-- a question, with its known answer
pub data Row : Type 0 where
  -- a walk from a start among n bridges with room for L lines: the bridges in the order found and how many lines they tell
  walk_row : (ℕ → Told Slots) → (n L start : ℕ) → Reply (List ℕ × ℕ) → Row
  -- bytes that are opened as a stored survey: what bridges 1, 2, .. tell, as many as asked for
  stored_row : List ℕ → ℕ → Reply (List (Told Slots)) → Row
  -- a survey of an empty book of n bridges and L line slots, from a start: the answer and the whole memory after it
  survey_row : (ℕ → Told Slots) → (n L start : ℕ) → Reply ℕ × Memory Slots → Row
  -- the lines of the plain book after a survey from a start, as a plan
  plan_row : (ℕ → Told Slots) → Plan → (L start : ℕ) → Row
  -- route from a to z on the book that a survey from a start leaves
  route_row : (ℕ → Told Slots) → (n L start a z : ℕ) → Routed Slots → Row

-- the grade of all lines here
abbrev pub five : Slots
five = slots_grade 5

abbrev pub slot : ℕ → ℕ → ℕ → Line Slots
slot near far next = record { near = near; far = far; next = next; grade = five }

-- an empty book over memory that held something else
abbrev pub empty : ℕ → ℕ → Memory Slots
empty n L = fresh n (memory (record { bridges = 0; slots = 0; standing = 0; free = 0 }) (replicate n 7) (replicate L (slot 9 9 9)))

-- enough working memory for each of these books
abbrev pub work : ℕ
work = 64

abbrev pub walk_shown : Progress → List ℕ × ℕ
walk_shown p = (p.found, p.lines)

-- what bridges b, b + 1, .. tell, k of them
abbrev pub first_told : (ℕ → Told Slots) → ℕ → ℕ → List (Told Slots)
first_told tells b zero = []
first_told tells b (suc k) = tells b ∷ first_told tells (b + 1) k

-- the definitions give the known answer
abbrev pub Holds : Row → Type 0
Holds (walk_row tells n L start told) = and_then (walked tells n L start) (λ p. answers (walk_shown p)) ≡ told
Holds (stored_row bytes k told) = and_then (opened bytes) (λ tells. answers (first_told tells 1 k)) ≡ told
Holds (survey_row tells n L start after) = surveying tells (empty n L) work start ≡ after
Holds (plan_row tells p L start) = graded (λ e. slots_of e.grade) (plain_surveying tells (new_book p.bridges L) work start).1.lines ≡ p.lines
Holds (route_row tells n L start a z told) = routing slots_le (surveying tells (empty n L) work start).1 work a z (replicate n 0) (replicate n 0) ≡ told

-- two bridges with one record each, the first of which has the given `next`
abbrev pub two_bridges : ℕ → List ℕ
two_bridges next =
    2 ∷ 0 ∷ 2 ∷ 0 ∷ 1 ∷ 0 ∷ 2 ∷ 0
    ∷ 2 ∷ 0 ∷ next ∷ 0 ∷ 5 ∷ 0 ∷ 0 ∷ 0
    ∷ 1 ∷ 0 ∷ 0 ∷ 0 ∷ 5 ∷ 0 ∷ 0 ∷ 0 ∷ []

-- one line of five slots to a bridge
abbrev pub only : ℕ → Told Slots
only far = listed (record { far = far; grade = five } ∷ [])

abbrev pub table : List Row
table =
    -- a ring of four: the next, then the one before, then the one between
    walk_row (ring_tells 4 five) 4 8 1 (answers (1 ∷ 2 ∷ 4 ∷ 3 ∷ [], 8)) ∷
    -- the last of its eight lines has no slot of seven, and no bridge 4 is in a book of three
    walk_row (ring_tells 4 five) 4 7 1 (refuses (8, 3, 2)) ∷
    walk_row (ring_tells 4 five) 3 8 1 (refuses (10, 1, 2)) ∷
    -- bridge 3 is not in a ring of two
    walk_row (ring_tells 2 five) 3 8 3 (refuses (9, 3, 1)) ∷
    -- a ring of two in bytes, and the same with a record that is its own next
    stored_row (two_bridges 0) 3 (answers (only 2 ∷ only 1 ∷ silent 1 ∷ [])) ∷
    stored_row (two_bridges 1) 3 (refuses (14, 1, 0)) ∷
    walk_row (stored_tells (two_bridges 0)) 2 3 2 (answers (2 ∷ 1 ∷ [], 2)) ∷
    -- the lines of both rings as they are laid in the order found
    survey_row (ring_tells 4 five) 4 8 1 (
      answers 8,
      memory (record { bridges = 4; slots = 8; standing = 8; free = 0 }) (1 ∷ 3 ∷ 7 ∷ 5 ∷ [])
          (slot 1 2 2 ∷ slot 1 4 0 ∷ slot 2 3 4 ∷ slot 2 1 0 ∷ slot 4 1 6 ∷ slot 4 3 0 ∷ slot 3 4 8 ∷ slot 3 2 0 ∷ []),
    ) ∷
    survey_row (stored_tells (two_bridges 0)) 2 3 2 (
      answers 2,
      memory (record { bridges = 2; slots = 3; standing = 2; free = 3 }) (2 ∷ 1 ∷ []) (slot 2 1 0 ∷ slot 1 2 0 ∷ slot 0 0 0 ∷ []),
    ) ∷
    -- a refusal leaves the book
    survey_row (ring_tells 4 five) 4 7 1 (refuses (8, 3, 2), empty 4 7) ∷
    -- the ring of four on the plain book, and the route between two opposite bridges
    plan_row (ring_tells 4 five) ring 8 1 ∷
    route_row (ring_tells 4 five) 4 8 1 1 3 (answers (record { width = five; length = 2 }), (1 ∷ 3 ∷ 0 ∷ 0 ∷ [], 1 ∷ 0 ∷ 0 ∷ 0 ∷ [])) ∷
    []

-- Every row holds
abbrev pub DiscoveryHolds : Type 0
DiscoveryHolds = Each Holds table
