-- The chains of the line table and the rule that they give. Assumes nothing.
use Rattle.std.specs.Prelude.{◌≡◌, ℕ, zero, suc, ◌+◌, ◌-◌, ◌<◌, ◌≤◌, Bool, cond, ◌&&◌, List, [], ◌∷◌, map, length, Some, None, Option as Held, ◌==◌, nat_le, nat_lt, slice_index}
use Rattle.std.proofs.Math.Option.{Option, none, some}
use Rattle.theory.specs.Lists.{Each, Distinct}
use Rattle.theory.specs.Arcs.{Arc, line}
use Rattle.theory.specs.Delivery.{hand_by}
use Rattle.theory.specs.Widest.{label_le, narrow}
use Rattle.theory.specs.Margins.{without}
use Rattle.theory.specs.Search.{Rule, State, search}
use Rattle.book.specs.declared.memory.Line.{Line}
use Rattle.theory.specs.declared.labels.Label.{Label}
use Rattle.theory.specs.declared.labels.Label.TheVariants.{Unlimited}
use Rattle.standing.specs.Standing.{arc, line_at}

abbrev pub linked : {G : Type 0} → ℕ → (ℕ → List (Arc G)) → Held (Line G) → List (Arc G)
linked number go None = []
linked number go (Some line) = arc number line ∷ go line.next

-- the lines on a chain from a number on, in at most so many steps
abbrev pub chain : {G : Type 0} → List (Line G) → ℕ → ℕ → List (Arc G)
chain lines zero number = []
chain lines (suc steps) number = linked number (chain lines steps) (line_at lines number)

-- the first line number of bridge u's chain: 0 outside 1 to n
abbrev pub head : ℕ → List ℕ → ℕ → ℕ
head n first u = cond (nat_lt 0 u && nat_le u n) (slice_index first (u - 1)) 0

-- the lines that leave bridge u
abbrev pub chain_of : {G : Type 0} → ℕ → List ℕ → List (Line G) → ℕ → List (Arc G)
chain_of n first lines u = chain lines (length lines) (head n first u)

-- the first line that arrives at v
abbrev pub towards : {G : Type 0} → List (Arc G) → ℕ → Option (Arc G)
towards [] v = none
towards (e ∷ es) v = cond (v == e.far) (some e) (towards es v)

-- the number of a line that may be there
abbrev pub numbered : {G : Type 0} → Option (Arc G) → Held ℕ
numbered none = None
numbered (some e) = Some e.number

-- which line leads from one bridge to another, if any
abbrev pub Lookup : Type 0 → Type 0
Lookup G = ℕ → ℕ → Option (Arc G)

-- the tables' line from u to v
abbrev pub table_line : {G : Type 0} → ℕ → List ℕ → List (Line G) → Lookup G
table_line n first lines u v = towards (chain_of n first lines u) v

-- lines but for the one of a number that may be given
abbrev pub omitting : {G : Type 0} → Held ℕ → List (Arc G) → List (Arc G)
omitting None arcs = arcs
omitting (Some k) arcs = without arcs k

-- the same with one line left out, if its number is given
abbrev pub line_but : {G : Type 0} → ℕ → List ℕ → List (Line G) → Held ℕ → Lookup G
line_but n first lines skip u v = towards (omitting skip (chain_of n first lines u)) v

-- what the line from u to v hands on of a widest route's label
abbrev pub rule_of : {G : Type 0} → (G → G → Bool) → Lookup G → Rule (Label G)
rule_of le look u v = hand_by (narrow le) (look u v)

-- the search for a widest route from a to z over any way to look lines up
abbrev pub searched : {G : Type 0} → (G → G → Bool) → Lookup G → ℕ → ℕ → ℕ → State (Label G)
searched le look n a z = search (label_le le) (rule_of le look) n a Unlimited z

-- the lines that leave a bridge arrive at bridges below m, at none twice
pub record Fan {G : Type 0} (m : ℕ) (arcs : List (Arc G)) : Type 0 where
  pub within : Each (λ e. e.far < m) arcs
  pub apart : Distinct (map (λ e. e.far) arcs)

-- what the search asks of the tables: every bridge of 1 to n has a place in the bridge table, and its lines are such a fan
pub record Lawful {G : Type 0} (n : ℕ) (first : List ℕ) (lines : List (Line G)) : Type 0 where
  pub bridges : n ≤ length first
  pub fans : (u : ℕ) → 1 ≤ u → u ≤ n → Fan (n + 1) (chain_of n first lines u)

-- the tables hold these standing lines and no other
abbrev pub Holds : {G : Type 0} → ℕ → List ℕ → List (Line G) → List (Arc G) → Type 0
Holds n first lines arcs = (u v : ℕ) → table_line n first lines u v ≡ line arcs u v
