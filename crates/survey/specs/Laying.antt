-- When the lines of a survey can be laid on a book, one after another. What the functions that lay them lean on. Assumes nothing.
use Rattle.std.specs.Prelude.{◌≡◌, ℕ, ◌≤◌, List, [], ◌∷◌, length}
use Rattle.std.proofs.Math.Option.{none}
use Rattle.theory.specs.Arcs.{Pair, line}
use Rattle.theory.specs.Chains.{chain}
use Rattle.book.specs.Memory.{Memory}
use Rattle.book.specs.Chains.{slots_on}
use Rattle.book.specs.Lawful.{chain_of}
use Rattle.lines.specs.Calls.{last_of}
use Rattle.plain.specs.Plain.{Plain, Agrees}
use Rattle.field.specs.Meaning.{Told, Entry, entries}
use Rattle.survey.specs.Walk.{FoundLine, lines_from}
use Rattle.survey.specs.Plain.{plain_lay, plain_lay_all}

-- a line between two bridges that do not have one, and a free number for it
pub record CanLay {G : Type 0} (p : Plain G) (l : FoundLine G) : Type 0 where
  pub ends : Pair p.bridges l.near l.far
  pub no_line : line p.lines l.near l.far ≡ none
  pub slot : ℕ
  pub rest : List ℕ
  pub free : p.free ≡ slot ∷ rest

-- so each line in its turn
abbrev pub CanLayAll : {G : Type 0} → Plain G → List (FoundLine G) → Type 0
CanLayAll p [] = Unit {0}
CanLayAll p (l ∷ ls) = CanLay p l × CanLayAll (plain_lay p l) ls

-- bridge b is one of the book's, and has no line
abbrev pub Bare : {G : Type 0} → Plain G → ℕ → Type 0
Bare p b = (1 ≤ b) × (b ≤ p.bridges) × (chain p.lines b ≡ [])

-- so each bridge's list in its turn, on a book in which the bridge has no line
abbrev pub CanLayLists : {G : Type 0} → (ℕ → Told G) → Plain G → List ℕ → Type 0
CanLayLists tells p [] = Unit {0}
CanLayLists tells p (b ∷ bs) =
    Bare p b × CanLayAll p (lines_from b (entries (tells b))) × CanLayLists tells (plain_lay_all p (lines_from b (entries (tells b)))) bs

-- the book in memory stands for a plain book on which a bridge's list can be laid
abbrev pub ReadyList : {G : Type 0} → Memory G → ℕ → List (Entry G) → Type 0
ReadyList {G} m near es = (p : Plain G) × Agrees m p × Bare p near × CanLayAll p (lines_from near es)

-- or the lists of some bridges, one after another
abbrev pub ReadyLists : {G : Type 0} → (ℕ → Told G) → Memory G → List ℕ → Type 0
ReadyLists {G} tells m order = (p : Plain G) × Agrees m p × CanLayLists tells p order

-- or the rest of a bridge's list, behind the slot `last` of its chain
abbrev pub ReadyRest : {G : Type 0} → Memory G → (near last : ℕ) → List (Entry G) → Type 0
ReadyRest {G} m near last es =
    (p : Plain G) × Agrees m p × (last ≤ length m.lines) × (last_of 0 (slots_on (chain_of m near)) ≡ last) × CanLayAll p (lines_from near es)
