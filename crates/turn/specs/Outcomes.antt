-- What a question for the lines to turn answers, and what it leaves in memory. Assumes nothing.
use Rattle.std.specs.Prelude.{ℕ, cond, ◌&&◌, List, [], ◌∷◌, ◌++◌, length, drop, None, Option as Held, nat_le, nat_lt}
use Rattle.std.proofs.Math.Option.{Option, none, some}
use Rattle.theory.specs.Arcs.{Arc}
use Rattle.theory.specs.Search.{State, search, way_in}
use Rattle.theory.specs.Delivery.{told}
use Rattle.theory.specs.Widest.{label_le, as_wide, width_told}
use Rattle.theory.specs.Turning.{Turn, as_slots, turning}
use Rattle.theory.specs.declared.labels.Label.{Label}
use Rattle.theory.specs.declared.labels.Label.TheVariants.{Unlimited}
use Rattle.grade.specs.declared.slots.Slots.{Slots}
use Rattle.grade.specs.Told.{Reply, answers, refused, unless_refused}
use Rattle.book.specs.Memory.{Memory}
use Rattle.book.specs.Admission.{admission}
use Rattle.standing.specs.Standing.{standing}
use Rattle.search.specs.Chains.{Lookup, numbered}
use Rattle.search.specs.Ways.{named_over}
use Rattle.turn.specs.declared.told.Turned.{Turned}
use Rattle.turn.specs.Doubling.{Row, none_fixed, both_rule, slots_at, or_zero}

-- the width, how many bridges the route has, and how many lines are to be turned
abbrev pub parts : Turned → ℕ × ℕ × ℕ
parts t = (t.width, t.bridges, t.turned)

-- a list is written in order; memory beyond it stays
abbrev pub written : List ℕ → List ℕ → List ℕ
written xs old = xs ++ drop (length xs) old

-- what is answered, and what both memories hold after it; a refusal writes nothing
abbrev pub Outcome : Type 0
Outcome = Reply (ℕ × ℕ × ℕ) × (List ℕ × List ℕ)

abbrev pub outcome : Reply (ℕ × ℕ × ℕ) → List ℕ → List ℕ → Outcome
outcome r bridges turned = (r, (bridges, turned))

abbrev pub shown : Option Turn → List ℕ → List ℕ → Outcome
shown none bridges turned = outcome (refused 5) bridges turned
shown (some t) bridges turned =
    outcome (answers (t.width, length t.bridges, length t.lines)) (written t.bridges bridges) (written t.lines turned)

-- what a question from a to z comes to over these standing lines, whose grades are read as slots, with no line fixed
abbrev pub turned_round : {G : Type 0} → (G → ℕ) → List (Arc G) → ℕ → ℕ → ℕ → List ℕ → List ℕ → Outcome
turned_round slots arcs n a z bridges turned = shown (turning n (as_slots slots arcs) none_fixed a z) bridges turned

-- the checks of turn in their order, by the lengths of the memory
abbrev pub turn_admission : {G : Type 0} → Memory G → ℕ → ℕ → ℕ → ℕ → ℕ → Reply (Unit {0})
turn_admission m work bridges turned a z = cond (nat_le m.head.bridges bridges && nat_le m.head.bridges turned) (admission m work a z) (refused 2)

-- turn from bridge a to bridge z, with working memory of `work` numbers
abbrev pub turning_round : {G : Type 0} → (G → ℕ) → Memory G → ℕ → ℕ → ℕ → List ℕ → List ℕ → Outcome
turning_round slots m work a z bridges turned =
    unless_refused (turn_admission m work (length bridges) (length turned) a z) (bridges, turned)
    (turned_round slots (standing m) m.head.bridges a z bridges turned)

-- the same, read off a state of the search over any way to look lines up

-- the number of the line from v to u, where the line from u to v has fewer than w slots
abbrev pub against : List Row → Lookup Slots → ℕ → ℕ → ℕ → Held ℕ
against lines look w u v = cond (nat_lt (slots_at lines (or_zero (numbered (look u v)))) w) (numbered (look v u)) None

-- the lines to turn over a row of bridges, from u on
abbrev pub named_by : List Row → Lookup Slots → ℕ → ℕ → List ℕ → List ℕ
named_by lines look w u bs = named_over (against lines look w) u bs

-- the width that the state tells
abbrev pub state_width : State (Label ℕ) → ℕ → Option ℕ
state_width s z = width_told (as_wide (told {G = ℕ} (s.taken z) (s.mark z) []))

abbrev pub turn_of : List Row → Lookup Slots → ℕ → List ℕ → Option ℕ → Option Turn
turn_of lines look a row none = none
turn_of lines look a row (some w) = some (record { width = w; bridges = a ∷ row; lines = named_by lines look w a row })

abbrev pub turn_by : List Row → Lookup Slots → ℕ → ℕ → ℕ → State (Label ℕ) → Option Turn
turn_by lines look n a z s = turn_of lines look a (way_in n s a z []) (state_width s z)

-- the search with both directions added together
abbrev pub both_search : ℕ → List Row → ℕ → ℕ → State (Label ℕ)
both_search n lines a z = search (label_le nat_le) (both_rule n lines) n a Unlimited z
