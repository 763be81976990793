-- A widest route whose margins are asked. Assumes nothing.
use Rattle.std.specs.Prelude.{◌≡◌, ℕ, Bool, cond, Some, None}
use Rattle.theory.specs.Lists.{among}
use Rattle.theory.specs.Arcs.{Arc, Lines, Pair}
use Rattle.theory.specs.Margins.{margin_by}
use Rattle.theory.specs.Reach.{reaches}
use Rattle.search.specs.Chains.{Holds}
use Rattle.margins.specs.declared.asked.Asked.{Asked}
use Rattle.margins.specs.declared.margin.Margin.{Margin}
use Rattle.margins.specs.Standing.{standing}
use Rattle.margins.specs.Picking.{picked}
use Rattle.margins.specs.Telling.{as_margin}

-- what the tables of a book, and the ends of a route over its lines, give to work out margins on
pub record Sound {G : Type 0} (t : Asked G) : Type 0 where
  pub holds : Holds t.tables.now.n t.tables.now.first.now t.tables.now.lines.now (standing t.tables.now.lines.now)
  pub proper : Lines t.tables.now.n (standing t.tables.now.lines.now)
  pub ends : Pair t.tables.now.n t.ends.start t.ends.end

-- a line's margin; the test tells whether it is on the route
abbrev pub margin_if : {G : Type 0} → (G → G → Bool) → Asked G → Arc G → Bool → Margin G
margin_if le t e on = as_margin (margin_by le t.tables.now.n (standing t.tables.now.lines.now) t.ends.start t.ends.end (picked (standing t.tables.now.lines.now) t.numbers.now) t.width e on)

abbrev pub margin_told : {G : Type 0} → (G → G → Bool) → Asked G → Arc G → Margin G
margin_told le t e = margin_if le t e (among t.numbers.now e.number)

-- the marks tell what the start reaches, and what reaches the end, over lines better than the width
abbrev pub Reached : {G : Type 0} → (G → G → Bool) → Asked G → (ℕ → Bool) → Type 0
Reached le t marked = (b : ℕ) → marked b ≡ reaches le t.tables.now.n (standing t.tables.now.lines.now) t.width t.ends.start b

abbrev pub Reaching : {G : Type 0} → (G → G → Bool) → Asked G → (ℕ → Bool) → Type 0
Reaching le t marked = (b : ℕ) → marked b ≡ reaches le t.tables.now.n (standing t.tables.now.lines.now) t.width b t.ends.end

-- the margin of a line off the route, where both of its bridges are marked (the test)
abbrev pub margin_off : {G : Type 0} → G → Bool → Margin G
margin_off w both = record { low = None; high = cond both (Some w) None }
