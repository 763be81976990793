-- The width that a search tells. Assumes nothing.
use Rattle.std.specs.Prelude.{Bool, true, false, Some, None, Option as Held}
use Rattle.std.proofs.Math.Option.{Option, none, some}
use Rattle.theory.specs.declared.labels.Label.{Label}
use Rattle.theory.specs.declared.labels.Label.TheVariants.{Unlimited, Limited}

-- the width that the end's label tells once the end is taken (the test)
abbrev pub width_in : {G : Type 0} → Bool → Held (Label G) → Held G
width_in false x = None
width_in true None = None
width_in true (Some Unlimited) = None
width_in true (Some (Limited g)) = Some g

-- how the code holds a grade that may be there
abbrev pub as_held : {G : Type 0} → Option G → Held G
as_held none = None
as_held (some g) = Some g
