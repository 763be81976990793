use Rattle.std.proofs.Common.{◌≡◌, [], ◌∷◌, take, vec_items}
use Rattle.survey.specs.Walk.{join_all}
use Rattle.discovery.proofs.telling.found_bridges.Given as goal

abbrev pub invariant-loop-far : goal.invariant-loop-far
invariant-loop-far l = vec_items l.found ≡ join_all (l.start ∷ []) (take l.far-index l.fars)
