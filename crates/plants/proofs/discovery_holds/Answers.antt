use mathlib.Core.Path.{refl}
use Rattle.stored.specs.Stored.{chain, follow}
use Rattle.plants.proofs.discovery_holds.Goals as goal

pub returns : goal.returns
unfolding chain follow
returns c = (refl, (refl, (refl, (refl, (refl, (refl, (refl, (refl, (refl, (refl, (refl, (refl, tt))))))))))))
