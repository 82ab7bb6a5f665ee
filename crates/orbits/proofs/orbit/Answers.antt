-- `orbits::orbit` meets its contract: what one link reaches is what it reaches taken twice over.
use mathlib.Core.Path.{◌∙◌}
use Rattle.orbits.proofs.Parts.{orbit_within, orbit_set}
use Rattle.orbits.proofs.orbit.Goals as goal

pub part-requires : goal.part-requires
part-requires c = orbit_within c.requires.0 c.requires.1

pub returns : goal.returns
returns c = c.part.ensures ∙ orbit_set c.requires.1
