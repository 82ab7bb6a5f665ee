-- `orbits::orbit_count` meets its contract: the parts under a link taken twice over are its orbits.
use mathlib.Core.Path.{◌∙◌}
use Rattle.orbits.proofs.Counts.{orbits_counted}
use Rattle.orbits.proofs.orbit_count.Goals as goal

pub returns : goal.returns
returns c = c.part_count.ensures ∙ orbits_counted c.requires.first.permutes
