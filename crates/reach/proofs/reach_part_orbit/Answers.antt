-- `reach::reach_part_orbit` meets its contract: the answer as a number.
use Rattle.reach.proofs.reach_part_orbit.Goals as goal

pub returns : goal.returns
returns c = rw c.code.ensures c.write_orbit.ensures
