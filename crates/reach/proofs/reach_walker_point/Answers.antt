-- `reach::reach_walker_point` meets its contract: the answer as a number.
use Rattle.reach.proofs.reach_walker_point.Goals as goal

pub returns : goal.returns
returns c = rw c.code.ensures c.write_walker.ensures
