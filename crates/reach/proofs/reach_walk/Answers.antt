-- `reach::reach_walk` meets its contract: the answer as a number.
use Rattle.reach.proofs.reach_walk.Goals as goal

pub returns : goal.returns
returns c = rw c.code.ensures c.write_walk.ensures
