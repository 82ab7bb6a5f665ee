-- `reach::reach_corners` meets its contract: the answer as a number.
use Rattle.reach.proofs.reach_corners.Goals as goal

pub returns : goal.returns
returns c = rw c.code.ensures c.write_corners.ensures
