-- `reach::reach_empty` meets its contract: the answer as a number.
use Rattle.reach.proofs.reach_empty.Goals as goal

pub returns : goal.returns
returns c = rw c.code.ensures c.write_empty.ensures
