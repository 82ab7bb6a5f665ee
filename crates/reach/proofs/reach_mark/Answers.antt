-- `reach::reach_mark` meets its contract: the answer as a number.
use Rattle.reach.proofs.reach_mark.Goals as goal

pub returns : goal.returns
returns c = rw c.code.ensures c.write_mark.ensures
