-- `reach::reach_line` meets its contract: the answer as a number.
use Rattle.reach.proofs.reach_line.Goals as goal

pub returns : goal.returns
returns c = rw c.code.ensures c.write_line.ensures
