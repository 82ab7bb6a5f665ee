-- `reach::reach_counts` meets its contract: the answer as a number.
use Rattle.reach.proofs.reach_counts.Goals as goal

pub returns : goal.returns
returns c = rw c.code.ensures c.write_counts.ensures
