-- `reach::reach_load` meets its contract: the answer as a number.
use Rattle.reach.proofs.reach_load.Goals as goal

pub returns : goal.returns
returns c = rw c.code.ensures c.write_loaded.ensures
