-- `reach::reach_area` meets its contract: the answer as a number.
use Rattle.reach.proofs.reach_area.Goals as goal

pub returns : goal.returns
returns c = rw c.code.ensures c.write_loaded_area.ensures
