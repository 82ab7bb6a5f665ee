-- `reach::reach_read_outline` meets its contract: the answer as a number.
use Rattle.reach.proofs.reach_read_outline.Goals as goal

pub returns : goal.returns
returns c = rw c.code.ensures c.write_corners_spelt.ensures
