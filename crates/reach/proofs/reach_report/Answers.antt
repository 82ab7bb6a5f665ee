-- `reach::reach_report` meets its contract: the answer as a number.
use Rattle.reach.proofs.reach_report.Goals as goal

pub returns : goal.returns
returns c = rw c.code.ensures c.write_report.ensures
