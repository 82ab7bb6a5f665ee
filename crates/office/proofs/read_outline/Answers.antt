-- `office::read_outline` meets its contract, by that of the function that it calls.
use mathlib.Core.Bool.{or-false}
use Rattle.model.proofs.Lent.{wrote_by}
use Rattle.office.proofs.read_outline.Goals as goal

pub returns : goal.returns
returns c = wrote_by c.read_outline.ensures (or-false _)
