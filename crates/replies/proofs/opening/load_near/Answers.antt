-- `replies::opening::load_near` meets its contract: the file is loaded, and then the range looked
-- at.
use mathlib.Core.Path.{ap}
use mathlib.Core.Bool.{not}
use Rattle.deciding.proofs.Verdicts.{passed_up}
use Rattle.engine.proofs.Rules.{tested}
use Rattle.replies.proofs.OpenedFiles.{loads, refused_already, served_further, refused_further}
use Rattle.replies.proofs.opening.load_near.Goals as goal

pub returns-in_err-map : goal.returns-in_err-map
returns-in_err-map c =
    rw (passed_up _ _ c.from_residual.ensures.1) (refused_already _ _ _ (loads c.in_err-map.ensures))

pub returns-then-not-in_range : goal.returns-then-not-in_range
returns-then-not-in_range c =
    refused_further _ _ _ (loads c.in_ok-map.ensures)
    (tested c.in_range.ensures (ap not c.if-not-in_range.true))

pub returns : goal.returns
returns c =
    served_further _ _ _ (loads c.in_ok-map.ensures)
    (tested c.in_range.ensures (ap not c.if-not-in_range.false))
