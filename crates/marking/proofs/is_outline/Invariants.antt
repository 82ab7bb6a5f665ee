-- `marking::is_outline` meets its contract: the loop tests every place of the claim.
use lib.ListN.{length}
use Rattle.finite.specs.Loops.{Passed}
use Rattle.model.specs.Maps.{point_in}
use Rattle.marking.specs.Claims.{edge_at}
use Rattle.marking.proofs.is_outline.Given as goal

abbrev pub invariant-loop-i : goal.invariant-loop-i
invariant-loop-i l = Passed (edge_at (point_in l.taken.points.now) (length l.taken.points.now) l.claim) 0 l.i
