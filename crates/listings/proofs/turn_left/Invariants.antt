-- `listings::turn_left` meets its contract: the loop tests every point from the third on.
use Rattle.finite.specs.Loops.{Passed}
use Rattle.listings.specs.Listings.{turn_at}
use Rattle.listings.proofs.turn_left.Given as goal

abbrev pub invariant-loop-k : goal.invariant-loop-k
invariant-loop-k l = Passed (turn_at l.corners.points.now) 2 l.k
