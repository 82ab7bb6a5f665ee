-- The loop of `corners::listing::corners_of`: the corners so far are listed.
use Prim.Native.Nat.{◌-◌}
use Rattle.corners.proofs.CornerLoops.{Listing}
use Rattle.corners.proofs.listing.corners_of.Given as goal

abbrev pub invariant-loop-i : goal.invariant-loop-i
invariant-loop-i l = Listing l.map l.first l.points l.i l.a (l.count - l.i)
