-- The loop of `corners::listing::lowest_corner`: the lowest corner so far is compared with those ahead.
use Prim.Native.Nat.{◌-◌}
use Rattle.corners.proofs.CornerLoops.{Seeking}
use Rattle.corners.proofs.listing.lowest_corner.Given as goal

abbrev pub invariant-loop : goal.invariant-loop
invariant-loop l = Seeking l.map l.start l.lowest l.a (l.map.count - l.counter)
