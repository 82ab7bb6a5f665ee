-- `maps::support::is_supporting_edge` meets its contract: the loop tests every point.
use mathlib.Core.Path.{◌≡◌}
use Rattle.model.specs.Maps.{point_in}
use Rattle.maps.specs.Places.{aside_in}
use Rattle.finite.specs.Loops.{Passed}
use Rattle.maps.proofs.support.is_supporting_edge.Given as goal

abbrev pub invariant-loop-c : goal.invariant-loop-c
invariant-loop-c l = let points = l.ranged.points.now in
    (l.from.point ≡ point_in points l.a) × (l.to.point ≡ point_in points l.b) × Passed (aside_in points l.a l.b) 0 l.c
