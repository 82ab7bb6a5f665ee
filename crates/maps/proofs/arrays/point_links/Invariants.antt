-- `maps::arrays::point_links` meets its contract: the loop has filled the places before d.
use Rattle.orbits.specs.Sets.{dart_limit}
use Rattle.finite.specs.Loops.{Filled}
use Rattle.model.specs.Maps.{point_link}
use Rattle.maps.proofs.arrays.point_links.Given as goal

abbrev pub invariant-loop-d : goal.invariant-loop-d
invariant-loop-d l = Filled (point_link l.map) 0 dart_limit l.d l.link-items
