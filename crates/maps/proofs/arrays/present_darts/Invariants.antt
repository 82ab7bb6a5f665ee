-- `maps::arrays::present_darts` meets its contract: the loop has filled the places before d.
use mathlib.Core.Bool.{false}
use Rattle.orbits.specs.Sets.{dart_limit}
use Rattle.finite.specs.Loops.{Filled}
use Rattle.model.specs.Maps.{is_present}
use Rattle.maps.proofs.arrays.present_darts.Given as goal

abbrev pub invariant-loop-d : goal.invariant-loop-d
invariant-loop-d l = Filled (is_present l.map) false dart_limit l.d l.is_present-items
