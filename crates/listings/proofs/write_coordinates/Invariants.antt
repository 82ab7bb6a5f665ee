-- `listings::write_coordinates` meets its contract: a step writes the two coordinates of a point.
use Rattle.std.proofs.Common.{◌*◌}
use Rattle.finite.specs.Overwriting.{Copied}
use Rattle.model.specs.Outlines.{coordinates}
use Rattle.listings.proofs.write_coordinates.Given as goal

abbrev pub invariant-loop-k : goal.invariant-loop-k
invariant-loop-k l = Copied l.initial.lent 0 (coordinates l.points) l.lent (2 * l.k)
