-- `marking::take_points` meets its contract: so many pairs are taken, and each point is admitted to the map that those
-- before it built.
use mathlib.Core.Path.{◌≡◌}
use Rattle.model.specs.Marking.{points_of}
use Rattle.marking.proofs.Points.{Placing, PairsAhead}
use Rattle.marking.proofs.take_points.Given as goal

abbrev pub invariant-loop-k : goal.invariant-loop-k
invariant-loop-k l =
    (goal.iterator-loop-k).can_next l.k-iterator × (goal.iterator-loop-k).is_finite l.k-iterator
    × (l.k-iterator.iter.size ≡ 2)
    × PairsAhead l.points l.k-iterator.count l.k-iterator.iter.rest.now
    × Placing (points_of l.points) l.k-iterator.count l.places l.hashes
