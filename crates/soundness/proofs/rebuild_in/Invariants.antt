-- The loop of `soundness::rebuild_in`: the points so far have built the map.
use Rattle.finite.specs.Bounded.{table}
use Rattle.model.specs.Maps.{point_in}
use Rattle.hull.proofs.Taking.{Taking}
use Rattle.soundness.proofs.rebuild_in.Given as goal

abbrev pub invariant-loop-k : goal.invariant-loop-k
invariant-loop-k l = Taking (table l.count (point_in l.points)) l.k l.map l.hashes
