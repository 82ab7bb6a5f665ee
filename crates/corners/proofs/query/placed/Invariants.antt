-- The loop of `corners::query::placed`: what is found with the edges of the corners that were looked at.
use Rattle.corners.proofs.Views.{Scanning}
use Rattle.corners.proofs.query.placed.Given as goal

abbrev pub invariant-loop-a : goal.invariant-loop-a
invariant-loop-a l = Scanning l.map l.p.point l.view l.a-index
