-- `measures::fan_from` meets its contract: each turn adds the triangle of one edge, and no part of the sum is
-- larger than the whole.
use Rattle.measures.proofs.Sums.{SummingAt}
use Rattle.measures.proofs.fan_from.Given as goal

abbrev pub invariant-loop-b : goal.invariant-loop-b
invariant-loop-b l = SummingAt l.sound.map.now l.corners l.q.point l.total l.a l.b-index
