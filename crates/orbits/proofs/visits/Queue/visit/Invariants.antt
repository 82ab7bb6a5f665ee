-- `orbits::visits::Queue::visit` meets its contract. The loop's invariant: from wherever the visit began,
-- it has come as far as `head`. The measure is what is left of the darts.
use Prim.Native.Nat.{◌-◌}
use Rattle.orbits.specs.Sets.{dart_limit}
use Rattle.orbits.proofs.Queue.{Visiting}
use Rattle.orbits.proofs.visits.Queue.visit.Given as goal

abbrev pub invariant-loop-head : goal.invariant-loop-head
invariant-loop-head l = Visiting l.f l.g l.d l.fn.self l.self l.head

abbrev pub decreases-loop-head : goal.decreases-loop-head
decreases-loop-head l = dart_limit - l.head
