-- `orbits::part_count` meets its contract. The loop's invariant: the darts below `a` have been
-- passed, and the parts that they lie in counted.
use Rattle.orbits.specs.Links.{test_of}
use Rattle.orbits.proofs.Counts.{Counting}
use Rattle.orbits.proofs.part_count.Given as goal

abbrev pub invariant-loop-a : goal.invariant-loop-a
invariant-loop-a l = Counting l.f l.g l.n (test_of l.present) l.queue l.parts l.a
