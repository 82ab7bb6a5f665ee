-- `orbits::visits::Queue::darts` meets its contract. The loop's invariant: the set has the darts of the
-- places passed.
use mathlib.Core.Path.{◌≡◌}
use Rattle.orbits.specs.Sets.{set_of}
use Rattle.orbits.specs.Queue.{queued}
use Rattle.orbits.proofs.visits.Queue.darts.Given as goal

abbrev pub invariant-loop-d : goal.invariant-loop-d
invariant-loop-d l = l.darts ≡ set_of (queued l.self.order l.d-index)
