-- `orbits::visits::Queue::empty` gives a queue: it marks no dart.
use mathlib.Core.Path.{refl}
use native.Mathlib.Nat.{not-suc-le-zero}
use Rattle.orbits.proofs.Parts.{empty_placed, empty_size}
use Rattle.orbits.proofs.visits.Queue.empty.Goals as goal

pub invariant_of-result : goal.invariant_of-result
invariant_of-result c = record {
  order_whole = refl;
  seen_whole = refl;
  held = λ i l. absurd (not-suc-le-zero l);
  placed = empty_placed _;
  size = empty_size;
}
