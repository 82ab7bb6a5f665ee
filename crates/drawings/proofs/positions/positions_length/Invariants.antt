-- `drawings::positions::positions_length` meets its contract. The loop's invariant: what was added
-- to the first length is that of the positions before place i.
use mathlib.Core.Path.{◌≡◌}
use Prim.Native.Nat.{◌+◌, ◌≤◌}
use lib.ListN.{length}
use Rattle.drawings.proofs.Joined.{following_to}
use Rattle.drawings.proofs.positions.positions_length.Given as goal

abbrev pub invariant-loop-a : goal.invariant-loop-a
invariant-loop-a l =
    (l.total ≡ l.initial.total + length (following_to l.points l.others l.a-index)) × (l.a-index ≤ length l.others)
