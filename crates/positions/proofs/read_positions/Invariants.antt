-- `positions::read_positions` meets its contract. The loop's invariant: what is read and
-- what is ahead make up the answer.
use Rattle.std.proofs.Common.{◌-◌, length}
use Rattle.positions.proofs.Loop.{Reading}
use Rattle.positions.proofs.read_positions.Given as goal

abbrev pub invariant-loop-step : goal.invariant-loop-step
invariant-loop-step l = Reading l.closing l.s l.initial.points l.place l.count l.ranged l.points

abbrev pub decreases-loop-step : goal.decreases-loop-step
decreases-loop-step l = length l.s - l.place
