-- `drawings::positions::put_positions` meets its contract: the word and the first position, then
-- the others. The loop's invariant: those before place i are written.
use Rattle.drawings.proofs.Joined.{Drawn}
use Rattle.drawings.proofs.positions.put_positions.Given as goal

abbrev pub invariant-loop-a : goal.invariant-loop-a
invariant-loop-a l = Drawn l.initial.lent l.initial.end l.points l.others l.lent l.end l.a-index
