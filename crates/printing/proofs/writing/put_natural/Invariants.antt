-- `printing::writing::put_natural` meets its contract. The loop's invariant: the digits after those
-- of the rest are written, from `place` on.
use Rattle.printing.proofs.Decimals.{Backwards}
use Rattle.printing.proofs.writing.put_natural.Given as goal

abbrev pub invariant-loop-place : goal.invariant-loop-place
invariant-loop-place l = Backwards l.initial.lent l.at l.n l.end l.lent l.rest l.place
