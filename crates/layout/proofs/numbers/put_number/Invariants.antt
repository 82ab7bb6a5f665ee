-- `layout::numbers::put_number` meets its contract: the loop has written the bytes from `place` on.
use Rattle.layout.proofs.Loops.{NumberPut}
use Rattle.layout.proofs.numbers.put_number.Given as goal

abbrev pub invariant-loop-place : goal.invariant-loop-place
invariant-loop-place l = NumberPut l.initial.lent l.width l.value l.place l.rest l.lent
