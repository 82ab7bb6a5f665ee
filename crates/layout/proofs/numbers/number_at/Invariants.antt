-- `layout::numbers::number_at` meets its contract: the loop has read the number in the bytes so far.
use Rattle.layout.proofs.Loops.{NumberRead}
use Rattle.layout.proofs.numbers.number_at.Given as goal

abbrev pub invariant-loop-byte : goal.invariant-loop-byte
invariant-loop-byte l = NumberRead l.file l.at l.byte-index l.number
