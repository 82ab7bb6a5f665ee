-- `printing::writing::put_word` meets its contract. The loop's invariant: the first i bytes of the
-- word are written, and the list is as long as it was.
use Rattle.finite.specs.Overwriting.{Copied}
use Rattle.printing.proofs.writing.put_word.Given as goal

abbrev pub invariant-loop-i : goal.invariant-loop-i
invariant-loop-i l = Copied l.initial.lent l.at l.word l.lent l.i
