-- `printing::answers::put_values` meets its contract. The loop's invariant: the values before this one
-- are written.
use Rattle.printing.proofs.Values.{Printed}
use Rattle.printing.proofs.answers.put_values.Given as goal

abbrev pub invariant-loop-value : goal.invariant-loop-value
invariant-loop-value l = Printed l.initial.lent l.at l.values l.lent l.end l.value-index
