-- `printing::answers::values_length` meets its contract. The loop's invariant: the total is the
-- length of what stands before the value.
use Rattle.std.proofs.Common.{◌≡◌, length}
use Rattle.printing.proofs.Values.{printed_to}
use Rattle.printing.proofs.answers.values_length.Given as goal

abbrev pub invariant-loop-value : goal.invariant-loop-value
invariant-loop-value l = l.total ≡ length (printed_to l.values l.value-index)
