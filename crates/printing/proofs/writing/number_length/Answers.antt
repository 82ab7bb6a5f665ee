-- `printing::writing::number_length` meets its contract: a negative number has a minus before its
-- digits.
use Rattle.printing.proofs.Magnitudes.{signed_spelling, plain_spelling}
use mathlib.Core.Path.{sym, ap, ◌∙◌}
use native.Mathlib.Omega.{arith}
use lib.ListN.{length}
use Rattle.printing.proofs.Decimals.{spelt_length}
use Rattle.printing.proofs.writing.number_length.Goals as goal

pub overflow_add-result : goal.overflow_add-result
overflow_add-result c = omega (
  arith,
  c.natural_length.ensures,
  spelt_length c.unsigned_abs.result,
)

pub returns-then-z-lt0 : goal.returns-then-z-lt0
returns-then-z-lt0 c = omega (
  arith,
  c.natural_length.ensures,
  ap length (signed_spelling c.ranges.z c.unsigned_abs.ensures.value c.if-z-lt0.true),
)

pub returns-else-z-lt0 : goal.returns-else-z-lt0
returns-else-z-lt0 c = c.natural_length-else-z-lt0.ensures
    ∙ sym (ap length (plain_spelling c.ranges.z c.unsigned_abs-else-z-lt0.ensures.value
    c.if-z-lt0.false))
