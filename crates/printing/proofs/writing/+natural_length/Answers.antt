-- `printing::writing::natural_length` meets its contract, by the powers of ten between which the number lies.
use Rattle.std.proofs.Common.{arith, ◌/◌}
use Rattle.printing.proofs.Decimals.{spelt_length, length_one, length_between, length_four_less}
use Rattle.printing.proofs.writing.+natural_length.Goals as goal

pub overflow_add-result : goal.overflow_add-result
overflow_add-result t c = omega (arith, c.natural_length.ensures, spelt_length (c.args.n / 10000))

pub returns-in-0-to-9 : goal.returns-in-0-to-9
returns-in-0-to-9 t c = omega (arith, length_one c.args.n (omega arith))

pub returns-in-10-to-99 : goal.returns-in-10-to-99
returns-in-10-to-99 t c = omega (arith, length_between 1 c.args.n (omega arith) (omega arith) (omega arith))

pub returns-in-100-to-999 : goal.returns-in-100-to-999
returns-in-100-to-999 t c = omega (arith, length_between 2 c.args.n (omega arith) (omega arith) (omega arith))

pub returns-in-1000-to-9999 : goal.returns-in-1000-to-9999
returns-in-1000-to-9999 t c = omega (arith, length_between 3 c.args.n (omega arith) (omega arith) (omega arith))

pub returns-in-10000-to-99999 : goal.returns-in-10000-to-99999
returns-in-10000-to-99999 t c =
    omega (arith, length_between 4 c.args.n (omega arith) (omega arith) (omega arith))

pub returns-in_default : goal.returns-in_default
returns-in_default t c =
    omega (arith, c.natural_length.ensures, length_four_less c.args.n (omega arith) (omega arith))
