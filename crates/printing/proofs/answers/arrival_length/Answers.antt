-- `printing::answers::arrival_length` meets its contract: the number, a space and the answer's
-- line.
use mathlib.Core.Path.{◌≡◌}
use Prim.Native.Nat.{◌+◌}
use native.Mathlib.Omega.{arith}
use lib.ListN.{length}
use Rattle.printing.specs.Printing.{arrival_line}
use Rattle.printing.proofs.Decimals.{spelt_length}
use Rattle.printing.proofs.Printed.{arrival_line_length, arrival_line_most}
use Rattle.printing.proofs.answers.arrival_length.Goals as goal
use Rattle.printing.proofs.answers.arrival_length.Goals.{After-arrival_answer_length}

pub overflow_add-result : goal.overflow_add-result
overflow_add-result c = omega (arith, c.natural_length.ensures, spelt_length c.args.line)

whole : (c : After-arrival_answer_length) →
    let a = c.args in
    c.natural_length.result + 1 + c.arrival_answer_length.result ≡ length
    (arrival_line a.line a.answer)
whole c =
    let a = c.args in
    omega (
      arith,
      c.natural_length.ensures,
      c.arrival_answer_length.ensures,
      arrival_line_length a.line a.answer,
    )

pub overflow_add-result-2 : goal.overflow_add-result-2
overflow_add-result-2 c = let a = c.args in omega (
  arith,
  whole (goal.at.overflow_add-result-2 c).After-arrival_answer_length,
  arrival_line_most a.line a.answer,
)

pub returns : goal.returns
returns c = whole (goal.at.returns c).After-arrival_answer_length
