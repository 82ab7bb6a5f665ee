-- `printing::answers::arrival_answer_length` meets its contract, arrival by arrival.
use Rattle.std.proofs.Common.{◌≡◌, sym, ap, ◌∙◌, [], ◌∷◌, ◌+◌, arith, length}
use Rattle.model.specs.Spelling.{bytes}
use Rattle.model.specs.Answers.{arrival_answer}
use Rattle.model.specs.Report.{printed, spaced}
use Rattle.printing.specs.Printing.{answer_line}
use Rattle.printing.proofs.Printed.{first_as, second_as, inside_as, outside_as, refused_answer, line_length, arrival_most}
use Rattle.printing.proofs.answers.arrival_answer_length.Goals as goal
use Rattle.printing.proofs.answers.arrival_answer_length.Goals.{After-values_length}

whole : (c : After-values_length) → 8 + c.values_length.result ≡ length (printed (arrival_answer c.args.answer))
unfolding bytes
whole c =
    let v = c.in-Ok-Outside in
    omega (
      arith,
      c.values_length.ensures,
      ap length (outside_as v.is (rw v.is at v.field-0-is)),
      line_length (bytes "outside") (v.left ∷ v.right ∷ v.visible ∷ []),
    )

pub overflow_add-result : goal.overflow_add-result
overflow_add-result c =
    omega (arith, whole (goal.at.overflow_add-result c).After-values_length, arrival_most c.args.answer)

pub returns-in-Ok-First : goal.returns-in-Ok-First
unfolding answer_line bytes spaced
returns-in-Ok-First c =
    let a = c.in-Ok-First in
    sym (ap length (first_as a.is (rw a.is at a.field-0-is)))

pub returns-in-Ok-Second : goal.returns-in-Ok-Second
unfolding answer_line bytes spaced
returns-in-Ok-Second c =
    let a = c.in-Ok-Second in
    sym (ap length (second_as a.is (rw a.is at a.field-0-is)))

pub returns-in-Ok-Inside : goal.returns-in-Ok-Inside
unfolding answer_line bytes spaced
returns-in-Ok-Inside c =
    let a = c.in-Ok-Inside in
    sym (ap length (inside_as a.is (rw a.is at a.field-0-is)))

pub returns-in-Ok-Outside : goal.returns-in-Ok-Outside
returns-in-Ok-Outside c = whole (goal.at.returns-in-Ok-Outside c).After-values_length

pub returns-in-Err : goal.returns-in-Err
returns-in-Err c = c.refused_length.ensures ∙ sym (ap length (refused_answer c.in-Err.is))
