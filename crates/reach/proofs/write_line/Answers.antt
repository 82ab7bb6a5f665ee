-- `reach::write_line` meets its contract: the answer of the call, as a number and two values.
use borrow.Author.Rules.{rules}
use mathlib.Core.Path.{◌≡◌}
use mathlib.Core.List.{[], ◌∷◌}
use mir.Syntax.{w64}
use mir.Val.{to_z, of_z}
use Rattle.model.specs.Answers.{line_answer}
use Rattle.model.specs.Text.{line_call, line_read}
use Rattle.deciding.proofs.Verdicts.{passed_up}
use Rattle.replies.specs.Replies.{values_of}
use Rattle.replies.proofs.Serving.{served_as, answer_refused, answer_written}
use Rattle.reach.proofs.write_line.Goals as goal

pub returns-in_err-p : goal.returns-in_err-p
unfolding line_read
returns-in_err-p c =
    rw (passed_up _ _ c.from_residual.ensures.1)
    (answer_refused values_of (line_call c.args.line.now) _ c.in_err-p.ensures)

pub returns : goal.returns
unfolding line_answer line_read
returns c =
    let p = c.in_ok-p.p in
    let x : to_z w64 (of_z w64 p.x) ≡ p.x = search rules in
    let y : to_z w64 (of_z w64 p.y) ≡ p.y = search rules in
    answer_written values_of (line_call c.args.line.now) _ c.in_ok-p.ensures
    (served_as (λ i. x i ∷ y i ∷ []) c.write_values.ensures)
