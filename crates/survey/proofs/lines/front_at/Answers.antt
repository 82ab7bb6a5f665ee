-- `survey::lines::front_at` meets its contract: past the end there is no number.
use Rattle.std.proofs.Common.{◌∙◌}
use Rattle.survey.proofs.Fronts.{front_past, past_end}
use Rattle.survey.proofs.lines.front_at.Goals as goal

pub returns-in_err-get : goal.returns-in_err-get
returns-in_err-get c =
    let a = c.args in
    c.from_residual.ensures
    ∙ front_past a.text.now a.at (past_end a.text.now a.at c.in_err-get.ensures.lookup.0)
