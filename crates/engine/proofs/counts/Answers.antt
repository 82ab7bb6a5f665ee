-- `engine::counts` meets its contract: the soundness check, and then the counts.
use mathlib.Core.Path.{refl, ap, ◌∙◌}
use Rattle.model.specs.Answers.{counted_answer}
use Rattle.model.specs.Reading.{counts}
use Rattle.deciding.proofs.Verdicts.{passed_up}
use Rattle.engine.proofs.Entries.{checked_refused, checked_served}
use Rattle.engine.proofs.counts.Goals as goal

pub returns-in_err-sound : goal.returns-in_err-sound
unfolding counted_answer
returns-in_err-sound c =
    rw (passed_up _ _ c.from_residual.ensures.1) (checked_refused (λ r. refl) c.in_err-sound.ensures)

pub returns : goal.returns
unfolding counted_answer
returns c = checked_served (λ r. refl) c.in_ok-sound.ensures.1 (c.counts_of.ensures ∙ ap counts c.in_ok-sound.ensures.0)
