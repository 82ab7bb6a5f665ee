-- `reach::write_counts` meets its contract: the file is loaded, and then its counts are written.
use mathlib.Core.Path.{ap}
use mathlib.Core.List.{[], ◌∷◌}
use Rattle.model.specs.declared.Counts.{Counts}
use Rattle.model.specs.Answers.{counted_answer}
use Rattle.deciding.proofs.Verdicts.{passed_up}
use Rattle.replies.specs.Replies.{counts_reply}
use Rattle.replies.proofs.OpenedFiles.{loads, opened_sound, opened_refused, opened_served}
use Rattle.reach.proofs.write_counts.Goals as goal

pub invariant_of-sound : goal.invariant_of-sound
invariant_of-sound c = record { shaped = opened_sound (loads c.in_ok-map.ensures) }

pub returns-in_err-map : goal.returns-in_err-map
unfolding counted_answer
returns-in_err-map c =
    rw (passed_up _ _ c.from_residual.ensures.1) (opened_refused (loads c.in_err-map.ensures))

pub returns : goal.returns
unfolding counted_answer
returns c =
    opened_served counts_reply (loads c.in_ok-map.ensures)
    (ap (λ (n : Counts). n.darts ∷ n.vertices ∷ n.edges ∷ n.faces ∷ n.parts ∷ [])
    c.counts_of-n.ensures)
    c.write_values.ensures
