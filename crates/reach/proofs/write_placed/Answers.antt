-- `reach::write_placed` meets its contract: the file and the point are checked, and then the point is placed.
use mathlib.Core.Path.{ap, ◌∙◌}
use Rattle.std.specs.declared.result.Result.TheVariants.{Ok}
use Rattle.model.specs.declared.Placed.{Placed}
use Rattle.model.specs.Answers.{placed_answer}
use Rattle.deciding.proofs.Verdicts.{passed_up}
use Rattle.replies.specs.Replies.{place_told, place_reply}
use Rattle.replies.proofs.OpenedFiles.{opened_sound, opened_near}
use Rattle.replies.proofs.OpenedFiles.{opened_refused, opened_served}
use Rattle.reach.proofs.write_placed.Goals as goal

pub invariant_of-sound : goal.invariant_of-sound
invariant_of-sound c = record { shaped = opened_sound c.in_ok-map.ensures }

pub invariant_of-p : goal.invariant_of-p
invariant_of-p c = record { ranged = opened_near _ c.in_ok-map.ensures }

pub returns-in_err-map : goal.returns-in_err-map
returns-in_err-map c = rw (passed_up _ _ c.from_residual.ensures.1) (opened_refused c.in_err-map.ensures)

pub returns : goal.returns
returns c =
    opened_served (place_reply c.args.p) c.in_ok-map.ensures
    (c.placed_values.ensures ∙ ap (λ (a : Placed). place_told (placed_answer (Ok a))) c.placed.ensures)
    c.write_values.ensures
