-- `reach::write_walker` meets its contract: the file and the dart are checked, and then the walker is moved.
use mathlib.Core.Path.{ap}
use mathlib.Core.List.{[], ◌∷◌}
use Rattle.orbits.specs.declared.Walker.{Walker}
use Rattle.model.specs.Answers.{moved_answer}
use Rattle.deciding.proofs.Verdicts.{passed_up}
use Rattle.replies.specs.Replies.{walker_reply}
use Rattle.replies.proofs.OpenedFiles.{opened_refused, opened_served}
use Rattle.reach.proofs.write_walker.Goals as goal

pub returns-in_err-map : goal.returns-in_err-map
unfolding moved_answer
returns-in_err-map c = rw (passed_up _ _ c.from_residual.ensures.1) (opened_refused c.in_err-map.ensures)

pub returns : goal.returns
unfolding moved_answer
returns c =
    opened_served (walker_reply c.args.link c.args.dart) c.in_ok-map.ensures
    (ap (λ (v : Walker). v.dart ∷ []) c.moved-walker.ensures)
    c.write_values.ensures
