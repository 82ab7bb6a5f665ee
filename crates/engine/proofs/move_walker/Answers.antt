-- `engine::move_walker` meets its contract: the map and the dart are checked, and then the walker is moved.
use mathlib.Core.Path.{refl}
use Rattle.model.specs.Answers.{moved_answer}
use Rattle.deciding.proofs.Verdicts.{passed_up}
use Rattle.engine.proofs.Entries.{checked_refused, checked_served}
use Rattle.engine.proofs.move_walker.Goals as goal

pub returns-in_err-check_dart : goal.returns-in_err-check_dart
unfolding moved_answer
returns-in_err-check_dart c =
    rw (passed_up _ _ c.from_residual.ensures.1) (checked_refused (λ r. refl) c.in_err-check_dart.ensures)

pub returns : goal.returns
unfolding moved_answer
returns c = checked_served (λ r. refl) c.in_ok-check_dart.ensures.1 c.moved.ensures
