-- `engine::walk` meets its contract: the map and the dart are checked, and then walked from.
use mathlib.Core.Path.{refl}
use Rattle.model.specs.Answers.{walked_answer}
use Rattle.deciding.proofs.Verdicts.{passed_up}
use Rattle.engine.proofs.Rules.{checked_sound}
use Rattle.engine.proofs.Entries.{checked_refused, checked_served}
use Rattle.engine.proofs.walk.Goals as goal

pub returns-in_err-check_dart : goal.returns-in_err-check_dart
unfolding walked_answer
returns-in_err-check_dart c =
    rw (passed_up _ _ c.from_residual.ensures.1) (checked_refused (λ r. refl) c.in_err-check_dart.ensures)

pub walk_of-requires : goal.walk_of-requires
walk_of-requires c = (checked_sound _ _ c.in_ok-check_dart.ensures.1).links.fits

pub returns : goal.returns
unfolding walked_answer
returns c = checked_served (λ r. refl) c.in_ok-check_dart.ensures.1 c.walk_of.ensures
