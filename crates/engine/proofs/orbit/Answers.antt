-- `engine::orbit` meets its contract: the map and the dart are checked, and then its orbit is read.
use mathlib.Core.Path.{refl, ap, ◌∙◌}
use Rattle.model.specs.Answers.{orbit_answer}
use Rattle.model.specs.Reading.{orbit_set}
use Rattle.deciding.proofs.Verdicts.{passed_up}
use Rattle.engine.proofs.Rules.{checked_present}
use Rattle.engine.proofs.Entries.{checked_refused, checked_served}
use Rattle.engine.proofs.orbit.Goals as goal

pub returns-in_err-sound : goal.returns-in_err-sound
unfolding orbit_answer
returns-in_err-sound c =
    rw (passed_up _ _ c.from_residual.ensures.1) (checked_refused (λ r. refl) c.in_err-sound.ensures)

pub orbit_of-requires : goal.orbit_of-requires
orbit_of-requires c =
    let e = c.in_ok-sound.ensures in
    rw e.0 (checked_present _ _ e.1)

pub returns : goal.returns
unfolding orbit_answer
returns c = checked_served (λ r. refl) c.in_ok-sound.ensures.1 (c.orbit_of.ensures ∙ ap (λ m. orbit_set m c.args.kind c.args.dart) c.in_ok-sound.ensures.0)
