-- `reach::write_orbit` meets its contract: the file and the dart are checked, and then its orbit is written.
use mathlib.Core.Path.{ap, ◌∙◌}
use mathlib.Core.List.{[], ◌∷◌, ◌++◌}
use Rattle.orbits.specs.declared.DartSet.{DartSet}
use Rattle.deciding.proofs.Verdicts.{passed_up}
use Rattle.replies.specs.Replies.{orbit_reply}
use Rattle.replies.proofs.Told.{set_told}
use Rattle.replies.proofs.OpenedFiles.{opened_sound, opened_present}
use Rattle.replies.proofs.OpenedFiles.{opened_refused, opened_served}
use Rattle.reach.proofs.write_orbit.Goals as goal

pub invariant_of-sound : goal.invariant_of-sound
invariant_of-sound c = record { shaped = opened_sound c.in_ok-map.ensures }

pub orbit_of-requires : goal.orbit_of-requires
orbit_of-requires c = opened_present _ c.in_ok-map.ensures

pub returns-in_err-map : goal.returns-in_err-map
returns-in_err-map c = rw (passed_up _ _ c.from_residual.ensures.1) (opened_refused c.in_err-map.ensures)

pub returns : goal.returns
returns c =
    opened_served (orbit_reply c.args.kind c.args.dart) c.in_ok-map.ensures
    (ap (λ (x : DartSet). x.words ++ x.size ∷ []) c.orbit_of.ensures ∙ set_told _)
    c.write_darts.ensures
