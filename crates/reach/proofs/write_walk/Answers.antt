-- `reach::write_walk` meets its contract: the file and the dart are checked, and then walked from.
use mathlib.Core.Path.{ap, ◌∙◌}
use Rattle.std.specs.declared.result.Result.TheVariants.{Ok}
use Rattle.orbits.specs.declared.Walk.{Walk}
use Rattle.model.specs.Answers.{walked_answer}
use Rattle.deciding.proofs.Verdicts.{passed_up}
use Rattle.replies.specs.Replies.{walk_told, walk_reply}
use Rattle.replies.proofs.OpenedFiles.{opened_sound, opened_refused, opened_served}
use Rattle.reach.proofs.write_walk.Goals as goal

pub walk_of-requires : goal.walk_of-requires
walk_of-requires c = (opened_sound c.in_ok-map.ensures).links.fits

pub returns-in_err-map : goal.returns-in_err-map
returns-in_err-map c = rw (passed_up _ _ c.from_residual.ensures.1) (opened_refused c.in_err-map.ensures)

pub returns : goal.returns
returns c =
    opened_served (walk_reply c.args.dart) c.in_ok-map.ensures
    (c.walk_values.ensures ∙ ap (λ (w : Walk). walk_told (walked_answer (Ok w))) c.walk_of.ensures)
    c.write_values.ensures
