-- `reach::write_corners` meets its contract: the file is loaded, and then its corners are listed.
use Rattle.model.specs.Answers.{written_answer}
use Rattle.model.specs.Outline.{corners}
use Rattle.deciding.proofs.Verdicts.{passed_up}
use Rattle.replies.proofs.OpenedFiles.{loads, opened_sound, not_told, told}
use Rattle.reach.proofs.write_corners.Goals as goal

pub invariant_of-sound : goal.invariant_of-sound
invariant_of-sound c = record { shaped = opened_sound (loads c.in_ok-map.ensures) }

pub returns-in_err-map : goal.returns-in_err-map
returns-in_err-map c =
    rw (passed_up _ _ c.from_residual.ensures.1) (not_told corners (loads c.in_err-map.ensures))

pub returns : goal.returns
unfolding written_answer
returns c = told corners (loads c.in_ok-map.ensures) c.write_corner_list.ensures
