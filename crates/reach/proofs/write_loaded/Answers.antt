-- `reach::write_loaded` meets its contract: the file is loaded, and then the bytes of its map are written.
use Rattle.model.specs.Answers.{written_answer}
use Rattle.model.specs.Saved.{saved}
use Rattle.deciding.proofs.Verdicts.{passed_up}
use Rattle.replies.proofs.OpenedFiles.{loads, opened_sound, not_told, told}
use Rattle.reach.proofs.write_loaded.Goals as goal

pub invariant_of-sound : goal.invariant_of-sound
invariant_of-sound c = record { shaped = opened_sound (loads c.in_ok-map.ensures) }

pub returns-in_err-map : goal.returns-in_err-map
returns-in_err-map c =
    rw (passed_up _ _ c.from_residual.ensures.1) (not_told saved (loads c.in_err-map.ensures))

pub returns : goal.returns
unfolding written_answer
returns c = told saved (loads c.in_ok-map.ensures) c.write_saved.ensures
