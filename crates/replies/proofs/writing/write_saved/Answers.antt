-- `replies::writing::write_saved` meets its contract: the room of both lists is checked, and then both are
-- written.
use mathlib.Core.Path.{sym, ◌∙◌}
use native.Mathlib.Omega.{arith}
use Rattle.model.specs.Answers.{written_answer}
use Rattle.model.specs.Saved.{saved}
use Rattle.saved.proofs.Places.{length_saved}
use Rattle.deciding.proofs.Verdicts.{passed_up}
use Rattle.replies.proofs.Serving.{not_counted, length_place, result_room, counted}
use Rattle.replies.proofs.writing.write_saved.Goals as goal

pub saved_length-bytes-requires : goal.saved_length-bytes-requires
saved_length-bytes-requires c = c.args.sound.shaped.links.fits

pub returns-in_err-check_room : goal.returns-in_err-check_room
unfolding written_answer
returns-in_err-check_room c =
    let m = c.args.sound.map.now in
    rw (passed_up _ _ c.from_residual.ensures.1)
    (not_counted (saved m) _ _ (c.saved_length-bytes.ensures ∙ sym (length_saved m)) c.in_err-check_room.ensures)

pub write_map-requires : goal.write_map-requires
write_map-requires c =
    let m = c.args.sound.map.now in
    omega (
      arith,
      result_room (saved m) _ _ (c.saved_length-bytes.ensures ∙ sym (length_saved m)) c.in_ok-check_room.ensures,
      length_saved m,
    )

pub bounds-length-0 : goal.bounds-length-0
bounds-length-0 c =
    let m = c.args.sound.map.now in
    length_place (saved m) _ _ (c.saved_length-bytes.ensures ∙ sym (length_saved m)) c.in_ok-check_room.ensures

pub returns : goal.returns
unfolding written_answer
returns c =
    let m = c.args.sound.map.now in
    counted (saved m) _ _ (c.saved_length-bytes.ensures ∙ sym (length_saved m)) c.in_ok-check_room.ensures
    c.write_map.ensures
