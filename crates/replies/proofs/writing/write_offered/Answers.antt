-- `replies::writing::write_offered` meets its contract: the room of both lists is checked, and then
-- both are written.
use mathlib.Core.Path.{sym, ◌∙◌}
use native.Mathlib.Omega.{arith}
use Rattle.saved.proofs.Places.{length_saved}
use Rattle.deciding.proofs.Verdicts.{passed_up}
use Rattle.replies.proofs.Told.{four_values}
use Rattle.replies.proofs.Serving.{no_room, first_room, second_room, both_written, room_serves, served_as}
use Rattle.replies.proofs.writing.write_offered.Goals as goal
use Rattle.replies.proofs.writing.write_offered.Goals.{After-saved_length-length}

pub saved_length-length-requires : goal.saved_length-length-requires
saved_length-length-requires c = c.args.sound.shaped.links.fits

pub returns-in_err-check_room : goal.returns-in_err-check_room
returns-in_err-check_room c =
    let m = c.args.sound.map.now in
    let arrived = c.args.arrived in
    rw (passed_up _ _ c.from_residual.ensures.1)
    (no_room _ _ _ _ (c.saved_length-length.ensures ∙ sym (length_saved m)) (sym (four_values arrived))
    c.in_err-check_room.ensures)

pub write_map-requires : goal.write_map-requires
write_map-requires c =
    let m = c.args.sound.map.now in
    let arrived = c.args.arrived in
    let room = first_room _ _ _ _ (c.saved_length-length.ensures ∙ sym (length_saved m)) (sym (four_values arrived)) c.in_ok-check_room.ensures in
    omega (arith, room, length_saved m)

pub returns : goal.returns
returns c =
    let m = c.args.sound.map.now in
    let arrived = c.args.arrived in
    let size = c.saved_length-length.ensures ∙ sym (length_saved m) in
    let four = sym (four_values arrived) in
    let e = c.in_ok-check_room.ensures in
    let written = room_serves (second_room _ _ _ _ size four e) (served_as c.arrival_values-values.ensures c.write_values.ensures) in
    both_written _ _ _ _ size four e written.0 c.write_map.ensures written.1
