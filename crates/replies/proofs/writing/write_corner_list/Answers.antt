-- `replies::writing::write_corner_list` meets its contract: the room of both lists is checked, and
-- then both are written.
use mathlib.Core.Path.{ap, ◌∙◌}
use mathlib.Core.List.{List}
use Prim.Native.Nat.{ℕ}
use native.Mathlib.Omega.{arith}
use Rattle.finite.specs.Overwriting.{over}
use Rattle.model.specs.Outline.{corners}
use Rattle.deciding.proofs.Verdicts.{passed_up}
use Rattle.replies.proofs.Serving.{not_counted, length_place, result_room, counted}
use Rattle.replies.proofs.writing.write_corner_list.Goals as goal

pub returns-in_err-check_room : goal.returns-in_err-check_room
returns-in_err-check_room c =
    rw (passed_up _ _ c.from_residual.ensures.1)
    (not_counted (corners c.args.sound.map.now) _ _ c.corners_of-list.ensures.number c.in_err-check_room.ensures)

pub write_corners-requires : goal.write_corners-requires
write_corners-requires c =
    let lists = c.corners_of-list.ensures in
    let room = result_room (corners c.args.sound.map.now) _ _ lists.number c.in_ok-check_room.ensures in
    omega (arith, room, lists.number)

pub bounds-count-0 : goal.bounds-count-0
bounds-count-0 c =
    length_place (corners c.args.sound.map.now) _ _ c.corners_of-list.ensures.number c.in_ok-check_room.ensures

pub returns : goal.returns
returns c =
    let lists = c.corners_of-list.ensures in
    counted (corners c.args.sound.map.now) _ _ lists.number c.in_ok-check_room.ensures
    (c.write_corners.ensures ∙ ap (λ (l : List ℕ). over l c.args.out.now) lists.members)
