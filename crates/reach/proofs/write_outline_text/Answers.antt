-- `reach::write_outline_text` meets its contract: the room of both lists is checked, and then both are
-- written.
use mathlib.Core.Path.{◌≡◌, ap, ◌∙◌}
use mathlib.Core.List.{List}
use Prim.Native.Nat.{ℕ}
use native.Mathlib.Omega.{arith}
use lib.ListN.{length}
use Rattle.finite.specs.Overwriting.{over}
use Rattle.model.specs.Outlines.{corner_points, outline_text}
use Rattle.drawings.specs.Positions.{points_at}
use Rattle.drawings.proofs.Outlines.{listed_text}
use Rattle.deciding.proofs.Verdicts.{passed_up}
use Rattle.replies.proofs.Serving.{not_counted, length_place, result_room, counted}
use Rattle.reach.proofs.write_outline_text.Goals as goal
use Rattle.reach.proofs.write_outline_text.Goals.{After-text_length-written}

-- the length was asked for
module _ (c : After-text_length-written) where
  abbrev text : List ℕ
  text = outline_text (corner_points c.args.sound.map.now)

  text_is : outline_text (points_at c.args.sound.map.now.points c.as_slice-corners.result.now) ≡ text
  text_is =
      ap (λ (s : List ℕ). outline_text (points_at c.args.sound.map.now.points s)) c.as_slice-corners.ensures
      ∙ listed_text c.corners_of-list.ensures

  size : c.text_length-written.result ≡ length text
  size = c.text_length-written.ensures ∙ ap length text_is

pub returns-in_err-check_room : goal.returns-in_err-check_room
returns-in_err-check_room c =
    let d = (goal.at.returns-in_err-check_room c).After-text_length-written in
    rw (passed_up _ _ c.from_residual.ensures.1)
    (not_counted (text d) _ _ (size d) c.in_err-check_room.ensures)

pub write_text-requires : goal.write_text-requires
write_text-requires c =
    let d = (goal.at.write_text-requires c).After-text_length-written in
    omega (arith, ap length (text_is d), result_room (text d) _ _ (size d) c.in_ok-check_room.ensures)

pub bounds-count-0 : goal.bounds-count-0
bounds-count-0 c =
    let d = (goal.at.bounds-count-0 c).After-text_length-written in
    length_place (text d) _ _ (size d) c.in_ok-check_room.ensures

pub returns : goal.returns
returns c =
    let d = (goal.at.returns c).After-text_length-written in
    counted (text d) _ _ (size d) c.in_ok-check_room.ensures
    (c.write_text.ensures ∙ ap (λ (t : List ℕ). over t c.args.out.now) (text_is d))
