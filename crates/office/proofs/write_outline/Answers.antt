-- `office::write_outline` meets its contract: the map is checked, then the room, and then its outline is
-- written.
use mathlib.Core.Path.{◌≡◌, ap, subst, ◌∙◌}
use mathlib.Core.List.{List}
use Prim.Native.Nat.{ℕ}
use native.Mathlib.Omega.{arith}
use lib.ListN.{length}
use Rattle.finite.specs.Overwriting.{over}
use Rattle.model.specs.declared.Map.{Map}
use Rattle.corners.specs.Listing.{ListsCorners}
use Rattle.model.specs.Outlines.{corner_points, outline_text}
use Rattle.drawings.specs.Positions.{points_at}
use Rattle.drawings.proofs.Outlines.{listed_text}
use Rattle.deciding.proofs.Verdicts.{passed_up}
use Rattle.engine.proofs.Entries.{rule_refused, short_refused, result_written}
use Rattle.office.proofs.write_outline.Goals as goal
use Rattle.office.proofs.write_outline.Goals.{After-text_length-length}

-- the length was asked for
module _ (c : After-text_length-length) where
  text_is : outline_text (points_at c.args.map.now.points c.as_slice-corners.result.now)
      ≡ outline_text (corner_points c.args.map.now)
  text_is =
      ap (λ (s : List ℕ). outline_text (points_at c.args.map.now.points s)) c.as_slice-corners.ensures
      ∙ listed_text
      (subst (λ (m : Map). ListsCorners m c.corners_of-list.result) c.in_ok-sound.ensures.0 c.corners_of-list.ensures)

  size : c.text_length-length.result ≡ length (outline_text (corner_points c.args.map.now))
  size = c.text_length-length.ensures ∙ ap length text_is

pub returns-in_err-sound : goal.returns-in_err-sound
returns-in_err-sound c =
    rw (passed_up _ _ c.from_residual.ensures.1) (rule_refused c.in_err-sound.ensures)

pub returns-then-lent-length : goal.returns-then-lent-length
returns-then-lent-length c =
    let d = (goal.at.returns-then-lent-length c).After-text_length-length in
    short_refused c.in_ok-sound.ensures.1 (omega (arith, size d, c.if-lent-length.true))

pub returns : goal.returns
returns c =
    let d = (goal.at.returns c).After-text_length-length in
    result_written c.in_ok-sound.ensures.1 (size d) (omega (arith, size d, c.if-lent-length.false))
    (c.write_text.ensures ∙ ap (λ (t : List ℕ). over t c.args.lent.now) (text_is d))
