-- `engine::list_corners` meets its contract: the map is checked, then the room, and then the corners are
-- written.
use mathlib.Core.Path.{ap, subst, ◌∙◌}
use mathlib.Core.List.{List}
use Prim.Native.Nat.{ℕ}
use native.Mathlib.Omega.{arith}
use Rattle.finite.specs.Overwriting.{over}
use Rattle.model.specs.declared.Map.{Map}
use Rattle.corners.specs.Listing.{ListsCorners}
use Rattle.deciding.proofs.Verdicts.{passed_up}
use Rattle.engine.proofs.Entries.{rule_refused, short_refused, result_written}
use Rattle.engine.proofs.list_corners.Goals as goal
use Rattle.engine.proofs.list_corners.Goals.{After-corners_of-list}

pub returns-in_err-sound : goal.returns-in_err-sound
returns-in_err-sound c =
    rw (passed_up _ _ c.from_residual.ensures.1) (rule_refused c.in_err-sound.ensures)

-- the corners are those of the map that was checked
lists : (c : After-corners_of-list) → ListsCorners c.args.map.now c.corners_of-list.result
lists c = subst (λ (m : Map). ListsCorners m c.corners_of-list.result) c.in_ok-sound.ensures.0 c.corners_of-list.ensures

pub returns-then-lent-count : goal.returns-then-lent-count
returns-then-lent-count c =
    let l = lists (goal.at.returns-then-lent-count c).After-corners_of-list in
    short_refused c.in_ok-sound.ensures.1 (omega (arith, l.number, c.if-lent-count.true))

pub returns : goal.returns
returns c = let l = lists (goal.at.returns c).After-corners_of-list in
    result_written c.in_ok-sound.ensures.1 l.number
    (omega (arith, l.number, c.if-lent-count.false))
    (c.write_corners.ensures ∙ ap (λ (s : List ℕ). over s c.args.lent.now) l.members)
