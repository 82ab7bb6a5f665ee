-- `drawings::text_length` meets its contract, by the number of corners.
use mathlib.Core.Path.{◌≡◌, ap}
use mathlib.Core.List.{List, ◌++◌}
use Prim.Native.Nat.{ℕ, ◌+◌, ◌*◌, ◌≤◌}
use native.Mathlib.Omega.{arith}
use lib.ListN.{length, length-append}
use Rattle.model.specs.declared.Point.{Point}
use Rattle.model.specs.Spelling.{bytes}
use Rattle.model.specs.Maps.{point_limit}
use Rattle.model.specs.Outlines.{joined, point_text}
use Rattle.drawings.specs.Positions.{points_at, next_text}
use Rattle.drawings.proofs.Joined.{position_most, next_length}
use Rattle.drawings.proofs.Outlines.{text_none, text_one, text_two, text_more}
use Rattle.drawings.proofs.Outlines.{others, length_three, positions_most}
use Rattle.drawings.proofs.text_length.Goals as goal

pub returns-then-count-eq0 : goal.returns-then-count-eq0
unfolding bytes
returns-then-count-eq0 c =
    omega (arith, ap length (text_none c.args.points.now c.args.corners.now c.if-count-eq0.true))

-- where the positions' length is known
module _ (ps : List Point) (corners : List ℕ) (first : Point) (limited : length corners ≤ point_limit)
    {length_of : ℕ} (known : length_of ≡ length (joined first (points_at ps (others corners)))) where
  few : length_of ≤ 43 + 45 * point_limit
  few = omega (arith, positions_most ps first corners limited)

  -- how large the sum of the last line is
  last_few : {closing : ℕ} → closing ≡ length (point_text first) →
      10 + length_of + (2 + closing) + 2 ≤ 100 + 45 * point_limit
  last_few e = omega (arith, few, position_most first)

pub overflow_add-result : goal.overflow_add-result
overflow_add-result c =
    omega (
      arith,
      few c.args.points.now c.args.corners.now _ c.requires
          c.positions_length-positions.ensures,
    )

pub overflow_add-result-then-count-eq1 : goal.overflow_add-result-then-count-eq1
overflow_add-result-then-count-eq1 c =
    omega (
      arith,
      few c.args.points.now c.args.corners.now _ c.requires
          c.positions_length-positions.ensures,
    )

pub returns-then-count-eq1 : goal.returns-then-count-eq1
unfolding bytes
returns-then-count-eq1 c =
    let ps = c.args.points.now in
    let corners = c.args.corners.now in
    let positions = joined c.point_in-first.result (points_at ps (others corners)) in
    let text = text_one ps corners c.point_in-first.ensures c.if-count-eq1.true in
    omega (
      arith,
      c.positions_length-positions.ensures,
      ap length text,
      length_three (bytes "POINT (") positions (bytes ")"),
    )

pub overflow_add-result-then-count-eq2 : goal.overflow_add-result-then-count-eq2
overflow_add-result-then-count-eq2 c =
    omega (
      arith,
      few c.args.points.now c.args.corners.now _ c.requires
          c.positions_length-positions.ensures,
    )

pub overflow_add-result-then-count-eq2-2 : goal.overflow_add-result-then-count-eq2-2
overflow_add-result-then-count-eq2-2 c =
    omega (
      arith,
      few c.args.points.now c.args.corners.now _ c.requires
          c.positions_length-positions.ensures,
    )

pub returns-then-count-eq2 : goal.returns-then-count-eq2
unfolding bytes
returns-then-count-eq2 c =
    let ps = c.args.points.now in
    let corners = c.args.corners.now in
    let positions = joined c.point_in-first.result (points_at ps (others corners)) in
    let text = text_two ps corners c.point_in-first.ensures c.if-count-eq2.true in
    omega (
      arith,
      c.positions_length-positions.ensures,
      ap length text,
      length_three (bytes "LINESTRING (") positions (bytes ")"),
    )

pub overflow_add-closing : goal.overflow_add-closing
overflow_add-closing c =
    omega (
      arith,
      last_few c.args.points.now c.args.corners.now _ c.requires
          c.positions_length-positions.ensures c.position_length-closing.ensures,
    )

pub overflow_add-result-2 : goal.overflow_add-result-2
overflow_add-result-2 c =
    omega (
      arith,
      last_few c.args.points.now c.args.corners.now _ c.requires
          c.positions_length-positions.ensures c.position_length-closing.ensures,
    )

pub overflow_add-result-3 : goal.overflow_add-result-3
overflow_add-result-3 c =
    omega (
      arith,
      last_few c.args.points.now c.args.corners.now _ c.requires
          c.positions_length-positions.ensures c.position_length-closing.ensures,
    )

pub overflow_add-result-4 : goal.overflow_add-result-4
overflow_add-result-4 c =
    omega (
      arith,
      last_few c.args.points.now c.args.corners.now _ c.requires
          c.positions_length-positions.ensures c.position_length-closing.ensures,
    )

pub returns : goal.returns
unfolding bytes
returns c =
    let ps = c.args.points.now in
    let corners = c.args.corners.now in
    let first = c.point_in-first.result in
    let positions = joined first (points_at ps (others corners)) in
    let text = text_more ps corners c.point_in-first.ensures (omega arith) in
    omega (
      arith,
      c.positions_length-positions.ensures,
      c.position_length-closing.ensures,
      next_length first,
      ap length text,
      length_three (bytes "POLYGON ((" ++ positions) (next_text first) (bytes "))"),
      length-append (bytes "POLYGON ((") positions,
    )
