use mathlib.Core.Path.{◌≡◌, ap}
use mathlib.Core.List.{List}
use Prim.Native.Nat.{ℕ, ◌+◌, ◌*◌, ◌≤◌, ◌<◌}
use native.Mathlib.Omega.{arith}
use lib.ListN.{length, get_or}
use Rattle.model.specs.declared.Point.{Point}
use Rattle.model.specs.Maps.{point_in, point_limit}
use Rattle.model.specs.Outlines.{point_text}
use Rattle.drawings.specs.Positions.{points_at}
use Rattle.drawings.proofs.Joined.{following_to, position_most, joined_length}
use Rattle.drawings.proofs.Joined.{length_next, to_all, to_most}
use Rattle.drawings.proofs.positions.positions_length.Goals as goal

-- the length with one position more, and how large it is
module _ (ps : List Point) (others : List ℕ) (begun i : ℕ) {p : Point} {total more : ℕ}
    (known : total ≡ begun + length (following_to ps others i)) (h : i < length others)
    (read : p ≡ point_in ps (get_or others i 0)) (added : more ≡ length (point_text p)) where
  next : total + (2 + more) ≡ begun + length (following_to ps others (i + 1))
  next = omega (arith, length_next ps others h read)

  few : (first : Point) → begun ≡ length (point_text first) → length others ≤ point_limit →
      total + (2 + more) ≤ 43 + 45 * point_limit
  few first e limited = omega (arith, next, position_most first, to_most ps others (i + 1))

pub overflow_add-total : goal.overflow_add-total
overflow_add-total c =
    omega (
      arith,
      few c.args.points.now c.args.others.now _ _ c.loop-a.invariant.0 c.loop-a-test.true
          c.point_in.ensures c.position_length.ensures c.args.first c.position_length-total.ensures
          c.requires,
    )

pub overflow_add-total-in-loop-a : goal.overflow_add-total-in-loop-a
overflow_add-total-in-loop-a c =
    omega (
      arith,
      few c.args.points.now c.args.others.now _ _ c.loop-a.invariant.0 c.loop-a-test.true
          c.point_in.ensures c.position_length.ensures c.args.first c.position_length-total.ensures
          c.requires,
    )

pub loop-a-preserved : goal.loop-a-preserved
loop-a-preserved c = (
  next c.args.points.now c.args.others.now _ _ c.loop-a.invariant.0 c.loop-a-test.true
      c.point_in.ensures c.position_length.ensures,
  omega arith,
)

pub returns : goal.returns
returns c =
    let s = c.args in
    omega (
      arith,
      c.loop-a.invariant.0,
      c.position_length-total.ensures,
      ap length (to_all s.points.now s.others.now c.loop-a-test.false),
      joined_length s.first (points_at s.points.now s.others.now),
    )
