-- `sight::turning_from` meets its contract: an iteration passes one corner of the outline.
use mathlib.Core.Path.{◌≡◌, refl, ap, ◌∙◌}
use native.Mathlib.Nat.{sub-zero}
use native.Mathlib.Omega.{arith}
use lib.ListN.{get_or}
use Rattle.orbits.proofs.Counts.{one_if_byte}
use Rattle.model.specs.declared.Point.{Point}
use Rattle.model.specs.Plane.{sees_edge}
use Rattle.model.specs.Maps.{own, owner, point}
use Rattle.model.specs.Outline.{next_corner}
use Rattle.model.proofs.Shape.{place_ranged}
use Rattle.sight.specs.Sight.{sought_at}
use Rattle.sight.proofs.Indices.{corner_below, next_read, next_on}
use Rattle.sight.proofs.Seeing.{unsought, unsought_back, at_first, passed_last, passed_one, at_end}
use Rattle.sight.proofs.turning_from.Goals as goal
use Rattle.sight.proofs.turning_from.Goals.{Joined-entering-leaving, then-entering-leaving, else-entering-leaving, else-loop-test, then-loop-test+then-b-start}

pub loop-init : goal.loop-init
loop-init c = (
  at_first c.args.outlook.map.now c.args.outlook.point c.args.outlook.outline (sub-zero _) c.previous_corner-last.ensures
      (c.sees_edge-entering.ensures ∙ (λ i. sees_edge (c.point.ensures i) (c.point-2.ensures i) c.args.outlook.point)),
  c.point-from.ensures,
)

pub overflow_mul-b : goal.overflow_mul-b
overflow_mul-b c = omega (arith, corner_below c.args.outlook.outline c.loop.a c.loop.invariant.0.on)

pub offset_bounds-map-a : goal.offset_bounds-map-a
offset_bounds-map-a c = omega (arith, corner_below c.args.outlook.outline c.loop.a c.loop.invariant.0.on)

pub bounds-map-a : goal.bounds-map-a
bounds-map-a c = omega (arith, corner_below c.args.outlook.outline c.loop.a c.loop.invariant.0.on)

pub offset_bounds-map-b : goal.offset_bounds-map-b
offset_bounds-map-b c =
    let on = c.loop.invariant.0.on in
    omega (
      arith,
      next_read c.args.outlook.outline c.loop.a on,
      corner_below c.args.outlook.outline (next_corner c.args.outlook.map.now c.loop.a) (next_on c.args.outlook.outline c.loop.a on),
    )

pub bounds-map-b : goal.bounds-map-b
bounds-map-b c =
    let on = c.loop.invariant.0.on in
    omega (
      arith,
      next_read c.args.outlook.outline c.loop.a on,
      corner_below c.args.outlook.outline (next_corner c.args.outlook.map.now c.loop.a) (next_on c.args.outlook.outline c.loop.a on),
    )

pub invariant_of-to : goal.invariant_of-to
unfolding point
invariant_of-to c = record { ranged = place_ranged c.args.outlook.outline.accepted.is_sound _ }

module _ (c : Joined-entering-leaving) where
  left_sought : c.if-entering-leaving.left
      ≡ sought_at c.loop.left c.loop.entering c.sees_edge-leaving.result c.loop.a
  left_sought =
      elim c.if-entering-leaving.branch [
        | then-entering-leaving w ↦ w.left-is ∙ w.sought_at-left.ensures
        | else-entering-leaving w ↦ w.left-is ∙ unsought c.loop.a _ _ _ w.if-entering-leaving.false
      ]

  right_sought : c.if-entering-leaving.right
      ≡ sought_at c.loop.right c.sees_edge-leaving.result c.loop.entering c.loop.a
  right_sought =
      elim c.if-entering-leaving.branch [
        | then-entering-leaving w ↦ w.right-is ∙ w.sought_at-right.ensures
        | else-entering-leaving w ↦ w.right-is ∙ unsought_back c.loop.a _ _ _ w.if-entering-leaving.false
      ]

-- a corner was passed: the next one is not the first ..
pub loop-preserved : goal.loop-preserved
unfolding point
loop-preserved c =
    let inv = c.loop.invariant in
    let m = c.args.outlook.map.now in
    let j = (goal.at.loop-preserved c).Joined-entering-leaving in (
      passed_one m c.args.outlook.point c.args.outlook.outline inv.0 (omega (arith, c.loop-test.true))
          (next_read c.args.outlook.outline c.loop.a inv.0.on)
          (c.sees_edge-leaving.ensures
          ∙ ap (λ (q : Point). sees_edge q (point m (owner (get_or m.edge (own c.loop.a) 0))) c.args.outlook.point) inv.1)
          (left_sought j) (right_sought j) (omega (arith, one_if_byte c.sees_edge-leaving.result)) (omega arith)
          (λ e. c.if-b-start.false e),
      refl,
    )

-- .. or it is, and all is found
pub returns : goal.returns
unfolding point
returns c =
    let inv = c.loop.invariant in
    let m = c.args.outlook.map.now in
    (λ i. record { left = c.unwrap_or.ensures i; right = c.unwrap_or-2.ensures i; visible = c.loop-test.visible })
    ∙ elim c.loop-test.branch [
      | else-loop-test w ↦ rw (w.left-is, w.right-is, w.visible-is) (at_end m c.args.outlook.point c.args.outlook.outline inv.0 (omega (arith, w.loop-test.false)))
      | then-loop-test+then-b-start w ↦
          let left : w.if-entering-leaving.left ≡ sought_at c.loop.left c.loop.entering w.sees_edge-leaving.result c.loop.a =
          elim w.if-entering-leaving.branch [
            | then-entering-leaving v ↦ v.left-is ∙ v.sought_at-left.ensures
            | else-entering-leaving v ↦ v.left-is ∙ unsought c.loop.a _ _ _ v.if-entering-leaving.false
          ] in
          let right : w.if-entering-leaving.right ≡ sought_at c.loop.right w.sees_edge-leaving.result c.loop.entering c.loop.a =
          elim w.if-entering-leaving.branch [
            | then-entering-leaving v ↦ v.right-is ∙ v.sought_at-right.ensures
            | else-entering-leaving v ↦ v.right-is ∙ unsought_back c.loop.a _ _ _ v.if-entering-leaving.false
          ] in
          rw (w.left-is, w.right-is, w.visible-is)
          (at_end m c.args.outlook.point c.args.outlook.outline
          (passed_last m c.args.outlook.point c.args.outlook.outline inv.0 (omega (arith, w.loop-test.true))
          (next_read c.args.outlook.outline c.loop.a inv.0.on)
          (w.sees_edge-leaving.ensures
          ∙ ap (λ (q : Point). sees_edge q (point m (owner (get_or m.edge (own c.loop.a) 0))) c.args.outlook.point) inv.1)
          left right (omega (arith, one_if_byte w.sees_edge-leaving.result)) w.if-b-start.true)
          (omega arith))
    ]
