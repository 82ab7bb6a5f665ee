use mathlib.Core.Path.{◌≡◌, refl, ap, ◌∙◌}
use Prim.Native.Nat.{ℕ}
use native.Mathlib.Omega.{arith}
use Rattle.finite.specs.Bounded.{one_if, count}
use Rattle.finite.specs.Counting.{count_small}
use Rattle.orbits.proofs.Counts.{count_next, one_if_byte, byte_small}
use Rattle.model.specs.Maps.{own}
use Rattle.model.specs.Maps.{is_present}
use Rattle.model.specs.Reading.{darts}
use Rattle.maps.proofs.traversal.dart_count.Goals as goal

pub overflow_mul-d-end : goal.overflow_mul-d-end
overflow_mul-d-end c = omega (arith, c.requires)

pub loop-d-init : goal.loop-d-init
unfolding count
loop-d-init c = (omega arith, refl, refl)

pub overflow_cast-darts : goal.overflow_cast-darts
overflow_cast-darts c = tt

pub overflow_add-darts : goal.overflow_add-darts
overflow_add-darts c = omega (
  arith,
  byte_small c.is_present.result,
  count_small c.loop-d.d (is_present c.args.map.now),
  c.requires,
)

pub loop-d-preserved : goal.loop-d-preserved
loop-d-preserved c = let p = is_present c.args.map.now in (
  omega arith,
  c.loop-d.invariant.1,
  omega (
    arith,
    count_next c.loop-d.d p,
    one_if_byte c.is_present.result,
    ap one_if c.is_present.ensures,
  ),
)

pub returns : goal.returns
unfolding darts
returns c = let p = is_present c.args.map.now in
    let same : c.loop-d.d ≡ own c.args.map.now.count = omega arith in
    c.loop-d.invariant.2 ∙ ap (λ (n : ℕ). count n p) same
