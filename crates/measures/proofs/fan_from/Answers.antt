use mathlib.Core.Path.{◌≡◌, ◌∙◌}
use mathlib.Core.List.{List}
use Prim.Native.Nat.{ℕ, ◌+◌, ◌<◌}
use mir.Syntax.{w64}
use mir.Val.{to_z, of_z, SFits}
use mir.ValLaws.{to_z-of_z}
use lib.IntN.{ℤ, ◌+ℤ◌}
use lib.ListN.{length, get_or}
use Rattle.integers.specs.Range.{bounded_fits}
use Rattle.model.specs.declared.Point.{Point}
use Rattle.model.specs.declared.Map.{Map}
use Rattle.model.specs.Plane.{orientation}
use Rattle.model.specs.Maps.{point}
use Rattle.measures.specs.Areas.{Fanned}
use Rattle.measures.proofs.Sums.{SummingAt, at_first, within, one_more, at_end}
use Rattle.measures.proofs.fan_from.Goals as goal

-- the triangle of two points that were read of the map
oriented : (m : Map) (q : Point) (a b : ℕ) {p r : Point} → p ≡ point m a → r ≡ point m b →
    {z : ℤ} → z ≡ orientation q p r → z ≡ orientation q (point m a) (point m b)
oriented m q a b first second e = e ∙ (λ i. orientation q (first i) (second i))

-- the triangle z that is added, and the sum, as the machine has them
module _ {m : Map} {corners : List ℕ} {q : Point} (f : Fanned m corners q) {total z : ℤ}
    {a i : ℕ} (h : SummingAt m corners q total a i) (l : i < length corners) (kept : SFits w64 z)
    (is : z ≡ orientation q (point m a) (point m (get_or corners i 0))) where
  more : SummingAt m corners q (total +ℤ to_z w64 (of_z w64 z)) (get_or corners i 0) (i + 1)
  more = rw (to_z-of_z w64 z kept ∙ is) (one_more f h l)

  fits : SFits w64 (total +ℤ to_z w64 (of_z w64 z))
  fits = bounded_fits w64 tt (within f more)

  summed :
      SummingAt m corners q (to_z w64 (of_z w64 (total +ℤ to_z w64 (of_z w64 z)))) (get_or corners i 0)
      (i + 1)
  summed = rw (to_z-of_z w64 (total +ℤ to_z w64 (of_z w64 z)) fits) more

pub loop-b-init : goal.loop-b-init
loop-b-init c = at_first c.requires

pub overflow_add-total : goal.overflow_add-total
overflow_add-total c =
    let z = c.orientation_in_range-total in
    fits c.requires c.loop-b.invariant c.loop-b-test.true (record { sfits = z.type_inv })
    (oriented c.args.sound.map.now c.args.q.point _ _ c.point.ensures c.point-in-loop-b.ensures z.ensures)

pub loop-b-preserved : goal.loop-b-preserved
loop-b-preserved c =
    let z = c.orientation_in_range-total in
    summed c.requires c.loop-b.invariant c.loop-b-test.true (record { sfits = z.type_inv })
    (oriented c.args.sound.map.now c.args.q.point _ _ c.point.ensures c.point-in-loop-b.ensures z.ensures)

pub returns : goal.returns
returns c = at_end c.requires c.loop-b.invariant c.loop-b-test.false
