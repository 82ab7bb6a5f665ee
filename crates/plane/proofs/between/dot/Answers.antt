-- `plane::between::dot` meets its contract: at each operation the number that the machine has is built
-- from the bounds of the coordinates, and its range is a comparison of numerals.
use lib.IntN.{◌-ℤ◌, ◌*ℤ◌}
use mir.Syntax.{w64}
use Prim.Native.Nat.{◌*◌}
use Rattle.integers.specs.Range.{Number, add}
use Rattle.integers.proofs.Range.{back, fits}
use Rattle.model.specs.declared.Ranged.{Ranged}
use Rattle.plane.proofs.Bounds.{x_near, y_near, span, side, product}
use Rattle.plane.proofs.between.dot.Goals as goal

-- the differences of two points, and the products that are added
abbrev along_x : (a p : Ranged) → Number span (a.point.x -ℤ p.point.x)
along_x a p = side (x_near a.point a.ranged) (x_near p.point p.ranged)

abbrev along_y : (a p : Ranged) → Number span (a.point.y -ℤ p.point.y)
along_y a p = side (y_near a.point a.ranged) (y_near p.point p.ranged)

module _ (a b p : Ranged) where
  abbrev across : Number (span * span) ((a.point.x -ℤ p.point.x) *ℤ (b.point.x -ℤ p.point.x))
  across = product (along_x a p) (along_x b p)

  abbrev upward : Number (span * span) ((a.point.y -ℤ p.point.y) *ℤ (b.point.y -ℤ p.point.y))
  upward = product (along_y a p) (along_y b p)

pub overflow_sub-result : goal.overflow_sub-result
overflow_sub-result c = fits w64 tt (along_x c.args.a c.args.p)

pub overflow_sub-result-2 : goal.overflow_sub-result-2
overflow_sub-result-2 c = fits w64 tt (along_x c.args.b c.args.p)

pub overflow_mul-result : goal.overflow_mul-result
overflow_mul-result c = fits w64 tt (across c.args.a c.args.b c.args.p)

pub overflow_sub-result-3 : goal.overflow_sub-result-3
overflow_sub-result-3 c = fits w64 tt (along_y c.args.a c.args.p)

pub overflow_sub-result-4 : goal.overflow_sub-result-4
overflow_sub-result-4 c = fits w64 tt (along_y c.args.b c.args.p)

pub overflow_mul-result-2 : goal.overflow_mul-result-2
overflow_mul-result-2 c = fits w64 tt (upward c.args.a c.args.b c.args.p)

pub overflow_add-result : goal.overflow_add-result
overflow_add-result c =
    fits w64 tt (add (back w64 tt (across c.args.a c.args.b c.args.p)) (back w64 tt (upward c.args.a c.args.b c.args.p)))

pub returns : goal.returns
returns c =
    (back w64 tt
    (add (back w64 tt (across c.args.a c.args.b c.args.p)) (back w64 tt (upward c.args.a c.args.b c.args.p)))).is
