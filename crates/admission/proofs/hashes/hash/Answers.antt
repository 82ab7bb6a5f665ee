-- `admission::hashes::hash` meets its contract: at each operation the number that the machine has is built
-- from the bounds of the coordinates.
use mathlib.Core.Path.{ap}
use Prim.Native.Nat.{◌%◌}
use lib.IntN.{ℤ, nat_abs}
use mir.Syntax.{w64}
use Rattle.integers.specs.Range.{Number, unsigned_fits}
use Rattle.integers.proofs.Range.{read, back, fits}
use Rattle.model.specs.declared.Ranged.{Ranged}
use Rattle.model.specs.Plane.{coordinate_limit}
use Rattle.plane.proofs.Bounds.{x_near, y_near}
use Rattle.admission.specs.Hashes.{hash_count, hash}
use Rattle.admission.proofs.Hashing.{column, row, rows, number, number_nonneg}
use Rattle.admission.proofs.hashes.hash.Goals as goal

module _ (p : Ranged) where
  abbrev x : Number coordinate_limit p.point.x
  x = read w64 tt (x_near p.point p.ranged)

  abbrev y : Number coordinate_limit p.point.y
  y = read w64 tt (y_near p.point p.ranged)

pub overflow_add-column : goal.overflow_add-column
overflow_add-column c = fits w64 tt (column (x c.args.p) (y c.args.p))

pub overflow_add-row : goal.overflow_add-row
overflow_add-row c = fits w64 tt (row (x c.args.p) (y c.args.p))

pub overflow_mul-result : goal.overflow_mul-result
overflow_mul-result c = fits w64 tt (rows (x c.args.p) (y c.args.p))

pub overflow_add-result : goal.overflow_add-result
overflow_add-result c = fits w64 tt (number (x c.args.p) (y c.args.p))

pub overflow_cast-result : goal.overflow_cast-result
overflow_cast-result c =
    let a = x c.args.p in
    let b = y c.args.p in
    unsigned_fits (back w64 tt (number a b)) (number_nonneg a b) w64 tt

pub returns : goal.returns
unfolding hash
returns c = ap (λ (z : ℤ). nat_abs z % hash_count) (back w64 tt (number (x c.args.p) (y c.args.p))).is
