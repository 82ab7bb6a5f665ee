-- `plane::orientation_in_range` meets its contract: the coordinates that `determinant` is handed are those of the points,
-- read back from their bits.
use Rattle.plane.proofs.Bounds.{ranged_near, read_near, read_determinant}
use Rattle.plane.proofs.orientation_in_range.Goals as goal

pub determinant-requires : goal.determinant-requires
determinant-requires c =
    read_near c.args.a.point c.args.b.point c.args.c.point (ranged_near c.args.a c.args.b c.args.c)

pub returns : goal.returns
returns c =
    read_determinant c.args.a.point c.args.b.point c.args.c.point (ranged_near c.args.a c.args.b c.args.c)
    c.determinant.result c.determinant.ensures
