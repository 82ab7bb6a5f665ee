-- `reach::reach_orientation` meets its contract: the points are those of the coordinates.
use Rattle.model.specs.declared.Point.{Point}
use Rattle.model.specs.Plane.{at, orientation_call}
use Rattle.replies.specs.Replies.{reply, values_of}
use Rattle.replies.proofs.Serving.{served_at, point_made}
use Rattle.reach.proofs.reach_orientation.Goals as goal

pub returns : goal.returns
returns c = let s = c.args in
    let f = c.ranges in
    let a = at s.ax s.ay in
    let b = at s.bx s.by in
    rw c.code.ensures
    (served_at (λ (z : Point). reply values_of (orientation_call a b z))
    (point_made s.cx s.cy f.cx f.cy c.point-3.ensures)
    (served_at (λ (y : Point). reply values_of (orientation_call a y c.point-3.result))
    (point_made s.bx s.by f.bx f.by c.point-2.ensures)
    (served_at (λ (x : Point). reply values_of
    (orientation_call x c.point-2.result c.point-3.result))
    (point_made s.ax s.ay f.ax f.ay c.point.ensures)
    c.write_orientation.ensures)))
