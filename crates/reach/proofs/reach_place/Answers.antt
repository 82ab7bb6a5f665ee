-- `reach::reach_place` meets its contract: the point is that of the coordinates.
use Rattle.model.specs.declared.Point.{Point}
use Rattle.replies.specs.Replies.{from_file, place_reply}
use Rattle.replies.proofs.Serving.{served_at, point_made}
use Rattle.reach.proofs.reach_place.Goals as goal

pub returns : goal.returns
returns c = let s = c.args in
    let f = c.ranges in
    rw c.code.ensures
    (served_at (λ (p : Point). from_file (place_reply p) s.map.now)
    (point_made s.x s.y f.x f.y c.point.ensures)
    c.write_placed.ensures)
