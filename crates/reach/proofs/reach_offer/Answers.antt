-- `reach::reach_offer` meets its contract: the point is that of the coordinates.
use Rattle.std.specs.declared.result.Result.TheVariants.{Ok}
use Rattle.model.specs.declared.Point.{Point}
use Rattle.model.specs.Answers.{arrival_answer, arrival_of}
use Rattle.model.specs.Arrival.{arrive}
use Rattle.model.specs.Offers.{offer_rules}
use Rattle.model.specs.Saved.{map_in, saved}
use Rattle.replies.specs.Opened.{of_file}
use Rattle.replies.specs.Replies.{arrival_told}
use Rattle.replies.proofs.Serving.{both_at, point_made}
use Rattle.reach.proofs.reach_offer.Goals as goal

pub returns : goal.returns
unfolding arrival_of
returns c = let s = c.args in
    let f = c.ranges in
    let m = map_in s.map.now in
    rw c.code.ensures
    (both_at (λ p. of_file s.map.now (λ m. offer_rules m p)) (λ p. saved (arrive m p).map)
    (λ (p : Point). arrival_told (arrival_answer (Ok (arrive m p).arrival)))
    (point_made s.x s.y f.x f.y c.point.ensures)
    c.write_offer.ensures)
