-- `session::calls::offer` meets its contract: the map that is answered is the one that a caller has after the offer.
use mathlib.Core.Path.{ap}
use Rattle.model.specs.Offers.{offer, map_after}
use Rattle.session.proofs.calls.offer.Goals as goal

pub returns-in_ok-tell_arrival-in-Ok : goal.returns-in_ok-tell_arrival-in-Ok
unfolding offer map_after
returns-in_ok-tell_arrival-in-Ok g c = ap (map_after c.args.map.now) c.in-Ok.ensures.equal

pub returns-in_ok-tell_refused-in-Err : goal.returns-in_ok-tell_refused-in-Err
unfolding offer map_after
returns-in_ok-tell_refused-in-Err g c = ap (map_after c.args.map.now) c.in-Err.ensures.equal
