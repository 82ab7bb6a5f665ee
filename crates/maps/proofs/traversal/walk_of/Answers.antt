-- `maps::traversal::walk_of` meets its contract: the lists hold the two links, and as many moves are left as
-- there are darts.
use mathlib.Core.Path.{◌≡◌, ◌∙◌}
use lib.ListN.{length}
use borrow.Author.Rules.{rules}
use Rattle.orbits.specs.Walks.{walk}
use Rattle.model.specs.Maps.{point_limit, edge_link}
use Rattle.maps.proofs.Tables.{links_held}
use Rattle.maps.proofs.traversal.walk_of.Goals as goal

pub returns : goal.returns
unfolding edge_link
returns c =
    let m = c.args.map.now in
    let whole : length m.helpers ≡ point_limit = search rules in
    c.walk.ensures
    ∙ (λ i.
    walk (edge_link m) (links_held m whole c.point_links-point.ensures i) (c.dart_count-darts.ensures i) c.args.d)
