-- What the functions of this crate ask of the edge links.
use Rattle.std.specs.Prelude.{List, ℕ, ◌<◌, get_or}
use Rattle.orbits.specs.Sets.{dart_limit}
use Rattle.orbits.specs.Links.{link_of}
use Rattle.model.specs.declared.Map.{Map}
use Rattle.model.specs.Maps.{point_limit}

-- edge links of which that of dart d is to be cut
pub record Cuttable (edge : List ℕ) (d : ℕ) : Type 0 where
  pub below : d < dart_limit
  pub partner_below : get_or edge d d < dart_limit

-- edge links that lead to darts, and two corners between which a point is put
pub record Linked (edge : List ℕ) (left right : ℕ) : Type 0 where
  pub left_below : left < point_limit
  pub right_below : right < point_limit
  pub links_below : (d : ℕ) → d < dart_limit → link_of edge d < dart_limit

-- such corners of a map that has room for the point
pub record Spliceable (m : Map) (left right : ℕ) : Type 0 where
  pub room : m.count < point_limit
  pub linked : Linked m.edge left right
