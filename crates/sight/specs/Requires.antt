-- What the functions of this crate ask of a map and a point.
use Rattle.std.specs.Prelude.{◌≢◌, ℕ, ◌≤◌, ◌<◌, T}
use Rattle.model.specs.declared.Point.{Point}
use Rattle.model.specs.declared.Map.{Map}
use Rattle.model.specs.Plane.{in_range}
use Rattle.model.specs.Maps.{point_limit, point}
use Rattle.model.specs.Shape.{Shaped}

-- a point that no condition refuses: the map is sound and has room for it, and it is in range and none of
-- the map's points
pub record Accepted (m : Map) (p : Point) : Type 0 where
  pub is_sound : Shaped m
  pub room : m.count < point_limit
  pub ranged : T (in_range p)
  pub fresh : (k : ℕ) → k < m.count → point m k ≢ p

-- such a point, and a map that has an outline
pub record OutlineFor (m : Map) (p : Point) : Type 0 where
  pub accepted : Accepted m p
  pub two : 2 ≤ m.count
