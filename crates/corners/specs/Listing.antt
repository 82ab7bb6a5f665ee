-- Listing the corners, in the order of this page: what a list of corners holds; that these are a map's; the lower of
-- two points, the lowest of a list and of the corners round from one.
-- Document 01: "Corners are listed anticlockwise from the smallest y, then the smallest x."
use Rattle.std.specs.Prelude.{◌≡◌, cond, List, [], ◌∷◌, ℕ, ◌≤◌, length, take}
use Rattle.model.specs.declared.Point.{Point}
use Rattle.model.specs.declared.Map.{Map}
use Rattle.model.specs.Plane.{lower}
use Rattle.model.specs.Maps.{point_limit, point}
use Rattle.model.specs.Outline.{corners_from, corners}
use Rattle.corners.specs.declared.listing.CornerList.{CornerList}

-- what the list holds
abbrev pub listed : CornerList → List ℕ
listed r = take r.count r.points

-- it holds the corners of the map
pub record ListsCorners (m : Map) (r : CornerList) : Type 0 where
  pub members : listed r ≡ corners m
  pub number : r.count ≡ length (corners m)
  pub whole : length r.points ≡ point_limit
  pub fits : r.count ≤ point_limit

-- the lower one of points a and b; a where neither is lower
abbrev pub lower_of : Map → ℕ → ℕ → ℕ
lower_of m a b = cond (lower (point m b) (point m a)) b a

-- x, or a member that is lower than all before it
unfoldable pub lowest_of : (ℕ → Point) → ℕ → List ℕ → ℕ
lowest_of P x [] = x
lowest_of P x (a ∷ s) = lowest_of P (cond (lower (P a) (P x)) a x) s

-- the lowest of the corners round from `start`
unfoldable pub lowest_round : Map → ℕ → ℕ
lowest_round m start = lowest_of (point m) start (corners_from m start)
