-- Points in a list, by their places, in the order of this page: that all of them are in range; whether a point is
-- new among them; whether a point lies beside an edge.
use Rattle.std.specs.Prelude.{Bool, not, ◌&&◌, List, ℕ, T, eqb, length}
use Rattle.finite.specs.Tests.{◌⇒◌}
use Rattle.finite.specs.Bounded.{all}
use Rattle.model.specs.declared.Point.{Point}
use Rattle.model.specs.Plane.{in_range, same_point, beside}
use Rattle.model.specs.Maps.{point_in}

-- points in range, as those of a sound map are past its last point too
abbrev pub AllRanged : List Point → Type 0
AllRanged points = (k : ℕ) → T (in_range (point_in points k))

-- p is none of the points
abbrev pub new_in : List Point → Point → Bool
new_in points p = all (length points) (λ j. not (same_point (point_in points j) p))

-- point c is an end of the edge from a to b, or lies beside it
abbrev pub aside_in : List Point → ℕ → ℕ → ℕ → Bool
aside_in points a b c =
    not (eqb c a) && not (eqb c b) ⇒ beside (point_in points a) (point_in points b) (point_in points c)
