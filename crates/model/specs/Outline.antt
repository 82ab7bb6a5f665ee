-- The outline, in the order of this page: the corner after and before a corner; the corners from
-- a given one; the outline from the reference; what is visible; the corners in listing order.
-- Document 01: "Its edge from corner a to corner b links a's own dart with b's helper"; "Corners
-- are listed anticlockwise from the smallest y, then the smallest x. One point lists itself." An
-- outline (the field's hull boundary) is a list of point numbers, each with the edge that leaves
-- it.
use Rattle.std.specs.Prelude.{Bool, not, cond, List, [], ℕ, ltb}
use Rattle.finite.specs.Bounded.{table}
use Rattle.finite.specs.Lists.{all_in, count_in, first_in, ring}
use Rattle.model.specs.declared.Point.{Point}
use Rattle.model.specs.declared.Map.{Map}
use Rattle.model.specs.Plane.{sees_edge, lower}
use Rattle.model.specs.Maps.{own, helper, owner, point, edge_link}

-- the end of the edge that leaves a corner, and the start of the edge that enters it, by the edge link
abbrev pub next_by : (ℕ → ℕ) → ℕ → ℕ
next_by edge a = owner (edge (own a))

abbrev pub previous_by : (ℕ → ℕ) → ℕ → ℕ
previous_by edge a = owner (edge (helper a))

unfoldable pub next_corner : Map → ℕ → ℕ
next_corner m = next_by (edge_link m)

unfoldable pub previous_corner : Map → ℕ → ℕ
previous_corner m = previous_by (edge_link m)

-- a, the corner after it, and so on round to the corner before it
unfoldable pub corners_from : Map → ℕ → List ℕ
corners_from m a = ring (next_corner m) a m.count a

-- the outline from the reference's point: with fewer than two points there is none
unfoldable pub outline : Map → List ℕ
outline m = cond (ltb m.count 2) [] (corners_from m (owner m.reference))

-- p sees the edge that leaves corner a: what an arrival goes by
unfoldable pub sees : Map → Point → ℕ → Bool
sees m p a = sees_edge (point m a) (point m (next_corner m a)) p

-- the number of outline edges visible from p
unfoldable pub visible_edges : Map → Point → ℕ
visible_edges m p = count_in (sees m p) (outline m)

-- the corner with "the smallest y, then the smallest x"
unfoldable pub lowest_corner : Map → ℕ
lowest_corner m =
    first_in (λ a. all_in (λ b. not (lower (point m b) (point m a))) (outline m)) 0 (outline m)

-- the corners in listing order
unfoldable pub corners : Map → List ℕ
corners m = cond (ltb m.count 2) (table m.count (λ k. k)) (corners_from m (lowest_corner m))
