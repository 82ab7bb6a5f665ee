-- Looking at the edges in turn for where a point lies, in the order of this page: how the point lies to an edge; what is
-- found with one edge more; and with a list of corners, each with the edge that leaves it.
use Rattle.std.specs.Prelude.{false, cond, Some, unwrap_or, List, [], ◌∷◌, ℕ, ◌+◌}
use Rattle.model.specs.declared.Point.{Point}
use Rattle.model.specs.declared.Map.{Map}
use Rattle.model.specs.Plane.{left_of, visible_from}
use Rattle.model.specs.Maps.{point}
use Rattle.model.specs.Outline.{next_corner}
use Rattle.plane.specs.Between.{opposite}
use Rattle.corners.specs.declared.query.Side.{Side}
use Rattle.corners.specs.declared.query.View.{View}

-- how p lies to the edge from a to b
unfoldable pub side_of : Point → Point → Point → Side
side_of a b p =
    cond (left_of a b p) Side.Left
    (cond (visible_from a b p) Side.Visible (cond (opposite a b p) Side.Between Side.Beyond))

-- what is found with the edge that leaves corner a
abbrev pub viewed : View → Side → ℕ → View
viewed v Side.Left a = v
viewed v Side.Visible a = record { start = v.start; inside = false; visible = v.visible + 1 }
viewed v Side.Between a = record { start = Some (unwrap_or v.start a); inside = false; visible = v.visible }
viewed v Side.Beyond a = record { start = v.start; inside = false; visible = v.visible }

-- .. and with all corners of a list
unfoldable pub view_of : Map → Point → View → List ℕ → View
view_of m p v [] = v
view_of m p v (a ∷ s) =
    view_of m p (viewed v (side_of (point m a) (point m (next_corner m a)) p) a) s
