-- Sight round an outline, in the order of this page: a corner that is sought; what is seen, with the corners where
-- that turns, and with the left and the right corner.
use Rattle.std.specs.Prelude.{Bool, not, cond, ◌&&◌, ℕ}
use Rattle.std.specs.declared.option.Option.{Option}
use Rattle.std.specs.declared.option.Option.TheVariants.{Some, None}
use Rattle.model.specs.declared.Point.{Point}
use Rattle.model.specs.declared.Map.{Map}
use Rattle.model.specs.Outline.{visible_edges}
use Rattle.model.specs.Arrival.{turning_left, turning_right, left_corner, right_corner}
use Rattle.sight.specs.declared.Seen.{Seen}

-- the corner sought if it is found; else corner a, where a test that failed before it passes after it
abbrev pub sought_at : Option ℕ → Bool → Bool → ℕ → Option ℕ
sought_at (Some k) before after a = Some k
sought_at None before after a = cond (not before && after) (Some a) None

-- what is seen from p of the outline of a map
abbrev pub turning : Map → Point → Seen
turning m p = record { left = turning_left m p; right = turning_right m p; visible = visible_edges m p }

abbrev pub seen : Map → Point → Seen
seen m p = record { left = left_corner m p; right = right_corner m p; visible = visible_edges m p }
