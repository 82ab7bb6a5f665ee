-- Placing a query point, in the order of this page: what is asked of one corner and the edge that
-- leaves it; the number of edges that are strictly visible; the answer; the call.
-- Document 01: "Placing a point: "none" with fewer than two points; else its corner; else the
-- outline edge strictly between whose ends it lies, of two such edges the first in listing order;
-- else "inside" if all orientations are positive; else "outside" with the number of visible edges."
use Rattle.std.specs.Prelude.{Bool, not, cond, [], ◌∷◌, ℕ, ltb}
use Rattle.finite.specs.Lists.{all_in, any_in, count_in, first_in}
use Rattle.model.specs.declared.Refusal.{Refusal}
use Rattle.model.specs.declared.Point.{Point}
use Rattle.model.specs.declared.Map.{Map}
use Rattle.model.specs.declared.Placed.{Placed}
use Rattle.model.specs.Refusals.{◌when◌}
use Rattle.model.specs.Answers.{Call, placed_answer}
use Rattle.model.specs.Plane.{in_range, same_point, left_of, visible_from, strictly_between}
use Rattle.model.specs.Maps.{point}
use Rattle.model.specs.Outline.{next_corner, corners}
use Rattle.model.specs.Reading.{unsound}

-- corner a is the point; the point lies on the edge that leaves a; it is left of that edge
abbrev pub is_at : Map → Point → ℕ → Bool
is_at m p a = same_point (point m a) p

abbrev pub is_on_edge : Map → Point → ℕ → Bool
is_on_edge m p a = strictly_between (point m a) (point m (next_corner m a)) p

abbrev pub is_left_of_edge : Map → Point → ℕ → Bool
is_left_of_edge m p a = left_of (point m a) (point m (next_corner m a)) p

-- the edge that leaves a is strictly visible: negative orientation
abbrev pub strictly_sees : Map → Point → ℕ → Bool
strictly_sees m p a = visible_from (point m a) (point m (next_corner m a)) p

-- "the number of visible edges"
unfoldable pub strictly_visible : Map → Point → ℕ
strictly_visible m p = count_in (strictly_sees m p) (corners m)

-- a query point in range, and a map of two or more points
unfoldable pub place_among : Map → Point → Placed
place_among m p =
    let corner = first_in (is_at m p) 0 (corners m) in
    let start = first_in (is_on_edge m p) 0 (corners m) in
    cond (any_in (is_at m p) (corners m)) (Placed.Corner corner)
    (cond (any_in (is_on_edge m p) (corners m)) (Placed.Edge start (next_corner m start))
    (cond (all_in (is_left_of_edge m p) (corners m)) Placed.Inside (Placed.Outside (strictly_visible m p))))

abbrev pub place_call : Map → Point → Call Placed
place_call m p =
    record {
      meaning = placed_answer;
      rules = unsound m ∷ (Refusal.OutOfRange when not (in_range p)) ∷ [];
      value = cond (ltb m.count 2) Placed.NoOutline (place_among m p);
    }
