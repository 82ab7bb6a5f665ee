-- Twice the area of an outline, in the order of this page: a fan of triangles; the fan from a corner of a map;
-- the call; its limit; the same area by the history.
-- Document 02, request 102: "twice the outline's area as the sum of orientations over a fan of triangles from
-- any chosen corner".
use Rattle.std.specs.Prelude.{not, cond, ◌&&◌, List, [], ◌∷◌, ◌++◌, map, ℕ, ◌*◌, ltb, leb, ℤ, pos, neg_ℤ, ◌+ℤ◌, length, get_or}
use Rattle.model.specs.declared.Refusal.{Refusal}
use Rattle.model.specs.declared.Point.{Point}
use Rattle.model.specs.declared.Map.{Map}
use Rattle.model.specs.Refusals.{Rule, ◌when◌}
use Rattle.model.specs.Answers.{Call, doubled_answer}
use Rattle.model.specs.Plane.{coordinate_limit, origin, orientation}
use Rattle.model.specs.Maps.{point}
use Rattle.model.specs.Outline.{next_corner, outline, sees, corners}
use Rattle.model.specs.Reading.{unsound}
use Rattle.model.specs.History.{Entry}
use Rattle.model.specs.Outlines.{corner_points}

-- ---- a fan of triangles

-- the orientations from q along a, then the list
unfoldable pub path_sum : Point → Point → List Point → ℤ
path_sum q a [] = pos 0
path_sum q a (b ∷ s) = orientation q a b +ℤ path_sum q b s

-- .. and round the list, back to its first point: a triangle for each edge, and 0 for those that q is an end of
unfoldable pub fan : Point → List Point → ℤ
fan q [] = pos 0
fan q (a ∷ s) = path_sum q a (s ++ a ∷ [])

-- ---- the call

-- from the corner at a place of the listing
unfoldable pub area_from : Map → ℕ → ℤ
area_from m place = fan (get_or (corner_points m) place origin) (corner_points m)

-- "Fewer than three points give 0 for any index."
unfoldable pub doubled_area : Map → ℕ → ℤ
doubled_area m place = cond (ltb m.count 3) (pos 0) (area_from m place)

-- "Otherwise an index that is no place of the listing counts as an absent dart, number 6."
abbrev pub no_place : Map → ℕ → Rule
no_place m place = Refusal.NoDart when (leb 3 m.count && not (ltb place (length (corners m))))

abbrev pub area_call : Map → ℕ → Call ℤ
area_call m place =
    record {
      meaning = doubled_answer;
      rules = unsound m ∷ no_place m place ∷ [];
      value = doubled_area m place;
    }

-- it is at most twice the area of the whole range, 8 × 10^18
abbrev pub area_limit : ℕ
area_limit = 8 * (coordinate_limit * coordinate_limit)

-- ---- by the history

unfoldable pub sum_of : List ℤ → ℤ
sum_of [] = pos 0
sum_of (z ∷ s) = z +ℤ sum_of s

-- the negated orientation of the edge that leaves corner a, where it is visible
unfoldable pub triangle_added : Map → Point → ℕ → ℤ
triangle_added m p a =
    cond (sees m p a) (neg_ℤ (orientation (point m a) (point m (next_corner m a)) p)) (pos 0)

-- what an arrival adds
unfoldable pub area_added : Entry → ℤ
area_added e = sum_of (map (triangle_added e.before e.offered) (outline e.before))

-- "the history's total: over all arrivals, the negated orientations of the edges that were visible"
unfoldable pub history_area : List Entry → ℤ
history_area h = sum_of (map area_added h)
