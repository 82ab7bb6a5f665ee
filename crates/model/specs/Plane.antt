-- Points of the plane, in the order of this page: the coordinate limit and the range; equal
-- points; orientation and its three cases; strictly between two points; what lies beside an edge
-- and what an arrival sees; the answer of the call; lower than a point.
-- Document 01, "Orientation and arrival" and the coordinates of "What the engine holds"; document 02,
-- requests 105 and 106. The numbers are whole numbers without a bound: a `Point` of antt holds two of ℤ.
use Rattle.std.specs.Prelude.{Bool, not, ◌&&◌, ◌||◌, [], ◌∷◌, ℕ, ◌*◌, ℤ, pos, neg_ℤ, ◌+ℤ◌, ◌-ℤ◌, ◌*ℤ◌}
use Rattle.std.specs.declared.result.Result.{Result}
use Rattle.std.specs.Int.Signed.{lt_z, le_z}
use Rattle.integers.specs.Order.{eq_z}
use Rattle.model.specs.declared.Refusal.{Refusal}
use Rattle.model.specs.declared.Point.{Point}
use Rattle.model.specs.Refusals.{◌when◌}
use Rattle.model.specs.Answers.{Call, answer_of, oriented_answer}

-- "from -1,000,000,000 to 1,000,000,000"
abbrev pub coordinate_limit : ℕ
coordinate_limit = 1_000_000_000

unfoldable pub coordinate_in_range : ℤ → Bool
coordinate_in_range z = le_z (neg_ℤ (pos coordinate_limit)) z && le_z z (pos coordinate_limit)

unfoldable pub in_range : Point → Bool
in_range p = coordinate_in_range p.x && coordinate_in_range p.y

-- the point of two coordinates, and the point 0, 0
abbrev pub at : ℤ → ℤ → Point
at x y = record { x = x; y = y }

abbrev pub origin : Point
origin = at (pos 0) (pos 0)

-- equal points
unfoldable pub same_point : Point → Point → Bool
same_point p q = eq_z p.x q.x && eq_z p.y q.y

-- "Orientation of (a, b, c) is (bx - ax) × (cy - ay) - (by - ay) × (cx - ax)"
unfoldable pub orientation : Point → Point → Point → ℤ
orientation a b c = (b.x -ℤ a.x) *ℤ (c.y -ℤ a.y) -ℤ (b.y -ℤ a.y) *ℤ (c.x -ℤ a.x)

-- "from -4 × 10^18 to 4 × 10^18"
abbrev pub orientation_limit : ℕ
orientation_limit = 4 * (coordinate_limit * coordinate_limit)

-- "Positive is a left turn": c is strictly left of the edge from a to b
unfoldable pub left_of : Point → Point → Point → Bool
left_of a b c = lt_z (pos 0) (orientation a b c)

-- "negative means edge a to b is visible from c": strictly visible, as a placed point sees it
unfoldable pub visible_from : Point → Point → Point → Bool
visible_from a b c = lt_z (orientation a b c) (pos 0)

-- "zero is in line": neither of the two
unfoldable pub in_line : Point → Point → Point → Bool
in_line a b c = not (left_of a b c) && not (visible_from a b c)

-- p lies in line with a and b and strictly between them: a and b lie on opposite sides of p
unfoldable pub strictly_between : Point → Point → Point → Bool
strictly_between a b p =
    in_line a b p && lt_z ((a.x -ℤ p.x) *ℤ (b.x -ℤ p.x) +ℤ (a.y -ℤ p.y) *ℤ (b.y -ℤ p.y)) (pos 0)

-- "positive orientation, or zero and lie between the edge's ends": c lies beside the edge from a to b,
-- left of it or on it, as all other points of a sound map lie beside each outline edge
unfoldable pub beside : Point → Point → Point → Bool
beside a b c = left_of a b c || strictly_between a b c

-- "visible also when the point is on its line but not between its ends": a point c that arrives sees the
-- edge from a to b, which it is not beside
unfoldable pub sees_edge : Point → Point → Point → Bool
sees_edge a b c = not (beside a b c)

-- the orientation of three points, or number 3
abbrev pub orientation_call : Point → Point → Point → Call ℤ
orientation_call a b c =
    record {
      meaning = oriented_answer;
      rules = (Refusal.OutOfRange when not (in_range a && in_range b && in_range c)) ∷ [];
      value = orientation a b c;
    }

unfoldable pub oriented : Point → Point → Point → Result ℤ Refusal
oriented a b c = answer_of (orientation_call a b c)

-- p comes before q in "the smallest y, then the smallest x"
unfoldable pub lower : Point → Point → Bool
lower p q = lt_z p.y q.y || (eq_z p.y q.y && lt_z p.x q.x)
