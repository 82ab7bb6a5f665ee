-- The arrival of a point, in the order of this page: how links are cut and made; the corners where what
-- is visible turns; a point in line beyond an outline of two corners; the left and the right corner; what
-- is noted of an arrival; the map after each arrival; the refusals of a sound map. Offers to any map are
-- specs/Offers. Document 01, "Orientation and arrival", and document 02, requests 106 and 107.
use Rattle.std.specs.Prelude.{Bool, true, not, cond, ◌&&◌, List, [], ◌∷◌, ℕ, suc, leb, eqb, length, get_or, set}
use Rattle.std.specs.declared.result.Result.{Result}
use Rattle.std.specs.declared.result.Result.TheVariants.{Ok, Err}
use Rattle.finite.specs.Bounded.{any}
use Rattle.finite.specs.Lists.{any_in, first_in}
use Rattle.model.specs.declared.Refusal.{Refusal}
use Rattle.model.specs.declared.Point.{Point}
use Rattle.model.specs.declared.Note.{Note}
use Rattle.model.specs.declared.Map.{Map}
use Rattle.model.specs.declared.Arrival.{Arrival}
use Rattle.model.specs.declared.Offered.{Offered}
use Rattle.model.specs.Refusals.{Rule, ◌when◌, unless}
use Rattle.model.specs.Plane.{in_range, same_point, strictly_between}
use Rattle.model.specs.Maps.{point_limit, no_dart, own, helper, point, edge_link}
use Rattle.model.specs.Outline.{next_corner, previous_corner, outline, sees, visible_edges}

-- the edge links with d's partner fixed, and with a and b each other's partner
unfoldable pub cut : ℕ → List ℕ → List ℕ
cut d edge = set edge (get_or edge d d) (get_or edge d d)

unfoldable pub join : ℕ → ℕ → List ℕ → List ℕ
join a b edge = set (set edge a b) b a

-- "The left corner is the one whose entering edge is not visible and whose leaving edge is; the
-- right corner the reverse."
unfoldable pub turning_left : Map → Point → ℕ
turning_left m p = first_in (λ a. not (sees m p (previous_corner m a)) && sees m p a) 0 (outline m)

unfoldable pub turning_right : Map → Point → ℕ
turning_right m p = first_in (λ a. sees m p (previous_corner m a) && not (sees m p a)) 0 (outline m)

-- the corner after a lies strictly between a and p: of the two, a is the one farther from p
unfoldable pub is_farther : Map → Point → ℕ → Bool
is_farther m p a = strictly_between (point m a) p (point m (next_corner m a))

-- "the whole outline is two corners and the new point is in line beyond one of them": both edges are
-- visible then, and what is visible turns at no corner
unfoldable pub is_beyond : Map → Point → Bool
is_beyond m p = eqb (length (outline m)) 2 && any_in (is_farther m p) (outline m)

-- "left and right are both the corner farther from the new point"
unfoldable pub farther : Map → Point → ℕ
farther m p = first_in (is_farther m p) 0 (outline m)

-- the two corners between which a point is put that sees some edge
unfoldable pub left_corner : Map → Point → ℕ
left_corner m p = cond (is_beyond m p) (farther m p) (turning_left m p)

unfoldable pub right_corner : Map → Point → ℕ
right_corner m p = cond (is_beyond m p) (farther m p) (turning_right m p)

-- "its arrival (0 first, 1 second, 2 inside, 3 outside)"
abbrev pub first_kind : ℕ
first_kind = 0

abbrev pub second_kind : ℕ
second_kind = 1

abbrev pub inside_kind : ℕ
inside_kind = 2

abbrev pub outside_kind : ℕ
outside_kind = 3

-- an arrival that frees no dart
abbrev pub freeing_none : ℕ → Note
freeing_none kind = record { arrival = kind; left = no_dart; right = no_dart }

-- the partner that dart d loses, or none where that is the other dart, to which this happens too
abbrev pub freed_by : (ℕ → ℕ) → ℕ → ℕ → ℕ
freed_by edge d other = cond (eqb (edge d) other) no_dart (edge d)

-- "the two freed darts, the left corner's old partner and then the right's, 1,024 where there was none or
-- where the partners are l and r", by the edge link before the arrival
abbrev pub freeing_by : (ℕ → ℕ) → ℕ → ℕ → Note
freeing_by edge left right =
    record {
      arrival = outside_kind;
      left = freed_by edge (own left) (helper right);
      right = freed_by edge (helper right) (own left);
    }

abbrev pub freeing : Map → ℕ → ℕ → Note
freeing m = freeing_by (edge_link m)

-- the map with p as its next point, of which this is noted, and with these helpers, edge links and reference
unfoldable pub with_point : Map → Point → Note → List Bool → List ℕ → ℕ → Map
with_point m p noted helpers edge reference =
    record {
      points = set m.points m.count p;
      helpers = helpers;
      edge = edge;
      notes = set m.notes m.count noted;
      count = suc m.count;
      reference = reference;
    }

-- "one dart, both links fixed" and "dart 2k alone, fixed, reference kept"
unfoldable pub alone : ℕ → Map → Point → Map
alone kind m p = with_point m p (freeing_none kind) m.helpers m.edge m.reference

-- "edge links 0-3 and 2-1, point links 0-1 and 2-3, reference 2"
unfoldable pub pair : Map → Point → Map
pair m p =
    with_point m p (freeing_none second_kind) (set (set m.helpers 0 true) 1 true)
    (join 2 1 (join 0 3 m.edge))
    2

-- "The left corner's own dart l and the right corner's helper r lose their edge partners, which
-- become fixed unless they are l and r themselves. New edge links are l with 2k + 1, and 2k with r;
-- new point link 2k with 2k + 1; reference 2k. Nothing else changes."
unfoldable pub spliced : Map → Point → ℕ → ℕ → Map
spliced m p left right =
    let k = m.count in
    let l = own left in
    let r = helper right in
    with_point m p (freeing m left right) (set m.helpers k true)
    (join (own k) r (join l (helper k) (cut r (cut l m.edge))))
    (own k)

-- the map after an arrival, and the arrival
abbrev pub arrived : Arrival → Map → Offered
arrived arrival m = record { map = m; arrival = arrival }

-- "inside" if no outline edge is visible, otherwise "outside"
unfoldable pub later_point : Map → Point → Offered
later_point m p =
    let left = left_corner m p in
    let right = right_corner m p in
    let visible = visible_edges m p in
    cond (eqb visible 0)
    (arrived Arrival.Inside (alone inside_kind m p))
    (arrived (Arrival.Outside left right visible) (spliced m p left right))

-- a point that is not refused
unfoldable pub arrive : Map → Point → Offered
arrive m p =
    cond (eqb m.count 0) (arrived Arrival.First (alone first_kind m p))
    (cond (eqb m.count 1) (arrived Arrival.Second (pair m p)) (later_point m p))

-- "equal to an accepted point"
unfoldable pub is_repeated : Map → Point → Bool
is_repeated m p = any m.count (λ k. same_point (point m k) p)

-- why a sound map refuses a point
abbrev pub admission_rules : Map → Point → List Rule
admission_rules m p =
    (Refusal.Full when leb point_limit m.count)
    ∷ (Refusal.OutOfRange when not (in_range p))
    ∷ (Refusal.Repeated when is_repeated m p)
    ∷ []

-- a point offered to a sound map: the map after it and its arrival, or the refusal
unfoldable pub admitted : Map → Point → Result Offered Refusal
admitted m p = unless Err (admission_rules m p) (Ok (arrive m p))
