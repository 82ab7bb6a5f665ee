-- Maps, in the order of this page: the limits; the darts of a point; the points of a list, present darts and
-- point links by helpers alone, and the notes of a list, for code that is lent an array of a map; the points,
-- the helpers, the present darts, the two links and the notes of a map; the empty map; a map's points as a list.
-- Document 01, "What the engine holds" and "A sound map". A dart that the document calls own is 2k
-- and a helper 2k + 1, for the point k that owns them.
use Rattle.std.specs.Prelude.{Bool, false, cond, ◌&&◌, ◌||◌, List, ℕ, ◌+◌, ◌*◌, ◌/◌, ◌%◌, ltb, eqb, get_or, replicate}
use Rattle.finite.specs.Bounded.{table}
use Rattle.orbits.specs.Sets.{dart_limit}
use Rattle.orbits.specs.Links.{link_of, test_of}
use Rattle.model.specs.declared.Point.{Point}
use Rattle.model.specs.declared.Note.{Note}
use Rattle.model.specs.declared.Map.{Map}
use Rattle.model.specs.Plane.{origin}

-- "A map has at most 512 points"
abbrev pub point_limit : ℕ
point_limit = 512

-- "The reference is a dart number; 1,024 means none"
abbrev pub no_dart : ℕ
no_dart = dart_limit

-- "Point k owns dart 2k and may have the helper dart 2k + 1"
abbrev pub own : ℕ → ℕ
own k = 2 * k

abbrev pub helper : ℕ → ℕ
helper k = 2 * k + 1

-- the point of a dart, and whether the dart is its own dart
abbrev pub owner : ℕ → ℕ
owner d = d / 2

abbrev pub is_own : ℕ → Bool
is_own d = eqb (d % 2) 0

-- the other dart of the same point
unfoldable pub other_dart : ℕ → ℕ
other_dart d = cond (is_own d) (helper (owner d)) (own (owner d))

-- the point numbered k of a list: a place without a point holds 0, 0
abbrev pub point_in : List Point → ℕ → Point
point_in points k = get_or points k origin

-- "Dart 2k is present for every point k. A helper is present or not. No other dart is present."
abbrev pub present_by : (ℕ → Bool) → ℕ → ℕ → Bool
present_by helped count d = ltb (owner d) count && (is_own d || helped (owner d))

-- "The point link joins 2k and 2k + 1 where the helper is present; else it fixes 2k."
abbrev pub point_link_by : (ℕ → Bool) → ℕ → ℕ
point_link_by helped d = cond (helped (owner d)) (other_dart d) d

-- "A place without a point holds 0, 1,024, 1,024."
abbrev pub no_note : Note
no_note = record { arrival = 0; left = no_dart; right = no_dart }

-- "The map gains for each point its arrival (0 first, 1 second, 2 inside, 3 outside) and the two freed
-- darts": what is noted of the point numbered k, of a list of notes
abbrev pub note_in : List Note → ℕ → Note
note_in notes k = get_or notes k no_note

-- the same of a map; both links leave a number that is no dart where it is
unfoldable pub point : Map → ℕ → Point
point m = point_in m.points

unfoldable pub has_helper : Map → ℕ → Bool
has_helper m = test_of m.helpers

unfoldable pub is_present : Map → ℕ → Bool
is_present m = present_by (has_helper m) m.count

unfoldable pub edge_link : Map → ℕ → ℕ
edge_link m = link_of m.edge

unfoldable pub point_link : Map → ℕ → ℕ
point_link m = point_link_by (has_helper m)

unfoldable pub note : Map → ℕ → Note
note m = note_in m.notes

-- "edge link, then point link"
unfoldable pub face_link : Map → ℕ → ℕ
face_link m d = point_link m (edge_link m d)

-- the darts of the points lie below this bound
abbrev pub dart_bound : Map → ℕ
dart_bound m = own m.count

-- "the empty map, which is the sound map without points"
unfoldable pub empty_map : Map
empty_map =
    record {
      points = replicate point_limit origin;
      helpers = replicate point_limit false;
      edge = table dart_limit (λ d. d);
      notes = replicate point_limit no_note;
      count = 0;
      reference = no_dart;
    }

-- the points of a map, in their order
abbrev pub map_points : Map → List Point
map_points m = table m.count (point m)
