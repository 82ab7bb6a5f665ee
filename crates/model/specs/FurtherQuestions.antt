-- Questions of ours, beside document 01's (specs/Questions): one list with the answers that
-- document 01's sentences give, and one check over it. They pin what no starred question looks at,
-- in the order of this page: every case of every answer; every limit; what is unsound; the
-- session's two sums, its orbits and walkers; where a point lies; marks along a rail; lent lists; files;
-- lines of text.
use Rattle.std.specs.Prelude.{⊤, Bool, true, false, ℕ, ◌+◌, ◌*◌, T, ℤ, pos, neg_ℤ, length, take, drop, set, replicate}
use mathlib.Core.List.{List, [], ◌∷◌, ◌++◌, map, flat_map, flatten}
use Prim.Native.String.{String}
use Rattle.finite.specs.Bounded.{all, any, sum, count, one_if, table_onto, table}
use Rattle.finite.specs.Lists.{elem, same_by, same_list, all_in, all_places, any_in, count_in, first_in, before, beyond}
use Rattle.finite.specs.Lists.{total, ring, insert, union}
use Rattle.std.specs.declared.result.Result.TheVariants.{Ok, Err}
use Rattle.orbits.specs.declared.Ending.{Ending}
use Rattle.orbits.specs.declared.Walk.{Walk}
use Rattle.orbits.specs.declared.DartSet.{DartSet}
use Rattle.orbits.specs.Reach.{spread, reached, reaches}
use Rattle.orbits.specs.Classes.{is_least, classes, is_fixed, is_closed, closed_walks}
use Rattle.orbits.specs.Walks.{walker_at}
use Rattle.orbits.specs.Sets.{dart_limit, bits, set_of}
use Rattle.model.specs.declared.Refusal.{Refusal}
use Rattle.model.specs.declared.Point.{Point}
use Rattle.model.specs.declared.Note.{Note}
use Rattle.model.specs.declared.Map.{Map}
use Rattle.model.specs.declared.Arrival.{Arrival}
use Rattle.model.specs.declared.Kind.{Kind}
use Rattle.model.specs.declared.Link.{Link}
use Rattle.model.specs.declared.Counts.{Counts}
use Rattle.model.specs.declared.Placed.{Placed}
use Rattle.model.specs.Spelling.{bytes, space, decimal, spelt}
use Rattle.model.specs.Refusals.{number, Rule, unless}
use Rattle.model.specs.Answers.{Answer, answer_of, oriented_answer, arrival_answer, arrival_of, offer_answer, outcome_answer}
use Rattle.model.specs.Answers.{orbit_answer, counted_answer, walked_answer, moved_answer}
use Rattle.model.specs.Answers.{placed_answer, doubled_answer, marked_answer, written_answer, line_answer}
use Rattle.model.specs.Plane.{coordinate_limit, coordinate_in_range, in_range, at, origin}
use Rattle.model.specs.Plane.{same_point, orientation, orientation_limit, left_of}
use Rattle.model.specs.Plane.{visible_from, in_line, beside, sees_edge, strictly_between}
use Rattle.model.specs.Plane.{lower}
use Rattle.model.specs.Maps.{note, point_limit, no_dart, other_dart, point, has_helper, is_present}
use Rattle.model.specs.Maps.{edge_link, point_link, face_link, empty_map}
use Rattle.model.specs.Outline.{next_corner, previous_corner, corners_from, outline, sees}
use Rattle.model.specs.Outline.{visible_edges, lowest_corner, corners}
use Rattle.model.specs.Building.{building_rules, built}
use Rattle.model.specs.Sound.{same_note, agree, sound}
use Rattle.model.specs.Reading.{links_of, number_of, darts, counts, orbit_set, walker_call}
use Rattle.model.specs.Arrival.{cut, join, turning_left, turning_right, is_farther, is_beyond}
use Rattle.model.specs.Arrival.{farther, left_corner, right_corner, with_point, alone, pair}
use Rattle.model.specs.Arrival.{spliced, later_point, arrive, is_repeated, admission_rules}
use Rattle.model.specs.Offers.{offer, map_after}
use Rattle.model.specs.History.{Entry, Run, extended_by, extended, run_from, run, reported}
use Rattle.model.specs.History.{reported_edges, is_outside, outside_arrivals, edges_seen}
use Rattle.model.specs.Placing.{strictly_visible, place_among, place_call}
use Rattle.model.specs.Lent.{writing, lent_after}
use Rattle.model.specs.Saved.{version, old_version, big_endian, number_at, complement, signed, block}
use Rattle.model.specs.Saved.{version_place, count_place, reference_place, header_length}
use Rattle.model.specs.Saved.{helpers_place, links_place, notes_place, saved_length, following, coordinate}
use Rattle.model.specs.Saved.{header, notes_length, packed_note, notes_in, saved_in, saved, file_in_form_of, file_in_form, map_in}
use Rattle.model.specs.Saved.{load_call}
use Rattle.model.specs.Text.{digit_limit, is_digit, has_minus, digits, value_after, magnitude}
use Rattle.model.specs.Text.{is_number, number_value, line_read, in_first_line, lines}
use Rattle.model.specs.Text.{one_line, line_call}
use Rattle.model.specs.Report.{text_limit, spaced, printed, offer_line, closing, arrivals}
use Rattle.model.specs.Report.{report}
use Rattle.model.specs.Questions.{Question, ◌is◌, session, after}

-- ---- answers: the number, the word and the values

told : Answer → List ℕ
told a = a.number ∷ printed a

-- the answer that a text spells, where the call is served
says : String → List ℕ
says text = 0 ∷ bytes text

-- .. and where it gets 10
short : List ℕ
short = 10 ∷ bytes "refused 10\n"

refusals : List Refusal
refusals =
    Refusal.NotSound ∷ Refusal.Full ∷ Refusal.OutOfRange ∷ Refusal.Repeated ∷ Refusal.NoDart
    ∷ Refusal.BadFile
    ∷ Refusal.BadLine
    ∷ Refusal.LongText
    ∷ Refusal.ShortList
    ∷ Refusal.BadOutline
    ∷ Refusal.NoSurvey
    ∷ []

-- answers with values that all differ
three_words : DartSet
three_words = record { words = 7 ∷ 8 ∷ []; size = 9 }

five_counts : Counts
five_counts = record { darts = 1; vertices = 2; edges = 3; faces = 4; parts = 5 }

walk_to : Ending → Walk
walk_to ending = record { last = 1; ending = ending; moves = 2 }

answers : List Question
answers =
    -- 5 is withdrawn
    (map number refusals is 1 ∷ 2 ∷ 3 ∷ 4 ∷ 6 ∷ 7 ∷ 8 ∷ 9 ∷ 10 ∷ 11 ∷ 12 ∷ [])
    ∷ (told (oriented_answer (Ok (neg_ℤ (pos 12)))) is says "orientation -12\n")
    ∷ (told (oriented_answer (Err Refusal.ShortList)) is short)
    ∷ (told (arrival_answer (Ok Arrival.First)) is says "first\n")
    ∷ (told (arrival_answer (Ok Arrival.Second)) is says "second\n")
    ∷ (told (arrival_answer (Ok Arrival.Inside)) is says "inside\n")
    ∷ (told (arrival_answer (Ok (Arrival.Outside 1 2 3))) is says "outside 1 2 3\n")
    ∷ (told (arrival_answer (Err Refusal.ShortList)) is short)
    ∷ (told (outcome_answer {A = ⊤} (Ok tt)) is says "served\n")
    ∷ (told (outcome_answer {A = ⊤} (Err Refusal.ShortList)) is short)
    ∷ (told (orbit_answer (Ok three_words)) is says "orbit 7 8 9\n")
    ∷ (told (orbit_answer (Err Refusal.ShortList)) is short)
    ∷ (told (counted_answer (Ok five_counts)) is says "counts 1 2 3 4 5\n")
    ∷ (told (counted_answer (Err Refusal.ShortList)) is short)
    ∷ (told (walked_answer (Ok (walk_to Ending.Home))) is says "home 1 2\n")
    ∷ (told (walked_answer (Ok (walk_to Ending.Loose))) is says "loose 1 2\n")
    ∷ (told (walked_answer (Err Refusal.ShortList)) is short)
    ∷ (told (moved_answer (Ok (walker_at 5))) is says "dart 5\n")
    ∷ (told (moved_answer (Err Refusal.ShortList)) is short)
    ∷ (told (placed_answer (Ok Placed.NoOutline)) is says "none\n")
    ∷ (told (placed_answer (Ok (Placed.Corner 1))) is says "corner 1\n")
    ∷ (told (placed_answer (Ok (Placed.Edge 1 2))) is says "edge 1 2\n")
    ∷ (told (placed_answer (Ok Placed.Inside)) is says "inside\n")
    ∷ (told (placed_answer (Ok (Placed.Outside 1))) is says "outside 1\n")
    ∷ (told (placed_answer (Err Refusal.ShortList)) is short)
    ∷ (told (doubled_answer (Ok (pos 39))) is says "area 39\n")
    ∷ (told (doubled_answer (Err Refusal.ShortList)) is short)
    ∷ (told (marked_answer (Ok true)) is says "right\n")
    ∷ (told (marked_answer (Ok false)) is says "wrong\n")
    ∷ (told (marked_answer (Err Refusal.ShortList)) is short)
    ∷ (told (written_answer (Ok 1)) is says "length 1\n")
    ∷ (told (written_answer (Err Refusal.ShortList)) is short)
    ∷ (told (line_answer (Ok (at (pos 1) (neg_ℤ (pos 2))))) is says "point 1 -2\n")
    ∷ (told (line_answer (Err Refusal.ShortList)) is short)
    ∷ []

-- ---- limits

-- the number by the first rule that applies, 0 where none does
number_of_rules : List Rule → ℕ
number_of_rules rules = unless number rules 0

-- a map of so many points, all at the origin, as the rules of an offer see it
crowded : ℕ → Map
crowded n = record { points = []; helpers = []; edge = []; notes = []; count = n; reference = no_dart }

-- the end of the range, and one beyond it
far : ℤ
far = pos 1_000_000_000

beyond_far : ℤ
beyond_far = pos 1_000_000_001

limits : List Question
limits =
    (coordinate_limit ∷ point_limit ∷ dart_limit ∷ no_dart ∷ digit_limit ∷ text_limit ∷ version ∷ []
    is 1_000_000_000 ∷ 512 ∷ 1_024 ∷ 1_024 ∷ 10 ∷ 65_536 ∷ 2 ∷ [])
    -- "from -1,000,000,000 to 1,000,000,000", in both coordinates
    ∷ (map (λ p. one_if (in_range p))
    (at far (neg_ℤ far) ∷ at (neg_ℤ far) far ∷ at beyond_far (pos 0) ∷ at (neg_ℤ beyond_far) (pos 0)
    ∷ at (pos 0) beyond_far
    ∷ at (pos 0) (neg_ℤ beyond_far)
    ∷ [])
    is 1 ∷ 1 ∷ 0 ∷ 0 ∷ 0 ∷ 0 ∷ [])
    -- "from -4 × 10^18 to 4 × 10^18": both are attained
    ∷ (spelt (pos orientation_limit) is bytes "4000000000000000000")
    ∷ (spelt (orientation (at (neg_ℤ far) (neg_ℤ far)) (at far (neg_ℤ far)) (at far far))
    is bytes "4000000000000000000")
    ∷ (spelt (orientation (at far (neg_ℤ far)) (at (neg_ℤ far) (neg_ℤ far)) (at far far))
    is bytes "-4000000000000000000")
    -- "512 points already", and one fewer: the place that is looked at next holds an equal point
    ∷ (map (λ n. number_of_rules (admission_rules (crowded n) origin)) (512 ∷ 511 ∷ [])
    is 2 ∷ 4 ∷ [])
    -- "The whole is 9 + 13 × n bytes", "A version 2 file is 9 + 18 × n bytes", and where their parts stand
    ∷ (version_place ∷ count_place ∷ reference_place ∷ header_length ∷ [] is 4 ∷ 5 ∷ 7 ∷ 9 ∷ [])
    ∷ (helpers_place 6 ∷ links_place 6 ∷ notes_place 6 ∷ [] is 57 ∷ 63 ∷ 87 ∷ [])
    ∷ (saved_length 1 6 ∷ following 1 6 ∷ saved_length 2 6 ∷ following 2 6 ∷ [] is 87 ∷ 83 ∷ 117 ∷ 113 ∷ [])
    ∷ (saved_length 1 0 ∷ saved_length 1 512 ∷ saved_length 2 0 ∷ saved_length 2 512 ∷ []
    is 9 ∷ 6_665 ∷ 9 ∷ 9_225 ∷ [])
    ∷ []

-- ---- sound maps

-- the first points of the session, and two points more inside
five : Map
five =
    (run
    (at (pos 0) (pos 0) ∷ at (pos 4) (pos 0) ∷ at (pos 1) (pos 3) ∷ at (pos 2) (pos 1)
    ∷ at (pos 1) (pos 1)
    ∷ [])
    ).map

-- a map with some of its fields changed
with_points : List Point → Map → Map
with_points points m =
    record {
      points = points;
      helpers = m.helpers;
      edge = m.edge;
      notes = m.notes;
      count = m.count;
      reference = m.reference;
    }

-- point k with another x
with_x : ℕ → ℤ → Map → Map
with_x k x m = with_points (set m.points k (at x (point m k).y)) m

with_links : List Bool → List ℕ → Map → Map
with_links helpers edge m =
    record {
      points = m.points;
      helpers = helpers;
      edge = edge;
      notes = m.notes;
      count = m.count;
      reference = m.reference;
    }

with_reference : ℕ → Map → Map
with_reference d m =
    record {
      points = m.points;
      helpers = m.helpers;
      edge = m.edge;
      notes = m.notes;
      count = m.count;
      reference = d;
    }

with_notes : List Note → Map → Map
with_notes notes m =
    record {
      points = m.points;
      helpers = m.helpers;
      edge = m.edge;
      notes = notes;
      count = m.count;
      reference = m.reference;
    }

-- another note of point k
with_note : ℕ → Note → Map → Map
with_note k n m = with_notes (set m.notes k n) m

-- the freed darts of a note exchanged
exchanged : Note → Note
exchanged n = record { arrival = n.arrival; left = n.right; right = n.left }

-- the points 3 and 4 with helpers, and with these edge links of darts 6 to 9
chained : ℕ → ℕ → ℕ → ℕ → Map → Map
chained a b c d m =
    with_links (set (set m.helpers 3 true) 4 true)
    (set (set (set (set m.edge 6 a) 7 b) 8 c) 9 d) m

-- one map for each sentence of "A sound map": all else of it holds there
unsound_maps : Map → Map → Map → List Map
unsound_maps one two m =
    -- an array too long
    with_points (m.points ++ origin ∷ []) m
    -- a point out of range, two points that are equal, and a place without a point that holds 1, 0
    ∷ with_x 1 beyond_far two
    ∷ with_x 1 (pos 0) two
    ∷ with_x 5 (pos 1) m
    -- a helper, and a link, of a place without a point
    ∷ with_links (set m.helpers 5 true) m.edge m
    ∷ with_links m.helpers (set m.edge 10 11) m
    -- a link that does not come back, one between own darts, and one of a point without helper
    ∷ chained 1 7 8 9 m
    ∷ chained 8 7 6 9 m
    ∷ with_links (set m.helpers 4 true) (set (set m.edge 6 9) 9 6) m
    -- a second closed walk, a reference that is a helper, and a point outside
    ∷ chained 9 8 7 6 m
    ∷ with_reference 5 m
    ∷ with_x 3 (pos 9) m
    -- one point with a helper, and with a reference
    ∷ with_links (set one.helpers 0 true) one.edge one
    ∷ with_reference 0 one
    ∷ []

-- their points build another map: helpers without an edge, another chain within the outline, another
-- reference. That all of document 01's sentences hold of a map like the last is `another_reference` of
-- hull/proofs/Sound.
other_maps : Map → List Map
other_maps m = chained 6 7 8 9 m ∷ chained 9 7 8 6 m ∷ with_reference 0 m ∷ []

-- another arrival, another freed dart, the freed darts exchanged, and a note at a place without a point
other_notes : Map → List Map
other_notes m =
    with_note 4 (record { arrival = 3; left = (note m 4).left; right = (note m 4).right }) m
    ∷ with_note 5 (record { arrival = (note m 5).arrival; left = 1025; right = (note m 5).right }) m
    ∷ with_notes (map exchanged m.notes) m
    ∷ with_note 6 (record { arrival = (note m 6).arrival; left = (note m 6).left; right = 0 }) m
    ∷ []

soundness : Map → Map → Map → Map → List Question
soundness one two m six =
    (map (λ m. one_if (sound m)) (empty_map ∷ one ∷ two ∷ m ∷ six ∷ []) is replicate 5 1)
    ∷ (map (λ m. one_if (sound m)) (unsound_maps one two m ++ other_maps m ++ other_notes six) is replicate 21 0)
    ∷ []

-- ---- notes

noted_of : Map → ℕ → List ℕ
noted_of m k = (note m k).arrival ∷ (note m k).left ∷ (note m k).right ∷ []

-- ---- reading

-- the numbers of darts of the orbits of a dart, and where a walker comes by no link and by each
orbit_sizes : Map → ℕ → List ℕ
orbit_sizes m d =
    map (λ kind. (orbit_set m kind d).size) (Kind.Edge ∷ Kind.Vertex ∷ Kind.Face ∷ Kind.Part ∷ [])

moves : Map → ℕ → List (List ℕ)
moves m d =
    map (λ link. told (moved_answer (Ok (walker_call m link d).value)))
    (Link.None ∷ Link.Edge ∷ Link.Point ∷ [])

-- where points lie
placings : Map → List Point → List (List ℕ)
placings m ps = map (λ p. told (placed_answer (Ok (place_call m p).value))) ps

-- both sides of the two sums
sums : Run → List ℕ
sums r =
    (number_of r.map Kind.Vertex + number_of r.map Kind.Edge + number_of r.map Kind.Face)
    ∷ (darts r.map + 2 * number_of r.map Kind.Part)
    ∷ (total (map reported_edges r.history) + length (outline r.map))
    ∷ (2 * outside_arrivals r.history + 2)
    ∷ []

-- of the session
of_session : Run → List Question
of_session r =
    -- "6 + 7 + 4 - 11 = 2 × 3 and 1 + 1 + 2 + 4 = 2 × 3 + 2"
    (sums r is (6 + 7 + 4) ∷ (11 + 2 * 3) ∷ (1 + 1 + 2 + 4) ∷ (2 * 3 + 2) ∷ [])
    -- "which is the number of outline edges visible from its point in the map before it"
    ∷ (map reported_edges r.history is 0 ∷ 0 ∷ 1 ∷ 1 ∷ 0 ∷ 2 ∷ [])
    ∷ (map edges_seen r.history is 0 ∷ 0 ∷ 1 ∷ 1 ∷ 0 ∷ 2 ∷ [])
    -- "reference 2k", "reference kept": the last point, 5, is outside
    ∷ (map (λ (e : Entry). e.before.reference) r.history is 1024 ∷ 1024 ∷ 2 ∷ 4 ∷ 6 ∷ 6 ∷ [])
    ∷ (r.map.reference ∷ [] is 10 ∷ [])
    -- what is noted of the points, and of a place without one
    ∷ (flat_map (noted_of r.map) (0 ∷ 1 ∷ 2 ∷ 3 ∷ 4 ∷ 5 ∷ 6 ∷ [])
    is 0 ∷ 1024 ∷ 1024 ∷ 1 ∷ 1024 ∷ 1024 ∷ 3 ∷ 1024 ∷ 1024 ∷ 3 ∷ 1024 ∷ 1024 ∷ 2 ∷ 1024 ∷ 1024 ∷ 3 ∷ 7 ∷ 6
    ∷ 0
    ∷ 1024
    ∷ 1024
    ∷ [])
    -- "A fixed dart is an edge orbit of one"
    ∷ (orbit_sizes r.map 6 is 1 ∷ 2 ∷ 2 ∷ 2 ∷ [])
    ∷ (orbit_sizes r.map 2 is 2 ∷ 2 ∷ 4 ∷ 8 ∷ [])
    ∷ (flatten (moves r.map 2)
    is flatten (says "dart 2\n" ∷ says "dart 11\n" ∷ says "dart 3\n" ∷ []))
    -- a corner, an edge, inside, outside
    ∷ (flatten
    (placings r.map
    (at (pos 4) (pos 0) ∷ at (pos 2) (pos 0) ∷ at (pos 5) (pos 4) ∷ at (pos 10) (pos 0) ∷ []))
    is flatten (says "corner 1\n" ∷ says "edge 0 1\n" ∷ says "inside\n" ∷ says "outside 1\n" ∷ []))
    ∷ []

-- of the maps of no point, of one and of two
of_few : Map → Map → Map → List Question
of_few none one two =
    -- "none" with fewer than two points
    (flatten (placings one (origin ∷ [])) is says "none\n")
    -- of two edges the first in listing order; beyond both ends no edge is visible
    ∷ (flatten (placings two (at (pos 2) (pos 0) ∷ at (pos 5) (pos 0) ∷ at (pos 2) (pos 1) ∷ []))
    is flatten (says "edge 0 1\n" ∷ says "outside 0\n" ∷ says "outside 1\n" ∷ []))
    ∷ (number_of_rules (place_call none (at beyond_far (pos 0))).rules ∷ [] is 3 ∷ [])
    -- the reference of none, one and two points: "1,024 means none", "reference 2"
    ∷ (map (λ (m : Map). m.reference) (none ∷ one ∷ two ∷ []) is 1024 ∷ 1024 ∷ 2 ∷ [])
    -- "from the smallest y, then the smallest x"
    ∷ (corners (run (at (pos 0) (pos 1) ∷ at (pos 1) (pos 0) ∷ at (pos 2) (pos 2) ∷ [])).map
    is 1 ∷ 2 ∷ 0 ∷ [])
    ∷ []

-- ---- marks along a rail

rail : List Point
rail = at (pos 0) (pos 0) ∷ at (pos 2) (pos 0) ∷ at (pos 4) (pos 0) ∷ []

of_rail : Run → List Question
of_rail r =
    -- the edge links 0-5 and 4-1, those of the point between fixed, and reference 4
    (map (edge_link r.map) (0 ∷ 5 ∷ 4 ∷ 1 ∷ 2 ∷ 3 ∷ []) is 5 ∷ 0 ∷ 1 ∷ 4 ∷ 2 ∷ 3 ∷ [])
    ∷ (r.map.reference ∷ [] is 4 ∷ [])
    ∷ (sums r is (3 + 4 + 3) ∷ (6 + 2 * 2) ∷ (2 + 2) ∷ (2 * 1 + 2) ∷ [])
    -- "Placing a point keeps its old count of strictly visible edges"; the point between is on both edges
    ∷ (flatten
    (placings r.map
    (at (pos 6) (pos 0) ∷ at (neg_ℤ (pos 1)) (pos 0) ∷ at (pos 2) (pos 0) ∷ at (pos 1) (pos 1) ∷ []))
    is flatten (says "outside 0\n" ∷ says "outside 0\n" ∷ says "edge 0 2\n" ∷ says "outside 1\n" ∷ []))
    -- "or zero and lie between the edge's ends": sound, and with the point between moved beyond an end not
    ∷ (map (λ x. one_if (sound (with_x 1 x r.map))) (pos 3 ∷ pos 5 ∷ []) is 1 ∷ 0 ∷ [])
    -- the farther corner's edges are those that the new point frees
    ∷ (noted_of r.map 2 is 3 ∷ 3 ∷ 2 ∷ [])
    ∷ []

rails : List Question
rails =
    (report (bytes "0 0\n2 0\n4 0\n")
    is bytes "OUTLINE 1\n0 first\n1 second\n2 outside 0 0 2\ncorners 0 2\ncounts 6 3 4 3 2\n")
    -- beyond the other end; on the rail between its ends; beside it
    ∷ (report (bytes "0 0\n2 0\n4 0\n-2 0\n1 0\n1 1\n")
    is bytes
    "OUTLINE 1\n0 first\n1 second\n2 outside 0 0 2\n3 outside 2 2 2\n4 inside\n5 outside 2 3 1\ncorners 3 2 5\ncounts 11 6 8 5 4\n")
    -- a point on the line of an edge of three or more, beyond its end: the corner there leaves
    ∷ (report (bytes "0 0\n4 0\n4 4\n0 4\n6 0\n")
    is bytes
    "OUTLINE 1\n0 first\n1 second\n2 outside 1 0 1\n3 outside 2 0 1\n4 outside 0 2 2\ncorners 0 4 2 3\ncounts 10 5 6 3 2\n")
    -- "A point on an edge arrives as inside": of the session's first triangle, and (2,2) after four points
    ∷ (printed (offer_answer (offer (after 3) (at (pos 2) (pos 0)))) is bytes "inside\n")
    ∷ (printed (offer_answer (offer (after 4) (at (pos 2) (pos 2)))) is bytes "inside\n")
    -- "strictly between whose ends it lies": a point between them, both ends, and a point beyond
    ∷ (map (λ x. one_if (strictly_between (at (pos 0) (pos 0)) (at (pos 4) (pos 0)) (at (pos x) (pos 0))))
    (1 ∷ 0 ∷ 4 ∷ 5 ∷ [])
    is 1 ∷ 0 ∷ 0 ∷ 0 ∷ [])
    ∷ []

-- ---- lent lists and files

-- the file of one point with a negative coordinate, in both versions
one_point_old : List ℕ
one_point_old =
    0 ∷ 0 ∷ 0 ∷ 18 ∷ 1 ∷ 0 ∷ 1 ∷ 4 ∷ 0 ∷ 255 ∷ 255 ∷ 255 ∷ 254 ∷ 59 ∷ 154 ∷ 202 ∷ 0 ∷ 0 ∷ 0 ∷ 0 ∷ 0
    ∷ 1
    ∷ []

one_point : List ℕ
one_point = set (set one_point_old 3 23) 4 2 ++ 0 ∷ 4 ∷ 0 ∷ 4 ∷ 0 ∷ []

-- the same with these bytes for its other coordinate
with_y : List ℕ → List ℕ
with_y y = take 13 one_point ++ y ++ drop 17 one_point

-- the numbers that files get
file_numbers : List (List ℕ) → List ℕ
file_numbers = map (λ s. number_of_rules (load_call s).rules)

-- two, old: the file of two points in both versions; rail-file: that of three points on a rail
files : List ℕ → List ℕ → List ℕ → List Question
files two old rail_file =
    -- "lent list shorter than the result; a longer one keeps its tail"
    (map (λ lent. number_of_rules (writing {A = ℕ} [] (1 ∷ 2 ∷ []) lent).rules)
    ((7 ∷ []) ∷ (7 ∷ 8 ∷ []) ∷ [])
    is 10 ∷ 0 ∷ [])
    ∷ (flat_map (λ lent. lent_after (writing {A = ℕ} [] (1 ∷ 2 ∷ []) lent).rules (1 ∷ 2 ∷ []) lent)
    ((7 ∷ []) ∷ (7 ∷ 8 ∷ 9 ∷ []) ∷ [])
    is 7 ∷ 1 ∷ 2 ∷ 9 ∷ [])
    -- two's complement, both ways
    ∷ (saved (run (at (neg_ℤ (pos 2)) far ∷ [])).map is one_point)
    ∷ (saved_in old_version (run (at (neg_ℤ (pos 2)) far ∷ [])).map is one_point_old)
    ∷ (saved (map_in one_point) is one_point)
    -- "Version 1 files are still read, their records rebuilt"
    ∷ (saved (map_in one_point_old) is one_point)
    ∷ (file_numbers (two ∷ old ∷ rail_file ∷ one_point ∷ one_point_old ∷ (0 ∷ 0 ∷ 0 ∷ 5 ∷ 1 ∷ 0 ∷ 0 ∷ 4 ∷ 0 ∷ []) ∷ [])
    is replicate 6 0)
    -- of both versions another reference, a helper and a link wrong; of version 2 another arrival, a left and
    -- a right freed dart above 1,024, and the freed darts exchanged
    ∷ (file_numbers
    (set two 8 0 ∷ set old 8 0 ∷ set two 26 0 ∷ set old 26 0 ∷ set two 28 1 ∷ set old 28 1 ∷ set two 40 2
    ∷ set two 37 1
    ∷ set two 39 1
    ∷ (take 60 rail_file ++ 2 ∷ 0 ∷ 3 ∷ [])
    ∷ [])
    is replicate 10 1)
    ∷ (flat_map (λ n. spelt (signed n)) (2_147_483_647 ∷ 2_147_483_648 ∷ 4_294_967_295 ∷ [])
    is bytes "2147483647-2147483648-1")
    -- 4 bytes hold more than the range: its two ends, what lies beyond them, and the ends of 4 bytes
    ∷ (map (λ y. number_of_rules (load_call (with_y y)).rules)
    ((59 ∷ 154 ∷ 202 ∷ 0 ∷ []) ∷ (196 ∷ 101 ∷ 54 ∷ 0 ∷ []) ∷ (59 ∷ 154 ∷ 202 ∷ 1 ∷ [])
    ∷ (196 ∷ 101 ∷ 53 ∷ 255 ∷ [])
    ∷ (127 ∷ 255 ∷ 255 ∷ 255 ∷ [])
    ∷ (128 ∷ 0 ∷ 0 ∷ 0 ∷ [])
    ∷ [])
    is 0 ∷ 0 ∷ 1 ∷ 1 ∷ 1 ∷ 1 ∷ [])
    -- under 9 bytes; one byte more; the length, the version and a helper byte wrong; the length of the other
    -- version; an arrival above 3; n above 512
    ∷ (file_numbers
    (take 8 two ∷ (two ++ 0 ∷ []) ∷ (old ++ 0 ∷ []) ∷ set two 3 42 ∷ set old 3 32 ∷ set two 4 3 ∷ set two 4 0
    ∷ set two 25 2
    ∷ set old 25 2
    ∷ set old 4 2
    ∷ set two 4 1
    ∷ take 35 two
    ∷ set two 35 4
    ∷ set two 40 4
    ∷ (header version 513 no_dart ++ replicate (18 * 513) 0)
    ∷ (header old_version 513 no_dart ++ replicate (13 * 513) 0)
    ∷ [])
    is replicate 16 7)
    ∷ []

-- ---- texts

-- the number of a line
number_of_line : String → ℕ
number_of_line text = (line_answer (line_read (bytes text))).number

-- what a line says that is lent by itself
lent_line : String → List ℕ
lent_line text = told (line_answer (answer_of (line_call (bytes text))))

texts : List Question
texts =
    (told (line_answer (line_read (bytes "-1234567890 0"))) is says "point -1234567890 0\n")
    -- no digit, eleven digits, a leading zero, -0, a sign that is none, and spaces and numbers too
    -- many or too few
    ∷ (map number_of_line
    ("" ∷ " " ∷ "1" ∷ "1 " ∷ " 1" ∷ "- 1" ∷ "1 -" ∷ "12345678901 0" ∷ "0 12345678901" ∷ "01 0" ∷ "0 00"
    ∷ "-0 0"
    ∷ "0 -0"
    ∷ "+1 0"
    ∷ "--1 0"
    ∷ "1  2"
    ∷ " 1 2"
    ∷ "1 2 "
    ∷ "1 2 3"
    ∷ "1\t2"
    ∷ "a 0"
    ∷ [])
    is replicate 21 8)
    -- "text numbers to 10 digits": ten are out of range where they are above the limit, eleven no number
    ∷ (report (bytes "1000000000 -1000000000\n1000000001 0\n0 -9999999999\n10000000000 0\n")
    is bytes
    "OUTLINE 1\n0 first\n1 refused 3\n2 refused 3\n3 refused 8\ncorners 0\ncounts 1 1 1 1 1\n")
    -- the corners of the range as a survey, and its middle
    ∷ (report (bytes
    "-1000000000 -1000000000\n1000000000 -1000000000\n1000000000 1000000000\n-1000000000 1000000000\n0 0\n")
    is bytes
    "OUTLINE 1\n0 first\n1 second\n2 outside 1 0 1\n3 outside 2 0 1\n4 inside\ncorners 0 1 2 3\ncounts 9 5 5 3 2\n")
    -- "and a line feed; the last feed may be missing, and nothing follows it"
    ∷ (flat_map lent_line ("4 -1\n" ∷ "4 -1" ∷ []) is says "point 4 -1\n" ++ says "point 4 -1\n")
    ∷ (flat_map (λ text. take 1 (lent_line text)) ("4 -1\n\n" ∷ "\n" ∷ "" ∷ "0 0\n4 0" ∷ []) is replicate 4 8)
    -- "the last feed may be missing", "With no points the last two lines are .."
    ∷ (report (bytes "0 0") is report (bytes "0 0\n"))
    ∷ (report [] is bytes "OUTLINE 1\ncorners\ncounts 0 0 0 0 0\n")
    -- "A blank line gets 8; later lines are still read."
    ∷ (report (bytes "\n0 0\n")
    is bytes "OUTLINE 1\n0 refused 8\n1 first\ncorners 0\ncounts 1 1 1 1 1\n")
    -- "text above 65,536 bytes": so many are read, here as one line of spaces; one more "prints the first line
    -- and `refused 9`, no more"
    ∷ (report (replicate 65_536 space) is bytes "OUTLINE 1\n0 refused 8\ncorners\ncounts 0 0 0 0 0\n")
    ∷ (report (replicate 65_537 space) is bytes "OUTLINE 1\nrefused 9\n")
    ∷ []

pub further_questions : List Question
further_questions =
    answers ++ limits ++ soundness (after 1) (after 2) five (after 6) ++ of_session (run session)
    ++ of_few (after 0) (after 1) (after 2)
    ++ of_rail (run rail)
    ++ rails
    ++ files (saved (after 2)) (saved_in old_version (after 2)) (saved (run rail).map)
    ++ texts

-- one check over the list
pub further_answers_are_right : T (all_in (λ q. same_list q.said q.right) further_questions)
unfolding table_onto all any sum count one_if table elem all_in all_places any_in count_in first_in
    before beyond total ring insert union flat_map flatten spread reached reaches is_least classes
    is_fixed is_closed closed_walks bits set_of bytes decimal spelt number unless oriented_answer
    arrival_answer outcome_answer orbit_answer counted_answer walked_answer moved_answer
    placed_answer doubled_answer marked_answer written_answer line_answer coordinate_in_range in_range same_point orientation
    left_of visible_from in_line beside sees_edge strictly_between lower other_dart point has_helper
    is_present edge_link point_link face_link empty_map next_corner previous_corner corners_from
    outline sees visible_edges lowest_corner corners note same_note agree building_rules built sound links_of number_of darts counts
    cut join turning_left turning_right is_farther is_beyond farther left_corner right_corner
    with_point alone pair spliced later_point arrive is_repeated offer extended_by extended run_from
    run reported reported_edges is_outside outside_arrivals edges_seen strictly_visible place_among
    big_endian number_at complement signed block coordinate header notes_length packed_note notes_in saved_in file_in_form_of file_in_form map_in is_digit has_minus
    digits value_after magnitude is_number number_value line_read in_first_line lines one_line spaced printed
    offer_line closing arrivals report session after far same_by told says short refusals
    arrival_of map_after three_words five_counts walk_to answers number_of_rules crowded beyond_far limits five with_points with_x
    with_links with_reference with_notes with_note exchanged chained unsound_maps other_maps other_notes soundness noted_of orbit_sizes moves placings
    sums of_session of_few rail of_rail rails one_point_old one_point with_y file_numbers files number_of_line lent_line texts further_questions
further_answers_are_right = tt
