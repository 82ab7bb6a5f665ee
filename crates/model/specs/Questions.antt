-- The starred questions of document 01, "Oral questions", as one list with their expected answers,
-- and the one check over it, which the prover computes from the definitions. Request 106 withdraws
-- number 5 and its case, (2,2) after four points: what that offer gets now is one of our questions.
use mathlib.Core.List.{List, [], ◌∷◌, map, flat_map, flatten}
use Rattle.std.specs.Prelude.{ℕ, ◌+◌, ◌^◌, T, ℤ, pos, neg_ℤ, take, replicate}
use Rattle.std.specs.declared.result.Result.{Result}
use Rattle.std.specs.declared.result.Result.TheVariants.{Ok, Err}
use Rattle.finite.specs.Bounded.{all, any, sum, count, one_if, table_onto, table}
use Rattle.finite.specs.Lists.{elem, same_by, same_list, all_in, all_places, any_in, count_in, first_in, before, beyond, ring, insert, union}
use Rattle.orbits.specs.declared.DartSet.{DartSet}
use Rattle.orbits.specs.Reach.{spread, reached, reaches}
use Rattle.orbits.specs.Classes.{is_least, classes, is_fixed, is_closed, closed_walks}
use Rattle.orbits.specs.Walks.{edge_step, point_step, walk}
use Rattle.orbits.specs.Sets.{bits, set_of}
use Rattle.model.specs.declared.Refusal.{Refusal}
use Rattle.model.specs.declared.Point.{Point}
use Rattle.model.specs.declared.Map.{Map}
use Rattle.model.specs.declared.Kind.{Kind}
use Rattle.model.specs.Spelling.{bytes, decimal, spelt}
use Rattle.model.specs.Refusals.{number, unless}
use Rattle.model.specs.Plane.{at, coordinate_in_range, in_range, same_point, orientation, left_of, visible_from, in_line, beside, sees_edge, oriented, strictly_between, lower}
use Rattle.model.specs.Maps.{note, other_dart, point, has_helper, is_present, edge_link, point_link, face_link, empty_map}
use Rattle.model.specs.Outline.{next_corner, previous_corner, corners_from, outline, sees, visible_edges, lowest_corner, corners}
use Rattle.model.specs.Building.{building_rules, built}
use Rattle.model.specs.Sound.{same_note, agree, sound}
use Rattle.model.specs.Reading.{links_of, number_of, darts, counts, counted, orbit_of, walked}
use Rattle.model.specs.Answers.{oriented_answer, arrival_answer, arrival_of, offer_answer, counted_answer, walked_answer}
use Rattle.model.specs.Arrival.{cut, join, turning_left, turning_right, is_farther, is_beyond, farther, left_corner, right_corner}
use Rattle.model.specs.Arrival.{with_point, alone, pair, spliced, later_point, arrive, is_repeated}
use Rattle.model.specs.Offers.{offer, map_after}
use Rattle.model.specs.History.{extended_by, extended, run_from, run}
use Rattle.model.specs.Saved.{big_endian, complement, block, coordinate, header, notes_length, packed_note, notes_in, saved_in, saved}
use Rattle.model.specs.Text.{is_digit, has_minus, digits, value_after, magnitude, is_number, number_value, line_read, in_first_line, lines}
use Rattle.model.specs.Report.{spaced, printed, offer_line, closing, arrivals, report}

-- what the definitions say, and what document 01 says
pub record Question : Type 0 where
  pub said : List ℕ
  pub right : List ℕ

infix 10 ◌is◌
abbrev pub ◌is◌ : List ℕ → List ℕ → Question
said is right = record { said = said; right = right }

-- the session's points, and the map after a list of offers
unfoldable pub session : List Point
session =
    at (pos 0) (pos 0) ∷ at (pos 4) (pos 0) ∷ at (pos 1) (pos 3) ∷ at (pos 5) (pos 4) ∷ at (pos 2) (pos 1)
    ∷ at (pos 6) (pos 7)
    ∷ []

unfoldable pub after : ℕ → Map
after n = (run (take n session)).map

offered : Map → ℤ → ℤ → List ℕ
offered m x y = printed (offer_answer (offer m (at x y)))

words_of : Result DartSet Refusal → List ℕ
words_of (Ok s) = s.words
words_of (Err r) = []

size_of : Result DartSet Refusal → List ℕ
size_of (Ok s) = s.size ∷ []
size_of (Err r) = []

orientation_of : Point → Point → Point → List ℕ
orientation_of a b c = printed (oriented_answer (oriented a b c))

counts_of : Map → List ℕ
counts_of m = printed (counted_answer (counted m))

-- the end of document 01's range, at which its question of the largest orientation stays
million : ℤ
million = pos 1_000_000

-- "(* marked)", in the document's order
pub questions : List Question
questions =
    -- the session, byte for byte
    (report (bytes "0 0\n4 0\n1 3\n5 4\n2 1\n6 7\n")
    is bytes
    "OUTLINE 1\n0 first\n1 second\n2 outside 1 0 1\n3 outside 1 2 1\n4 inside\n5 outside 1 2 2\ncorners 0 1 5 2\ncounts 11 6 7 4 3\n")
    -- with edge links 2-11, 10-5, 6 and 7 fixed
    ∷ (map (edge_link (after 6)) (2 ∷ 11 ∷ 10 ∷ 5 ∷ 6 ∷ 7 ∷ []) is 11 ∷ 2 ∷ 5 ∷ 10 ∷ 6 ∷ 7 ∷ [])
    -- the inner face, and both walks
    ∷ (words_of (orbit_of (after 6) Kind.Face 0) is (2 ^ 0 + 2 ^ 2 + 2 ^ 4 + 2 ^ 10) ∷ replicate 15 0)
    ∷ (size_of (orbit_of (after 6) Kind.Face 0) is 4 ∷ [])
    ∷ (printed (walked_answer (walked (after 6) 0)) is bytes "home 0 8\n")
    ∷ (printed (walked_answer (walked (after 6) 6)) is bytes "loose 6 0\n")
    -- counts of none, one and two points
    ∷ (counts_of (after 0) is bytes "counts 0 0 0 0 0\n")
    ∷ (counts_of (after 1) is bytes "counts 1 1 1 1 1\n")
    ∷ (counts_of (after 2) is bytes "counts 4 2 2 2 1\n")
    -- the three orientations
    ∷ (orientation_of (at (pos 0) (pos 0)) (at (pos 4) (pos 0)) (at (pos 1) (pos 3)) is bytes "orientation 12\n")
    ∷ (orientation_of (at (pos 4) (pos 0)) (at (pos 0) (pos 0)) (at (pos 1) (pos 3)) is bytes "orientation -12\n")
    ∷ (orientation_of (at (neg_ℤ million) (neg_ℤ million)) (at million (neg_ℤ million)) (at million million)
    is bytes "orientation 4000000000000\n")
    -- refusals after four points, and at the end of the range, which request 105 has moved
    ∷ (offered (after 4) (pos 4) (pos 0) is bytes "refused 4\n")
    ∷ (offered (after 0) (pos 1_000_000_000) (pos 0) is bytes "first\n")
    ∷ (offered (after 0) (pos 1_000_000_001) (pos 0) is bytes "refused 3\n")
    -- the empty map saved
    ∷ (saved (after 0) is 0 ∷ 0 ∷ 0 ∷ 5 ∷ 2 ∷ 0 ∷ 0 ∷ 4 ∷ 0 ∷ [])
    ∷ []

-- one check over the list
pub answers_are_right : T (all_in (λ q. same_list q.said q.right) questions)
unfolding table_onto all any sum count one_if table elem all_in all_places any_in count_in
    first_in before beyond ring insert union flat_map flatten spread reached reaches is_least
    classes is_fixed is_closed closed_walks edge_step point_step walk bits set_of bytes decimal
    spelt number unless coordinate_in_range in_range same_point orientation left_of visible_from
    in_line beside sees_edge strictly_between lower other_dart point has_helper is_present
    edge_link point_link face_link empty_map next_corner previous_corner corners_from outline sees visible_edges
    lowest_corner corners note same_note agree building_rules built sound links_of number_of darts counts counted
    orbit_of words_of size_of walked oriented_answer arrival_answer arrival_of map_after counted_answer walked_answer oriented cut join
    turning_left turning_right is_farther is_beyond farther left_corner right_corner with_point
    alone pair spliced later_point arrive is_repeated offer extended_by extended run_from run
    big_endian complement block coordinate header notes_length packed_note notes_in saved_in is_digit has_minus digits value_after magnitude is_number number_value line_read in_first_line lines
    spaced printed offer_line closing arrivals report session after offered orientation_of counts_of million
    questions same_by
answers_are_right = tt
