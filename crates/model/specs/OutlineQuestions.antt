-- Questions of ours about outlines as text (request 101): one list and one check over it, in the order of
-- this page: the request's four texts, written for the session; what they are read as; texts in another
-- spelling, out of range, and of corners that no survey lists; texts of many bytes and of many positions;
-- then how many corners a listing can have, as two laws, which hold whatever the corners are.
use Rattle.std.specs.Prelude.{◌≡◌, refl, false, ◌&&◌, ℕ, T, pos, length, replicate}
use mathlib.Core.List.{List, [], ◌∷◌, ◌++◌, map, flat_map, flatten}
use Prim.Native.String.{String}
use Rattle.finite.specs.Bounded.{all, any, sum, count, one_if, table_onto, table}
use Rattle.finite.specs.Lists.{elem, same_by, same_list, all_in, all_places, any_in, count_in, first_in, ring, insert, union}
use Rattle.orbits.specs.Reach.{spread, reached, reaches}
use Rattle.orbits.specs.Classes.{is_least, classes, is_fixed, is_closed, closed_walks}
use Rattle.model.specs.declared.Point.{Point}
use Rattle.model.specs.Spelling.{bytes, decimal, spelt}
use Rattle.model.specs.Refusals.{number, unless}
use Rattle.model.specs.Plane.{at, coordinate_in_range, in_range, same_point, orientation, left_of, visible_from, in_line, beside, sees_edge, strictly_between, lower}
use Rattle.model.specs.Maps.{note, other_dart, point, has_helper, is_present, edge_link, point_link, empty_map}
use Rattle.model.specs.Outline.{next_corner, previous_corner, corners_from, outline, sees, visible_edges, lowest_corner, corners}
use Rattle.model.specs.Building.{building_rules, built}
use Rattle.model.specs.Sound.{same_note, agree, sound}
use Rattle.model.specs.Arrival.{cut, join, turning_left, turning_right, is_farther, is_beyond, farther, left_corner, right_corner}
use Rattle.model.specs.Arrival.{with_point, alone, pair, spliced, later_point, arrive, is_repeated}
use Rattle.model.specs.Offers.{offer}
use Rattle.model.specs.History.{extended_by, extended, run_from, run}
use Rattle.model.specs.Text.{is_digit, has_minus, digits, value_after, magnitude, is_number, number_value, leading_digits, front}
use Rattle.model.specs.Report.{spaced}
use Rattle.model.specs.Outlines.{point_text, joined, outline_text, corner_points, starts_with, is_word, second, is_position, position, after_position, with_first, positions, positions_in, exactly, ring_of, corners_in, is_some, or_none, is_outline, corners_spelt, lowest_is_first, all_support, listable, outline_rules, coordinates}
use Rattle.model.specs.Questions.{Question, ◌is◌, session, after}

-- the number of a text
number_of_text : List ℕ → ℕ
number_of_text t = unless number (outline_rules t) 0

numbers_of_texts : List String → List ℕ
numbers_of_texts ts = map (λ t. number_of_text (bytes t)) ts

-- its number, its corners as they are read, and the text that is written for them
reading : String → List ℕ
reading t =
    number_of_text (bytes t) ∷ spaced (coordinates (corners_spelt (bytes t))) ++ outline_text (corners_spelt (bytes t))

reads_as : String → String → List ℕ
reads_as t values = 0 ∷ bytes values ++ bytes t

-- a ring of so many corners, all at 0, 0
ring_text : ℕ → List ℕ
ring_text n = bytes "POLYGON ((" ++ flatten (replicate n (bytes "0 0, ")) ++ bytes "0 0))"

-- three marks on a rail: two corners
unfoldable pub on_rail : List Point
on_rail = at (pos 0) (pos 0) ∷ at (pos 4) (pos 0) ∷ at (pos 2) (pos 0) ∷ []

pub outline_questions : List Question
outline_questions =
    -- "POLYGON ((0 0, 4 0, 6 7, 1 3, 0 0)), the first corner repeated; one point as POINT (0 0), two as
    -- LINESTRING (0 0, 4 0), none as POLYGON EMPTY"
    (outline_text (corner_points (after 6)) is bytes "POLYGON ((0 0, 4 0, 6 7, 1 3, 0 0))")
    ∷ (outline_text (corner_points (after 1)) is bytes "POINT (0 0)")
    ∷ (outline_text (corner_points (after 2)) is bytes "LINESTRING (0 0, 4 0)")
    ∷ (outline_text (corner_points (after 0)) is bytes "POLYGON EMPTY")
    ∷ (outline_text (corner_points (run on_rail).map) is bytes "LINESTRING (0 0, 4 0)")
    -- "Read the same spelling .. into a corner list", which "writes back the same bytes"
    ∷ (reading "POLYGON ((0 0, 4 0, 6 7, 1 3, 0 0))"
    is reads_as "POLYGON ((0 0, 4 0, 6 7, 1 3, 0 0))" " 0 0 4 0 6 7 1 3")
    ∷ (reading "POINT (0 0)" is reads_as "POINT (0 0)" " 0 0")
    ∷ (reading "LINESTRING (0 0, 4 0)" is reads_as "LINESTRING (0 0, 4 0)" " 0 0 4 0")
    ∷ (reading "POLYGON EMPTY" is reads_as "POLYGON EMPTY" "")
    ∷ (reading "LINESTRING (-1000000000 -1000000000, 1000000000 1000000000)"
    is reads_as "LINESTRING (-1000000000 -1000000000, 1000000000 1000000000)"
    " -1000000000 -1000000000 1000000000 1000000000")
    -- "and only that": spaces, feeds, words, brackets, numbers and positions too many or too few
    ∷ (numbers_of_texts
    ("LINESTRING (0 0,4 0)" ∷ "LINESTRING (0  0, 4 0)" ∷ "LINESTRING (0 0, 4 0 )" ∷ "LINESTRING ( 0 0, 4 0)"
    ∷ "LINESTRING (0 0, 4 0)\n"
    ∷ "POLYGON EMPTY\n"
    ∷ "LINESTRING (0 0, 4 0, 6 7)"
    ∷ "LINESTRING (0 0)"
    ∷ "LINESTRING (0 0, 4 0, )"
    ∷ "LINESTRING (0 0, 4)"
    ∷ "POINT (0 0, 4 0)"
    ∷ "POINT ()"
    ∷ "POINT EMPTY"
    ∷ "POINT (12345678901 0)"
    ∷ "POINT (00 0)"
    ∷ "POINT (0 -0)"
    ∷ "POINT (+1 0)"
    ∷ "POINT (0,0)"
    ∷ "POINT (0\t0)"
    ∷ "point (0 0)"
    ∷ "POINT(0 0)"
    ∷ "POINT (0 0"
    ∷ "POINT (0 0))"
    ∷ "POLYGON (0 0, 4 0, 6 7, 0 0)"
    ∷ "POLYGON ((0 0, 4 0, 6 7, 0 0)"
    ∷ "POLYGON"
    ∷ ""
    ∷ [])
    is replicate 27 11)
    -- "a ring that does not end on its first corner, or a ring of under three corners"
    ∷ (numbers_of_texts
    ("POLYGON ((0 0, 4 0, 6 7, 1 3))" ∷ "POLYGON ((0 0, 4 0, 6 7, 0 1))" ∷ "POLYGON ((0 0, 4 0, 0 0))" ∷ "POLYGON ((0 0))" ∷ [])
    is replicate 4 11)
    -- number 3: ten digits, and no corners of a survey either
    ∷ (numbers_of_texts
    ("POINT (1000000001 0)" ∷ "POINT (0 -9999999999)" ∷ "LINESTRING (4 0, 0 -1000000001)" ∷ [])
    is replicate 3 3)
    -- number 12: another first corner, the same corner twice, clockwise, three in line, a corner inside, and a
    -- star that turns left at every corner
    ∷ (numbers_of_texts
    ("LINESTRING (4 0, 0 0)" ∷ "LINESTRING (0 0, 0 0)" ∷ "POLYGON ((4 0, 6 7, 1 3, 0 0, 4 0))"
    ∷ "POLYGON ((0 0, 1 3, 6 7, 4 0, 0 0))"
    ∷ "POLYGON ((0 0, 2 0, 4 0, 6 7, 1 3, 0 0))"
    ∷ "POLYGON ((0 0, 4 0, 5 4, 6 7, 1 3, 0 0))"
    ∷ "POLYGON ((0 0, 4 0, 0 0, 4 0, 0 0))"
    ∷ "POLYGON ((0 0, 0 0, 0 0, 0 0))"
    ∷ "POLYGON ((0 0, 2 5, -3 2, 3 2, -2 5, 0 0))"
    ∷ [])
    is replicate 9 12)
    -- "11, after 9": whatever it is
    ∷ (number_of_text (replicate 65_537 0) ∷ number_of_text (replicate 65_536 0) ∷ [] is 9 ∷ 11 ∷ [])
    -- more corners than a map has points: no survey lists them, but their text is in the spelling
    ∷ (number_of_text (ring_text 513) ∷ [] is 12 ∷ [])
    ∷ []

-- one check over the list
pub outline_answers_are_right : T (all_in (λ q. same_list q.said q.right) outline_questions)
unfolding table_onto all any sum count one_if table elem all_in all_places any_in count_in first_in
    ring insert union flat_map flatten spread reached reaches is_least classes is_fixed is_closed
    closed_walks bytes decimal spelt number unless coordinate_in_range in_range same_point
    orientation left_of visible_from in_line beside sees_edge strictly_between lower other_dart
    point has_helper is_present edge_link point_link empty_map next_corner previous_corner
    corners_from outline sees visible_edges lowest_corner corners note same_note agree building_rules built sound cut join
    turning_left turning_right is_farther is_beyond farther left_corner right_corner with_point
    alone pair spliced later_point arrive is_repeated offer extended_by extended run_from run
    is_digit has_minus digits value_after magnitude is_number number_value leading_digits front
    spaced point_text joined outline_text corner_points starts_with is_word second is_position
    position after_position with_first positions positions_in exactly ring_of corners_in is_some
    or_none is_outline corners_spelt lowest_is_first all_support listable coordinates session after
    number_of_text numbers_of_texts reading reads_as ring_text on_rail outline_questions same_by
outline_answers_are_right = tt

-- ---- how many corners

-- 512 are not too many, and 513 are
pub as_many_as_points : (cs : List Point) → length cs ≡ 512 →
    listable cs ≡ (lowest_is_first cs && all_support cs)
unfolding listable
as_many_as_points cs e = rw e refl

pub one_too_many : (cs : List Point) → length cs ≡ 513 → listable cs ≡ false
unfolding listable
one_too_many cs e = rw e refl
