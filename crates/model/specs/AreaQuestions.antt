-- Questions of ours about the area (request 102): one list and one check over it, in the order of this page: the
-- session, from each corner and by its history; fewer than three points; a rail; a square at the ends of the
-- range; a map that is not sound.
use mathlib.Core.List.{List, [], ◌∷◌, map, flat_map, flatten}
use Rattle.std.specs.Prelude.{ℕ, T, pos, neg_ℤ}
use Prim.Native.String.{String}
use Rattle.finite.specs.Bounded.{all, any, sum, count, one_if, table_onto, table}
use Rattle.finite.specs.Lists.{elem, same_by, same_list, all_in, all_places, any_in, count_in, first_in, ring, insert, union}
use Rattle.orbits.specs.Reach.{spread, reached, reaches}
use Rattle.orbits.specs.Classes.{is_least, classes, is_fixed, is_closed, closed_walks}
use Rattle.model.specs.declared.Point.{Point}
use Rattle.model.specs.declared.Map.{Map}
use Rattle.model.specs.Spelling.{bytes, decimal, spelt}
use Rattle.model.specs.Refusals.{number, unless}
use Rattle.model.specs.Answers.{answer_of, doubled_answer}
use Rattle.model.specs.Plane.{at, coordinate_limit, coordinate_in_range, in_range, same_point, orientation, left_of, visible_from, in_line, beside, sees_edge, strictly_between, lower}
use Rattle.model.specs.Maps.{note, no_dart, other_dart, point, has_helper, is_present, edge_link, point_link, empty_map}
use Rattle.model.specs.Outline.{next_corner, previous_corner, corners_from, outline, sees, visible_edges, lowest_corner, corners}
use Rattle.model.specs.Building.{building_rules, built}
use Rattle.model.specs.Sound.{same_note, agree, sound}
use Rattle.model.specs.Arrival.{cut, join, turning_left, turning_right, is_farther, is_beyond, farther, left_corner, right_corner}
use Rattle.model.specs.Arrival.{with_point, alone, pair, spliced, later_point, arrive, is_repeated}
use Rattle.model.specs.Offers.{offer}
use Rattle.model.specs.History.{extended_by, extended, run_from, run}
use Rattle.model.specs.Report.{spaced}
use Rattle.model.specs.Outlines.{corner_points}
use Rattle.model.specs.Area.{path_sum, fan, area_from, doubled_area, area_call, area_limit, sum_of, triangle_added, area_added, history_area}
use Rattle.model.specs.Questions.{Question, ◌is◌, session, after}
use Rattle.model.specs.OutlineQuestions.{on_rail}

-- the number and the value, at each of these places
told_at : Map → List ℕ → List ℕ
told_at m places =
    flat_map (λ place. let a = doubled_answer (answer_of (area_call m place)) in a.number ∷ spaced a.values) places

says : List String → List ℕ
says values = flat_map (λ value. 0 ∷ bytes value) values

refuses : ℕ → String → List ℕ
refuses n value = n ∷ bytes value

-- the corners of the range, each once
at_ends : List Point
at_ends =
    let low = neg_ℤ (pos coordinate_limit) in
    let high = pos coordinate_limit in
    at low low ∷ at high high ∷ at low high ∷ at high low ∷ []

-- the outline has no reference
unlinked : Map
unlinked =
    let m = after 6 in
    record {
      points = m.points;
      helpers = m.helpers;
      edge = m.edge;
      notes = m.notes;
      count = m.count;
      reference = no_dart;
    }

pub area_questions : List Question
area_questions =
    -- "The result is the same from each corner"; there is no corner at place 4
    (told_at (after 6) (0 ∷ 1 ∷ 2 ∷ 3 ∷ []) is says (" 39" ∷ " 39" ∷ " 39" ∷ " 39" ∷ []))
    ∷ (told_at (after 6) (4 ∷ []) is refuses 6 " 6")
    -- 12 + 15 + (1 + 11): the last arrival sees the edges that leave corners 1 and 3
    ∷ (spaced (map area_added (run session).history) is bytes " 0 0 12 15 0 12")
    ∷ (spaced (map (triangle_added (after 5) (at (pos 6) (pos 7))) (1 ∷ 3 ∷ [])) is bytes " 1 11")
    ∷ (spaced (history_area (run session).history ∷ []) is bytes " 39")
    -- "Fewer than three points give 0 for any index"
    ∷ (told_at (after 0) (0 ∷ 9 ∷ []) is says (" 0" ∷ " 0" ∷ []))
    ∷ (told_at (after 1) (0 ∷ 9 ∷ []) is says (" 0" ∷ " 0" ∷ []))
    ∷ (told_at (after 2) (1 ∷ 9 ∷ []) is says (" 0" ∷ " 0" ∷ []))
    -- three points, of which two are corners
    ∷ (told_at (run on_rail).map (0 ∷ 1 ∷ []) is says (" 0" ∷ " 0" ∷ []))
    ∷ (told_at (run on_rail).map (2 ∷ []) is refuses 6 " 6")
    -- as large as it can be
    ∷ (told_at (run at_ends).map (3 ∷ []) is says (" 8000000000000000000" ∷ []))
    ∷ (spelt (pos area_limit) is bytes "8000000000000000000")
    -- 1 before 6
    ∷ (told_at unlinked (9 ∷ []) is refuses 1 " 1")
    ∷ []

-- one check over the list
pub area_answers_are_right : T (all_in (λ q. same_list q.said q.right) area_questions)
unfolding table_onto all any sum count one_if table elem all_in all_places any_in count_in first_in
    ring insert union flat_map flatten spread reached reaches is_least classes is_fixed is_closed
    closed_walks bytes decimal spelt number unless doubled_answer coordinate_in_range in_range
    same_point orientation left_of visible_from in_line beside sees_edge strictly_between lower
    other_dart point has_helper is_present edge_link point_link empty_map next_corner
    previous_corner corners_from outline sees visible_edges lowest_corner corners note same_note agree building_rules built sound cut join
    turning_left turning_right is_farther is_beyond farther left_corner right_corner with_point
    alone pair spliced later_point arrive is_repeated offer extended_by extended run_from run
    spaced corner_points path_sum fan area_from doubled_area sum_of triangle_added area_added
    history_area session after told_at says refuses on_rail at_ends unlinked area_questions
    same_by
area_answers_are_right = tt
