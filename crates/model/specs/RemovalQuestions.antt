-- Questions of ours about taking back a point (request 108): one list and one check over it, in the order
-- of this page: the session, taken back point by point; a rail; offering the point again; number 13, and 1
-- before it; a list of offers and removals, with its history.
use Rattle.std.specs.Prelude.{List, [], ◌∷◌, ◌++◌, map, ℕ, T, pos, length}
use Rattle.finite.specs.Bounded.{all, any, sum, count, one_if, table_onto, table}
use Rattle.finite.specs.Lists.{elem, same_by, same_list, all_in, all_places, any_in, count_in, first_in, ring, insert, union, total}
use Rattle.orbits.specs.Reach.{spread, reached, reaches}
use Rattle.model.specs.declared.Map.{Map}
use Rattle.model.specs.Refusals.{number, unless}
use Rattle.model.specs.Answers.{outcome_answer}
use Rattle.model.specs.Plane.{at, coordinate_in_range, in_range, same_point, orientation, left_of, visible_from, in_line, beside, sees_edge, strictly_between, lower}
use Rattle.model.specs.Maps.{note, other_dart, point, has_helper, is_present, edge_link, point_link, empty_map}
use Rattle.model.specs.Outline.{next_corner, previous_corner, corners_from, outline, sees, visible_edges}
use Rattle.model.specs.Building.{building_rules, built}
use Rattle.model.specs.Sound.{same_note, agree, sound}
use Rattle.model.specs.Arrival.{cut, join, turning_left, turning_right, is_farther, is_beyond, farther, left_corner, right_corner}
use Rattle.model.specs.Arrival.{with_point, alone, pair, spliced, later_point, arrive, is_repeated}
use Rattle.model.specs.Offers.{offer, map_after}
use Rattle.model.specs.Removal.{before_last, remove, map_left}
use Rattle.model.specs.History.{Run, extended_by, extended, run_from, run, Action, offering, taking_back, taken_back_by, taken_back, acted, performed_from, performed, reported, reported_edges, is_outside, outside_arrivals}
use Rattle.model.specs.Questions.{Question, ◌is◌, session, after}
use Rattle.model.specs.OutlineQuestions.{on_rail}

-- the number, the points, the reference, and where the first twelve darts lead
taken : Map → List ℕ
taken m =
    let o = remove m in
    let n = map_left m o in
    (outcome_answer o).number ∷ n.count ∷ n.reference ∷ table 12 (edge_link n)

-- the map with this reference
with_reference : ℕ → Map → Map
with_reference dart m =
    record {
      points = m.points;
      helpers = m.helpers;
      edge = m.edge;
      notes = m.notes;
      count = m.count;
      reference = dart;
    }

-- a removal that is refused; the session; its last point taken back
acts : List Action
acts = taking_back ∷ map offering session ++ taking_back ∷ []

-- the entries, both sides of the sum over arrivals, and whether the map is the one before the last point
tallied : Run → List ℕ
tallied r =
    length r.history ∷ total (map reported_edges r.history) ∷ outside_arrivals r.history
    ∷ length (outline r.map)
    ∷ one_if (agree r.map (after 5))
    ∷ []

pub removal_questions : List Question
removal_questions =
    -- point 5 frees darts 7 and 6, which are joined again; point 4 is inside, so the reference is point 3's
    (taken (after 6) is 0 ∷ 5 ∷ 6 ∷ 3 ∷ 4 ∷ 7 ∷ 0 ∷ 1 ∷ 6 ∷ 5 ∷ 2 ∷ 8 ∷ 9 ∷ 10 ∷ 11 ∷ [])
    ∷ (taken (after 5) is 0 ∷ 4 ∷ 6 ∷ 3 ∷ 4 ∷ 7 ∷ 0 ∷ 1 ∷ 6 ∷ 5 ∷ 2 ∷ 8 ∷ 9 ∷ 10 ∷ 11 ∷ [])
    -- points 3 and 2 see one edge, whose ends are joined with each other
    ∷ (taken (after 4) is 0 ∷ 3 ∷ 4 ∷ 3 ∷ 4 ∷ 5 ∷ 0 ∷ 1 ∷ 2 ∷ 6 ∷ 7 ∷ 8 ∷ 9 ∷ 10 ∷ 11 ∷ [])
    ∷ (taken (after 3) is 0 ∷ 2 ∷ 2 ∷ 3 ∷ 2 ∷ 1 ∷ 0 ∷ 4 ∷ 5 ∷ 6 ∷ 7 ∷ 8 ∷ 9 ∷ 10 ∷ 11 ∷ [])
    ∷ (taken (after 2) is 0 ∷ 1 ∷ 1024 ∷ table 12 (λ d. d))
    ∷ (taken (after 1) is 0 ∷ 0 ∷ 1024 ∷ table 12 (λ d. d))
    -- "when there is no point", and 1 before that
    ∷ (taken empty_map is 13 ∷ 0 ∷ 1024 ∷ table 12 (λ d. d))
    ∷ (taken (with_reference 0 empty_map) is 1 ∷ 0 ∷ 0 ∷ table 12 (λ d. d))
    ∷ (taken (with_reference 0 (after 2)) is 1 ∷ 2 ∷ 0 ∷ 3 ∷ 2 ∷ 1 ∷ 0 ∷ 4 ∷ 5 ∷ 6 ∷ 7 ∷ 8 ∷ 9 ∷ 10 ∷ 11 ∷ [])
    -- a rail: the farther corner's two darts, 0 and 1, are joined with 3 and 2 again
    ∷ (taken (run on_rail).map is 0 ∷ 2 ∷ 2 ∷ 3 ∷ 2 ∷ 1 ∷ 0 ∷ 4 ∷ 5 ∷ 6 ∷ 7 ∷ 8 ∷ 9 ∷ 10 ∷ 11 ∷ [])
    -- "Offering the point again brings back the same map."
    ∷ (one_if (agree (map_after empty_map (offer (map_left empty_map (remove (after 6))) (at (pos 6) (pos 7)))) (after 6)) ∷ [] is 1 ∷ [])
    -- "leave out arrivals taken back": 1 + 1 + 4 = 2 × 2 + 2
    ∷ (tallied (performed acts) is 5 ∷ 2 ∷ 2 ∷ 4 ∷ 1 ∷ [])
    ∷ []

-- one check over the list
pub removal_answers_are_right : T (all_in (λ q. same_list q.said q.right) removal_questions)
unfolding table_onto all any sum count one_if table elem all_in all_places any_in count_in first_in ring insert union total
    spread reached reaches number unless outcome_answer coordinate_in_range in_range same_point orientation left_of
    visible_from in_line beside sees_edge strictly_between lower other_dart point has_helper is_present edge_link point_link
    empty_map next_corner previous_corner corners_from outline sees visible_edges note same_note agree building_rules built sound cut
    join turning_left turning_right is_farther is_beyond farther left_corner right_corner with_point alone pair spliced
    later_point arrive is_repeated offer map_after before_last remove map_left extended_by extended run_from run taken_back_by taken_back acted
    performed_from performed reported reported_edges is_outside outside_arrivals session after on_rail taken with_reference
    acts tallied removal_questions same_by
removal_answers_are_right = tt
