-- Questions of ours about marking (request 103): one list and one check over it, in the order of this page: the
-- session's listing, begun at each corner, and claims that are not it; fewer than three points; a rail; points
-- that are not all accepted.
use mathlib.Core.List.{List, [], ◌∷◌, ◌++◌, flat_map, flatten}
use Rattle.std.specs.Prelude.{ℕ, ◌+◌, ◌^◌, T, ℤ, pos, take, replicate}
use Rattle.finite.specs.Bounded.{all, any, sum, count, one_if, table_onto, table}
use Rattle.finite.specs.Lists.{elem, same_by, same_list, all_in, any_in, count_in, first_in, ring}
use Rattle.model.specs.Spelling.{bytes}
use Rattle.model.specs.Refusals.{number, unless}
use Rattle.model.specs.Answers.{answer_of, marked_answer}
use Rattle.model.specs.Plane.{at, coordinate_limit, coordinate_in_range, in_range, same_point, orientation, left_of, visible_from, in_line, beside, sees_edge, strictly_between, lower}
use Rattle.model.specs.Maps.{other_dart, point, has_helper, edge_link, empty_map}
use Rattle.model.specs.Outline.{next_corner, previous_corner, corners_from, outline, sees, visible_edges, lowest_corner, corners}
use Rattle.model.specs.Arrival.{cut, join, turning_left, turning_right, is_farther, is_beyond, farther, left_corner, right_corner}
use Rattle.model.specs.Arrival.{with_point, alone, pair, spliced, later_point, arrive, is_repeated}
use Rattle.model.specs.Outlines.{coordinates}
use Rattle.model.specs.Building.{building_rules, built}
use Rattle.model.specs.Marking.{points_of, begun_at, is_rotation, mark_call}
use Rattle.model.specs.Questions.{Question, ◌is◌, session}
use Rattle.model.specs.OutlineQuestions.{on_rail}

-- the mark of each claim: its number, and its word
marks : List ℤ → List (List ℕ) → List ℕ
marks points claims =
    flat_map (λ claim. let a = marked_answer (answer_of (mark_call (points_of points) claim)) in a.number ∷ bytes a.word) claims

rights : ℕ → List ℕ
rights n = flatten (replicate n (0 ∷ bytes "right"))

wrongs : ℕ → List ℕ
wrongs n = flatten (replicate n (0 ∷ bytes "wrong"))

refuses : ℕ → List ℕ
refuses n = n ∷ bytes "refused"

-- so many points of the session, as coordinates in turn
first_points : ℕ → List ℤ
first_points n = coordinates (take n session)

-- 600 points, of which point 3 is point 1 again
repeating : List ℤ
repeating =
    coordinates (at (pos 0) (pos 0) ∷ at (pos 1) (pos 0) ∷ at (pos 2) (pos 5) ∷ at (pos 1) (pos 0) ∷ [])
    ++ table 1192 (λ k. pos k)

-- point 1 lies beyond the range, and point 2 is point 0 again
beyond_then_repeated : List ℤ
beyond_then_repeated =
    let far = pos (coordinate_limit + 1) in
    pos 0 ∷ pos 0 ∷ far ∷ pos 0 ∷ pos 0 ∷ pos 0 ∷ []

pub mark_questions : List Question
mark_questions =
    -- "the corner listing, begun at any corner"
    (marks (first_points 6)
    ((0 ∷ 1 ∷ 5 ∷ 2 ∷ []) ∷ (1 ∷ 5 ∷ 2 ∷ 0 ∷ []) ∷ (5 ∷ 2 ∷ 0 ∷ 1 ∷ []) ∷ (2 ∷ 0 ∷ 1 ∷ 5 ∷ []) ∷ [])
    is rights 4)
    -- clockwise; a corner left out; a point that is no corner; another order; twice round; nothing
    ∷ (marks (first_points 6)
    ((2 ∷ 5 ∷ 1 ∷ 0 ∷ []) ∷ (0 ∷ 1 ∷ 5 ∷ []) ∷ (0 ∷ 1 ∷ 3 ∷ 5 ∷ 2 ∷ []) ∷ (0 ∷ 5 ∷ 1 ∷ 2 ∷ [])
    ∷ (0 ∷ 1 ∷ 5 ∷ 2 ∷ 0 ∷ 1 ∷ 5 ∷ 2 ∷ [])
    ∷ []
    ∷ [])
    is wrongs 6)
    -- "A claim with a number beyond the points is wrong", one that is a corner's in 32 bits too
    ∷ (marks (first_points 6) ((0 ∷ 1 ∷ 5 ∷ 6 ∷ []) ∷ (0 ∷ 1 ∷ 5 ∷ 2 ∷ 6 ∷ []) ∷ (2 ^ 32 ∷ 1 ∷ 5 ∷ 2 ∷ []) ∷ []) is wrongs 3)
    -- no point, and one number that names none
    ∷ (marks [] ([] ∷ []) is rights 1)
    ∷ (marks (pos 7 ∷ []) ([] ∷ []) is rights 1)
    ∷ (marks [] ((0 ∷ []) ∷ []) is wrongs 1)
    ∷ (marks (first_points 1) ((0 ∷ []) ∷ []) is rights 1)
    ∷ (marks (first_points 1) ([] ∷ (1 ∷ []) ∷ (0 ∷ 0 ∷ []) ∷ []) is wrongs 3)
    ∷ (marks (first_points 2) ((0 ∷ 1 ∷ []) ∷ (1 ∷ 0 ∷ []) ∷ []) is rights 2)
    ∷ (marks (first_points 2) ((0 ∷ []) ∷ (0 ∷ 1 ∷ 0 ∷ []) ∷ (0 ∷ 0 ∷ []) ∷ []) is wrongs 3)
    -- three points, of which two are corners
    ∷ (marks (coordinates on_rail) ((0 ∷ 1 ∷ []) ∷ (1 ∷ 0 ∷ []) ∷ []) is rights 2)
    ∷ (marks (coordinates on_rail) ((0 ∷ 2 ∷ 1 ∷ []) ∷ (0 ∷ 2 ∷ []) ∷ []) is wrongs 2)
    -- "the first refusal met", whatever is claimed
    ∷ (marks repeating ([] ∷ (9 ∷ []) ∷ []) is refuses 4 ++ refuses 4)
    ∷ (marks beyond_then_repeated ((0 ∷ []) ∷ []) is refuses 3)
    ∷ []

-- one check over the list
pub mark_answers_are_right : T (all_in (λ q. same_list q.said q.right) mark_questions)
unfolding table_onto all any sum count one_if table elem same_by all_in any_in count_in first_in ring
    flat_map flatten bytes number unless marked_answer coordinate_in_range in_range same_point
    orientation left_of visible_from in_line beside sees_edge strictly_between lower other_dart point
    has_helper edge_link empty_map next_corner previous_corner corners_from outline sees
    visible_edges lowest_corner corners cut join turning_left turning_right is_farther is_beyond
    farther left_corner right_corner with_point alone pair spliced later_point arrive is_repeated
    coordinates building_rules built points_of begun_at is_rotation session marks rights wrongs
    refuses first_points repeating beyond_then_repeated on_rail mark_questions
mark_answers_are_right = tt
