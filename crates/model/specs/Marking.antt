-- Marking a candidate's outline, in the order of this page: a list of coordinates as points; a listing begun at
-- any of its corners; the call.
-- Document 02, request 103: "From a point list and a claimed list of point numbers, say right or wrong without
-- building the map. Right means: the claim is the corner listing, begun at any corner." The map is built here, in
-- the definition; the code builds none.
use Rattle.std.specs.Prelude.{Bool, List, [], ◌∷◌, ◌++◌, ℕ, suc, ℤ, length, take, drop}
use Rattle.finite.specs.Bounded.{any}
use Rattle.finite.specs.Lists.{same_list}
use Rattle.model.specs.declared.Point.{Point}
use Rattle.model.specs.Answers.{Call, marked_answer}
use Rattle.model.specs.Plane.{at}
use Rattle.model.specs.Maps.{empty_map}
use Rattle.model.specs.Outline.{corners}
use Rattle.model.specs.Building.{building_rules, built}

-- x and y in turn; an odd last number names no point
unfoldable pub points_of : List ℤ → List Point
points_of [] = []
points_of (x ∷ []) = []
points_of (x ∷ y ∷ s) = at x y ∷ points_of s

-- a listing begun at its place i
unfoldable pub begun_at : ℕ → List ℕ → List ℕ
begun_at i s = drop i s ++ take i s

-- "the claim is the corner listing, begun at any corner"; where there is no corner, the empty claim
unfoldable pub is_rotation : List ℕ → List ℕ → Bool
is_rotation claim s = any (suc (length s)) (λ i. same_list claim (begun_at i s))

-- "A point list whose offers from empty are not all accepted returns the first refusal met." A claim with a
-- number beyond the points is no listing.
abbrev pub mark_call : List Point → List ℕ → Call Bool
mark_call ps claim =
    record {
      meaning = marked_answer;
      rules = building_rules empty_map ps;
      value = is_rotation claim (corners (built empty_map ps));
    }
