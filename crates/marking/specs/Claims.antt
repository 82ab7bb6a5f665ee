-- A claimed outline, in the order of this page: what is told of points that are offered one after another, and
-- what their places then hold; what is asked of a claim, place by place. That a claim passes just where it is the
-- corner listing, begun at any corner, is `claim_decides` of proofs/Rotations.
use Rattle.std.specs.Prelude.{◌≡◌, ⊤, Bool, not, cond, ◌&&◌, ◌||◌, List, ℕ, ◌+◌, ◌%◌, ltb, eqb, length, get_or}
use Rattle.std.specs.declared.result.Result.{Result}
use Rattle.std.specs.declared.result.Result.TheVariants.{Ok}
use Rattle.finite.specs.Tests.{◌⇒◌}
use Rattle.finite.specs.Bounded.{all}
use Rattle.model.specs.declared.Refusal.{Refusal}
use Rattle.model.specs.declared.Point.{Point}
use Rattle.model.specs.Answers.{outcome_by}
use Rattle.model.specs.Plane.{beside}
use Rattle.model.specs.Maps.{empty_map}
use Rattle.model.specs.Shape.{Shaped}
use Rattle.model.specs.Building.{building_rules, built}

-- ---- points

-- the map that these points build is sound and has these places
pub record Holds (ps places : List Point) : Type 0 where
  pub is_sound : Shaped (built empty_map ps)
  pub places_are : places ≡ (built empty_map ps).points

-- whether all are accepted, or the first refusal met
pub record PointsTaken (ps : List Point) (r : Result ⊤ Refusal) (places : List Point) : Type 0 where
  pub answer : r ≡ outcome_by (building_rules empty_map ps)
  pub held : r ≡ Ok tt → Holds ps places

-- ---- a claim

-- point c is an end of the edge from a to b, or lies beside it, of points numbered by P
abbrev pub aside_by : (ℕ → Point) → ℕ → ℕ → ℕ → Bool
aside_by P a b c = not (eqb c a) && not (eqb c b) ⇒ beside (P a) (P b) (P c)

-- the number at place i of a claim is one of n points; the first number stands at no other place; and every other
-- point lies beside the edge to the number after it, or to the first after the last
abbrev pub edge_at : (ℕ → Point) → ℕ → List ℕ → ℕ → Bool
edge_at P n claim i =
    let a = get_or claim i 0 in
    let b = get_or claim ((i + 1) % length claim) 0 in
    ltb a n && (eqb i 0 || not (eqb a (get_or claim 0 0))) && all n (aside_by P a b)

-- only where there is no point, nothing is claimed
unfoldable pub claim_passes : (ℕ → Point) → ℕ → List ℕ → Bool
claim_passes P n claim =
    cond (eqb (length claim) 0) (eqb n 0) (all (length claim) (edge_at P n claim))
