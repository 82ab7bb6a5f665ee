-- Why a sound map refuses a point, by the map's points alone, in the order of this page: the rules; what they
-- come to; what is promised of an answer by them. That they are the rules of the map is `rules_by_points` of proofs/Rules.
-- Document 01, "The number on the returned sheet", 2 to 4.
use Rattle.std.specs.Prelude.{◌≡◌, ⊤, Bool, not, List, [], ◌∷◌, leb, length}
use Rattle.std.specs.declared.result.Result.{Result}
use Rattle.std.specs.declared.result.Result.TheVariants.{Ok, Err}
use Rattle.finite.specs.Bounded.{any}
use Rattle.model.specs.declared.Refusal.{Refusal}
use Rattle.model.specs.declared.Point.{Point}
use Rattle.model.specs.declared.Ranged.{Ranged}
use Rattle.model.specs.Refusals.{Rule, ◌when◌}
use Rattle.model.specs.Answers.{outcome_by}
use Rattle.model.specs.Plane.{in_range, same_point}
use Rattle.model.specs.Maps.{point_limit, point_in}

-- p is one of the points
abbrev pub repeated_in : List Point → Point → Bool
repeated_in points p = any (length points) (λ k. same_point (point_in points k) p)

-- the rules of a map with these points
abbrev pub rules_by : List Point → Point → List Rule
rules_by points p =
    (Refusal.Full when leb point_limit (length points))
    ∷ (Refusal.OutOfRange when not (in_range p))
    ∷ (Refusal.Repeated when repeated_in points p)
    ∷ []

unfoldable pub admission_by : List Point → Point → Result ⊤ Refusal
admission_by points p = outcome_by (rules_by points p)

-- the point itself, as one in range, where no rule applies; else the refusal
abbrev pub Admitted : List Point → Point → Result Ranged Refusal → Type 0
Admitted points p (Ok r) = (r.point ≡ p) × (Ok tt ≡ admission_by points p)
Admitted points p (Err e) = Err e ≡ admission_by points p
