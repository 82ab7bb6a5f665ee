-- What is answered by the rules, in the order of this page: a point out of range; a point in range passes that
-- rule; a point that no rule refuses.
use mathlib.Core.Path.{◌≡◌, ap, subst}
use mathlib.Core.Bool.{true, false, not}
use mathlib.Core.List.{List}
use lib.Dec.{T, leb}
use lib.ListN.{length}
use Rattle.std.specs.declared.result.Result.{Result}
use Rattle.std.specs.declared.result.Result.TheVariants.{Ok, Err}
use Rattle.finite.specs.Tests.{is_true}
use Rattle.model.specs.declared.Refusal.{Refusal}
use Rattle.model.specs.declared.Point.{Point}
use Rattle.model.specs.declared.Ranged.{Ranged}
use Rattle.model.specs.Plane.{in_range}
use Rattle.model.specs.Maps.{point_limit}
use Rattle.model.proofs.Answers.{rule_applies, rule_passes, no_rule}
use Rattle.admission.specs.Admission.{Admitted, admission_by, repeated_in}

pub in_range_is : {p : Point} (r : Ranged) → r.point ≡ p → in_range p ≡ true
in_range_is r e = is_true _ (subst (λ q. T (in_range q)) e r.ranged)

module _ (points : List Point) (p : Point) (room : leb point_limit (length points) ≡ false) where
  pub out_of_range : {r : Result Ranged Refusal} → r ≡ Err Refusal.OutOfRange → in_range p ≡ false →
      Admitted points p r
  unfolding admission_by
  out_of_range {r} is out =
      rw is (rule_passes Err _ _ _ room (rule_applies Err _ _ _ (ap not out)))

  module _ (r : Ranged) (e : r.point ≡ p) where
    pub repeated : repeated_in points p ≡ true → Admitted points p (Err Refusal.Repeated)
    unfolding admission_by
    repeated is =
        rule_passes Err _ _ _ room
        (rule_passes Err _ _ _ (ap not (in_range_is r e)) (rule_applies Err _ _ _ is))

    pub admitted : repeated_in points p ≡ false → Admitted points p (Ok r)
    unfolding admission_by
    admitted new = (
      e,
      rule_passes Err _ _ _ room
          (rule_passes Err _ _ _ (ap not (in_range_is r e)) (rule_passes Err _ _ _ new (no_rule Err _))),
    )
