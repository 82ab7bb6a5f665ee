-- `plane::orientation_of` meets its contract: a point out of range gives number 3, and else the value is given.
use mathlib.Core.Path.{◌≡◌, refl, sym, subst, ◌∙◌, ap}
use mathlib.Core.Bool.{Bool, true, false, not, ◌&&◌}
use lib.Dec.{T}
use lib.IntN.{ℤ, nat_abs}
use mir.Syntax.{w64}
use mir.Val.{SFits, to_z, of_z}
use mir.ValLaws.{to_z-of_z}
use Prim.Native.Nat.{◌≤◌}
use Rattle.integers.specs.Range.{bounded_fits}
use Rattle.finite.specs.Tests.{is_true, is_false, and_left, and_right, and_both}
use Rattle.std.specs.declared.result.Result.{Result}
use Rattle.std.specs.declared.result.Result.TheVariants.{Ok, Err}
use Rattle.std.proofs.lemmas.Result.{err_from_is_err_and}
use Rattle.model.specs.declared.Point.{Point}
use Rattle.model.specs.declared.Ranged.{Ranged}
use Rattle.model.specs.declared.Refusal.{Refusal}
use Rattle.model.specs.Answers.{oriented_answer}
use Rattle.model.specs.Plane.{in_range, orientation, orientation_limit, orientation_call}
use Rattle.model.proofs.Answers.{answered, rule_applies, rule_passes, no_rule}
use Rattle.plane.specs.OrientedAnswer.{OrientedAnswer}
use Rattle.plane.proofs.Bounds.{ranged_near, orientation_bounded}
use Rattle.plane.proofs.orientation_of.Goals as goal

module _ (a b c : Point) where
  abbrev all_ranged : Bool
  all_ranged = in_range a && in_range b && in_range c

  -- where one of them is out of range
  refused : {r : Result ℤ Refusal} → r ≡ Err Refusal.OutOfRange → all_ranged ≡ false → OrientedAnswer a b c r
  unfolding oriented_answer
  refused {r} is out =
      rw is
      (record {
        answer = answered (orientation_call a b c) (λ x. refl) (rule_applies Err _ _ _ (ap not out));
        within = tt;
      })

  -- where the value is that of points in range
  given : (p q s : Ranged) → p.point ≡ a → q.point ≡ b → s.point ≡ c → (z : ℤ) →
      z ≡ orientation p.point q.point s.point → OrientedAnswer a b c (Ok (to_z w64 (of_z w64 z)))
  unfolding oriented_answer
  given p q s ep eq es z value =
      let bounded = orientation_bounded p.point q.point s.point (ranged_near p q s) in
      let back = to_z-of_z w64 z (subst (SFits w64) (sym value) (bounded_fits w64 tt bounded)) ∙ value in
      let same : orientation p.point q.point s.point ≡ orientation a b c =
      λ i. orientation (ep i) (eq i) (es i) in
      let ranged : all_ranged ≡ true =
      is_true all_ranged
      (and_both (in_range a && in_range b) (in_range c)
      (and_both (in_range a) (in_range b) (subst (λ x. T (in_range x)) ep p.ranged) (subst (λ x. T (in_range x)) eq q.ranged))
      (subst (λ x. T (in_range x)) es s.ranged)) in
      record {
        answer =
            answered (orientation_call a b c) (λ x. refl)
            (rule_passes Err _ _ _ (ap not ranged) (ap Ok (back ∙ same) ∙ no_rule Err _));
        within = subst (λ (v : ℤ). nat_abs v ≤ orientation_limit) (sym back) bounded.bound;
      }

pub returns-in_err-ranged : goal.returns-in_err-ranged
returns-in_err-ranged c = let p = err_from_is_err_and c.from_residual.result c.from_residual.ensures.1 in
    let e = c.in_err-ranged.ensures in
    refused c.args.a c.args.b c.args.c (p.1 ∙ ap Err (p.2 ∙ e.0))
    (is_false _ (λ t. subst T e.1 (search (and_left, and_right))))

pub returns-in_err-ranged-2 : goal.returns-in_err-ranged-2
returns-in_err-ranged-2 c =
    let p = err_from_is_err_and c.from_residual-in_err-ranged-2.result c.from_residual-in_err-ranged-2.ensures.1 in
    let e = c.in_err-ranged-2.ensures in
    refused c.args.a c.args.b c.args.c (p.1 ∙ ap Err (p.2 ∙ e.0))
    (is_false _ (λ t. subst T e.1 (search (and_left, and_right))))

pub returns-in_err-ranged-3 : goal.returns-in_err-ranged-3
returns-in_err-ranged-3 c =
    let p = err_from_is_err_and c.from_residual-in_err-ranged-3.result c.from_residual-in_err-ranged-3.ensures.1 in
    let e = c.in_err-ranged-3.ensures in
    refused c.args.a c.args.b c.args.c (p.1 ∙ ap Err (p.2 ∙ e.0))
    (is_false _ (λ t. subst T e.1 (search (and_left, and_right))))

pub returns : goal.returns
returns c =
    given c.args.a c.args.b c.args.c c.in_ok-ranged.field-0 c.in_ok-ranged-2.field-0 c.in_ok-ranged-3.field-0
    c.in_ok-ranged.ensures c.in_ok-ranged-2.ensures c.in_ok-ranged-3.ensures c.orientation_in_range.result
    c.orientation_in_range.ensures
