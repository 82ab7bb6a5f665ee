-- `admission::admission` meets its contract, one rule after another.
use mathlib.Core.Path.{◌≡◌, sym, ap, ◌∙◌}
use mathlib.Core.Bool.{false, not}
use Prim.Native.Nat.{ℕ, ◌<◌, ◌≤◌}
use native.Mathlib.Omega.{arith}
use borrow.Author.Tests.{le-leb, lt-leb}
use lib.Dec.{leb}
use lib.ListN.{length}
use Rattle.std.specs.declared.result.Result.TheVariants.{Err}
use Rattle.std.proofs.lemmas.Result.{err_from_is_err_and}
use Rattle.finite.specs.Bounded.{some_not_none}
use Rattle.model.specs.Maps.{point_limit}
use Rattle.model.proofs.Answers.{rule_applies}
use Rattle.admission.specs.Admission.{admission_by}
use Rattle.admission.proofs.Admitting.{out_of_range, repeated, admitted}
use Rattle.admission.proofs.admission.Goals as goal

-- the first rule does not apply
room : (n : ℕ) → n < point_limit → leb point_limit n ≡ false
room n h = lt-leb _ _ h

pub returns-then-points-ge-POINT_LIMIT : goal.returns-then-points-ge-POINT_LIMIT
unfolding admission_by
returns-then-points-ge-POINT_LIMIT c =
    let full : point_limit ≤ length c.args.points.now = omega arith in
    rule_applies Err _ _ _ (le-leb _ _ full)

pub returns-in_err-accepted : goal.returns-in_err-accepted
returns-in_err-accepted c =
    let p = err_from_is_err_and c.from_residual.result c.from_residual.ensures.1 in
    let e = c.in_err-accepted.ensures in
    out_of_range c.args.points.now c.args.p (room (length c.args.points.now) (omega arith)) (p.1 ∙ ap Err (p.2 ∙ e.0)) e.1

pub returns-then-not-is_new : goal.returns-then-not-is_new
returns-then-not-is_new c =
    repeated c.args.points.now c.args.p (room (length c.args.points.now) (omega arith)) c.in_ok-accepted.accepted c.in_ok-accepted.ensures
    (sym (some_not_none _ _) ∙ ap not (sym c.is_new.ensures ∙ c.if-not-is_new.true))

pub returns : goal.returns
returns c =
    admitted c.args.points.now c.args.p (room (length c.args.points.now) (omega arith)) c.in_ok-accepted.accepted c.in_ok-accepted.ensures
    (sym (some_not_none _ _) ∙ ap not (sym c.is_new.ensures ∙ c.if-not-is_new.false))
