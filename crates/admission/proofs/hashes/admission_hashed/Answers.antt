-- `admission::hashes::admission_hashed` meets its contract: a point in range whose hash is not set is refused
-- by no rule but the first; else one rule after another.
use mathlib.Core.Path.{sym, ap, ◌∙◌}
use mathlib.Core.Bool.{not}
use borrow.Author.Tests.{le-leb, lt-leb}
use Rattle.std.specs.declared.result.Result.TheVariants.{Err}
use Rattle.std.proofs.lemmas.Result.{err_from_is_err_and}
use Rattle.finite.specs.Bounded.{some_not_none}
use Rattle.model.proofs.Answers.{rule_applies}
use Rattle.admission.specs.Admission.{admission_by}
use Rattle.admission.proofs.Admitting.{out_of_range, repeated, admitted}
use Rattle.admission.proofs.Hashing.{unhashed_new}
use Rattle.admission.proofs.hashes.admission_hashed.Goals as goal

pub returns-then-points-ge-POINT_LIMIT : goal.returns-then-points-ge-POINT_LIMIT
unfolding admission_by
returns-then-points-ge-POINT_LIMIT c = rule_applies Err _ _ _ (le-leb _ _ c.if-points-ge-POINT_LIMIT.true)

pub returns-in_err-accepted : goal.returns-in_err-accepted
returns-in_err-accepted c =
    let p = err_from_is_err_and c.from_residual.result c.from_residual.ensures.1 in
    let e = c.in_err-accepted.ensures in
    out_of_range c.args.points.now c.args.p (lt-leb _ _ c.if-points-ge-POINT_LIMIT.false) (p.1 ∙ ap Err (p.2 ∙ e.0)) e.1

pub returns-then-not-has : goal.returns-then-not-has
returns-then-not-has c =
    let accepted = c.in_ok-accepted.accepted in
    let e = c.in_ok-accepted.ensures in
    admitted c.args.points.now c.args.p (lt-leb _ _ c.if-points-ge-POINT_LIMIT.false) accepted e
    (unhashed_new c.args.p c.requires
    (rw (sym e) (sym c.has.ensures ∙ c.if-not-has.true)))

pub returns-then-not-is_new : goal.returns-then-not-is_new
returns-then-not-is_new c =
    repeated c.args.points.now c.args.p (lt-leb _ _ c.if-points-ge-POINT_LIMIT.false) c.in_ok-accepted.accepted
    c.in_ok-accepted.ensures
    (sym (some_not_none _ _) ∙ ap not (sym c.is_new.ensures ∙ c.if-not-is_new.true))

pub returns : goal.returns
returns c =
    admitted c.args.points.now c.args.p (lt-leb _ _ c.if-points-ge-POINT_LIMIT.false) c.in_ok-accepted.accepted
    c.in_ok-accepted.ensures
    (sym (some_not_none _ _) ∙ ap not (sym c.is_new.ensures ∙ c.if-not-is_new.false))
