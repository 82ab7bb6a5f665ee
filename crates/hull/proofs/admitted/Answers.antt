-- `hull::admitted` meets its contract: the rules are asked of the map's points, and then the point arrives.
use mathlib.Core.Path.{◌∙◌, ap}
use Rattle.std.specs.declared.result.Result.TheVariants.{Ok}
use Rattle.std.proofs.lemmas.Result.{err_from_is_err_and}
use Rattle.hull.proofs.Admissions.{admission_accepted, admitted_refused, admitted_served}
use Rattle.hull.proofs.admitted.Goals as goal

pub returns-in_err-admission : goal.returns-in_err-admission
returns-in_err-admission c =
    let p = err_from_is_err_and c.from_residual.result c.from_residual.ensures.1 in
    rw (p.1, p.2) (admitted_refused c.args.sound.shaped c.args.p _ c.in_err-admission.ensures)

pub grow-arrival-requires : goal.grow-arrival-requires
grow-arrival-requires c = admission_accepted c.args.sound.shaped c.args.p c.in_ok-admission.ensures.1

pub returns : goal.returns
returns c = ap Ok c.grow-arrival.ensures ∙ admitted_served c.args.sound.shaped c.args.p c.in_ok-admission.ensures.1
