use Rattle.std.proofs.Common.{arith}
use Rattle.positions.proofs.Loop.{reading_none, told, goes_inside, goes_on, reading_more, reading_last, reading_bad}
use Rattle.positions.proofs.read_positions.Goals as goal

pub loop-step-init : goal.loop-step-init
loop-step-init c = reading_none _ _ _ c.told-points

pub returns-in_err-step : goal.returns-in_err-step
returns-in_err-step c = reading_bad c.loop-step.invariant c.from_residual.ensures c.in_err-step.ensures

pub overflow_add-place : goal.overflow_add-place
overflow_add-place c =
    let e = told c.in_ok-step.ensures c.in-Some.is in
    omega (arith, goes_inside c.loop-step.invariant c.in_ok-step.step.point e)

pub loop-step-smaller : goal.loop-step-smaller
loop-step-smaller c =
    let e = told c.in_ok-step.ensures c.in-Some.is in
    omega (
      arith,
      goes_inside c.loop-step.invariant c.in_ok-step.step.point e,
      goes_on c.loop-step.invariant c.in_ok-step.step.point e,
    )

pub loop-step-preserved : goal.loop-step-preserved
loop-step-preserved c =
    rw c.keep.ensures
    (reading_more c.loop-step.invariant c.in_ok-step.step.point (told c.in_ok-step.ensures c.in-Some.is)
    c.still_ranged-ranged.ensures)

pub returns-in-None : goal.returns-in-None
returns-in-None c =
    rw c.keep.ensures
    (reading_last c.loop-step.invariant c.in_ok-step.step.point (told c.in_ok-step.ensures c.in-None.is)
    c.still_ranged-ranged.ensures)
