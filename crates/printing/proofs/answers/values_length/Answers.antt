use Rattle.std.proofs.Common.{◌≡◌, refl, ◌∙◌, ap, arith, ◌+◌, ◌*◌, ◌≤◌, length, take, length-take}
use Rattle.model.specs.Maps.{point_limit}
use Rattle.model.specs.Report.{spaced}
use Rattle.printing.proofs.Values.{printed_to, length_more, printed_all, spaced_length}
use Rattle.printing.proofs.answers.values_length.Goals as goal
use Rattle.printing.proofs.answers.values_length.Goals.{After-natural_length}

pub loop-value-init : goal.loop-value-init
unfolding spaced
loop-value-init c = refl

-- the length with one more value, and how large it is
next : (c : After-natural_length) →
    c.loop-value.total + (1 + c.natural_length.result)
    ≡ length (printed_to c.args.values.now (c.loop-value.value-index + 1))
next c =
    omega (
      arith,
      c.loop-value.invariant,
      c.natural_length.ensures,
      length_more c.args.values.now c.loop-value.value-index c.loop-value-test.true,
    )

few : (c : After-natural_length) →
    length (printed_to c.args.values.now (c.loop-value.value-index + 1)) ≤ 21 * point_limit
few c =
    let values = c.args.values.now in
    let i = c.loop-value.value-index + 1 in
    omega (arith, spaced_length (take i values), length-take i values, c.requires)

pub overflow_add-total : goal.overflow_add-total
overflow_add-total c =
    let here = (goal.at.overflow_add-total c).After-natural_length in omega (arith, next here, few here)

pub overflow_add-total-in-loop-value : goal.overflow_add-total-in-loop-value
overflow_add-total-in-loop-value c =
    let here = (goal.at.overflow_add-total-in-loop-value c).After-natural_length in
    omega (arith, next here, few here)

pub loop-value-preserved : goal.loop-value-preserved
loop-value-preserved c = next (goal.at.loop-value-preserved c).After-natural_length

pub returns : goal.returns
returns c =
    c.loop-value.invariant
    ∙ ap length (printed_all _ _ c.loop-value-test.false c.loop-value.auto.value-index-end)
