-- `survey::lines::read_second` meets its contract, by what follows the second number.
use mathlib.Core.Path.{◌≡◌, sym, ◌∙◌}
use native.Mathlib.Omega.{arith}
use mir.Syntax.{w64}
use mir.Val.{to_z, of_z}
use mir.ValLaws.{to_z-of_z}
use lib.ListN.{drop, length-drop}
use Rattle.std.specs.declared.option.Option.TheVariants.{Some}
use Rattle.survey.specs.Numbers.{front_number}
use Rattle.survey.proofs.Readings.{not_past, second_none, second_last, second_fed, second_followed}
use borrow.Author.Rules.{rules}
use Rattle.survey.proofs.lines.read_second.Goals as goal
use Rattle.survey.proofs.lines.read_second.Goals.{In-Some}

-- a number stands there
some : (c : In-Some) →
    front_number (drop c.args.at c.args.text.now) ≡ Some c.in-Some.field-0
some c = sym c.in-Some.ensures

-- the two numbers stand in the point as they are
kept : (c : In-Some) → to_z w64 (of_z w64 c.in-Some.field-0.value) ≡ c.in-Some.field-0.value
kept c = to_z-of_z w64 c.in-Some.field-0.value (search rules)

pub overflow_add-stop : goal.overflow_add-stop
overflow_add-stop c = let a = c.args in
    omega (
      arith,
      not_past a.text.now a.at (some (goal.at.overflow_add-stop c).In-Some),
      length-drop a.at a.text.now,
    )

pub returns-in-None-get : goal.returns-in-None-get
returns-in-None-get c =
    let told = (goal.at.returns-in-None-get c).In-Some in
    rw (to_z-of_z w64 c.args.x c.ranges.x, kept told)
    (second_last _ _ (some told) c.args.x c.in-None-get.ensures.lookup.3)

pub returns-in-Some-eq10 : goal.returns-in-Some-eq10
returns-in-Some-eq10 c =
    let told = (goal.at.returns-in-Some-eq10 c).In-Some in
    let there = c.in-Some-eq10.ensures.lookup.3 in
    rw (to_z-of_z w64 c.args.x c.ranges.x, kept told)
    (second_fed _ _ (some told) c.args.x there.0 (sym (there.1 0) ∙ c.in-Some-eq10.field-0-test))

pub returns-in-Some-get : goal.returns-in-Some-get
returns-in-Some-get c =
    let there = c.in-Some-get.ensures.lookup.3 in
    c.refused_from.ensures
    ∙ second_followed _ _ (some (goal.at.returns-in-Some-get c).In-Some) _ there.0
    (λ e. c.in-Some-get.field-0-test.1 (there.1 0 ∙ e))

pub returns-in-None : goal.returns-in-None
returns-in-None c = c.refused_from-in-None.ensures
    ∙ second_none _ _ (sym c.in-None.ensures) _
