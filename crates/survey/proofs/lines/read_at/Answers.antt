-- `survey::lines::read_at` meets its contract: the line begins with a number that a space follows,
-- or it is not in form.
use mathlib.Core.Path.{◌≡◌, sym, ◌∙◌}
use native.Mathlib.Omega.{arith}
use mir.Syntax.{w64}
use mir.Val.{to_z, of_z}
use mir.ValLaws.{to_z-of_z}
use lib.ListN.{drop, length-drop}
use Rattle.std.specs.declared.option.Option.TheVariants.{Some}
use Rattle.survey.specs.Numbers.{front_number}
use Rattle.survey.proofs.Readings.{not_past, first_none, first_unspaced, space_there, first_spaced}
use borrow.Author.Rules.{rules}
use Rattle.survey.proofs.lines.read_at.Goals as goal
use Rattle.survey.proofs.lines.read_at.Goals.{In-Some}

-- a number stands there
some : (c : In-Some) →
    front_number (drop c.args.at c.args.text.now) ≡ Some c.in-Some.field-0
some c = sym c.in-Some.ensures

-- the number stands in the point as it is
kept : (c : In-Some) → to_z w64 (of_z w64 c.in-Some.field-0.value) ≡ c.in-Some.field-0.value
kept c = to_z-of_z w64 c.in-Some.field-0.value (search rules)

pub overflow_add-stop : goal.overflow_add-stop
overflow_add-stop c = let a = c.args in
    omega (
      arith,
      not_past a.text.now a.at (some (goal.at.overflow_add-stop c).In-Some),
      length-drop a.at a.text.now,
    )

pub overflow_add-stop-then-byte_at-eq32 : goal.overflow_add-stop-then-byte_at-eq32
overflow_add-stop-then-byte_at-eq32 c = let a = c.args in
    omega (
      arith,
      space_there a.text.now a.at (some (goal.at.overflow_add-stop-then-byte_at-eq32 c).In-Some)
          (sym c.byte_at.ensures ∙ c.if-byte_at-eq32.true),
    )

pub returns-then-byte_at-eq32 : goal.returns-then-byte_at-eq32
returns-then-byte_at-eq32 c =
    let told = (goal.at.returns-then-byte_at-eq32 c).In-Some in
    c.read_second.ensures
    ∙ rw (kept told) (first_spaced _ _ (some told) (sym c.byte_at.ensures ∙ c.if-byte_at-eq32.true))

pub returns-else-byte_at-eq32 : goal.returns-else-byte_at-eq32
returns-else-byte_at-eq32 c = c.refused_from.ensures
    ∙ first_unspaced _ _ (some (goal.at.returns-else-byte_at-eq32 c).In-Some)
    (λ e. c.if-byte_at-eq32.false (c.byte_at.ensures ∙ e))

pub returns-in-None : goal.returns-in-None
returns-in-None c = c.refused_from-in-None.ensures
    ∙ first_none _ _ (sym c.in-None.ensures)
