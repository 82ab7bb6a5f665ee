-- `positions::front_position` meets its contract, by the cases of the two numbers and of
-- the space between them.
use Rattle.std.proofs.Common.{sym, ◌∙◌, arith, rules, w64}
use Rattle.std.proofs.lemmas.Int.{to_z-of_z}
use Rattle.survey.proofs.Fronts.{leads}
use Rattle.positions.proofs.Steps.{no_first, no_space, no_second, fits, both_read}
use Rattle.positions.proofs.front_position.Goals as goal

pub returns-in_err-first : goal.returns-in_err-first
returns-in_err-first c = c.from_residual.ensures ∙ no_first c.args.s.now (sym c.in_err-first.ensures)

pub returns-then-byte_at-ne32 : goal.returns-then-byte_at-ne32
returns-then-byte_at-ne32 c =
    no_space c.args.s.now (leads c.args.s.now (sym c.in_ok-first.ensures))
    (λ e. c.if-byte_at-ne32.true (c.byte_at.ensures ∙ e))

pub returns-in_err-second : goal.returns-in_err-second
returns-in_err-second c =
    let list = c.args.s.now in
    c.from_residual-in_err-second.ensures
    ∙ no_second list (leads list (sym c.in_ok-first.ensures)) (sym c.byte_at.ensures ∙ c.if-byte_at-ne32.false)
    (sym c.in_err-second.ensures)

pub overflow_add-result-2 : goal.overflow_add-result-2
overflow_add-result-2 c =
    let list = c.args.s.now in
    omega (
      arith,
      fits list (leads list (sym c.in_ok-first.ensures)) (sym c.byte_at.ensures ∙ c.if-byte_at-ne32.false)
          (sym c.in_ok-second.ensures),
    )

pub returns : goal.returns
returns c =
    let list = c.args.s.now in
    rw (
      to_z-of_z w64 c.in_ok-first.first.value (search rules),
      to_z-of_z w64 c.in_ok-second.second.value (search rules),
    )
    (both_read list (leads list (sym c.in_ok-first.ensures)) (sym c.byte_at.ensures ∙ c.if-byte_at-ne32.false)
    (sym c.in_ok-second.ensures))
