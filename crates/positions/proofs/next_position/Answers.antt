-- `positions::next_position` meets its contract, by what stands after the position.
use Rattle.std.proofs.Common.{sym, ◌∙◌, arith}
use Rattle.model.specs.Spelling.{bytes}
use Rattle.positions.proofs.Steps.{Found, found, position_inside, step_none, step_more, step_last, step_bad, more_inside}
use Rattle.positions.proofs.next_position.Goals as goal
use Rattle.positions.proofs.next_position.Goals.{In_ok-point}

there : (c : In_ok-point) → Found c.args.s.now c.in_ok-point.field-0.point c.in_ok-point.field-0.size
there c = found c.args.s.now (sym c.in_ok-point.ensures)

pub returns-in_err-point : goal.returns-in_err-point
returns-in_err-point c = c.from_residual.ensures ∙ step_none _ _ (sym c.in_err-point.ensures)

pub slice_bounds-rest-count : goal.slice_bounds-rest-count
slice_bounds-rest-count c = position_inside (there (goal.at.slice_bounds-rest-count c).In_ok-point)

pub slice_bounds-rest-start : goal.slice_bounds-rest-start
slice_bounds-rest-start c = position_inside (there (goal.at.slice_bounds-rest-start c).In_ok-point)

pub overflow_add-result : goal.overflow_add-result
unfolding bytes
overflow_add-result c =
    omega (
      arith,
      more_inside (there (goal.at.overflow_add-result c).In_ok-point)
          (sym c.starts_with.ensures ∙ c.if-starts_with.true),
    )

pub returns-then-starts_with : goal.returns-then-starts_with
unfolding bytes
returns-then-starts_with c =
    step_more (there (goal.at.returns-then-starts_with c).In_ok-point) _
    (sym c.starts_with.ensures ∙ c.if-starts_with.true)

pub returns-then-is_word : goal.returns-then-is_word
unfolding bytes
returns-then-is_word c =
    step_last (there (goal.at.returns-then-is_word c).In_ok-point) _
    (sym c.starts_with.ensures ∙ c.if-starts_with.false) (sym c.is_word.ensures ∙ c.if-is_word.true)

pub returns : goal.returns
unfolding bytes
returns c =
    step_bad (there (goal.at.returns c).In_ok-point) _ (sym c.starts_with.ensures ∙ c.if-starts_with.false)
    (sym c.is_word.ensures ∙ c.if-is_word.false)
