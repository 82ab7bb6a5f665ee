-- `reach::write_mark` meets its contract: the answer of the call, as a number and the place of its word.
use mathlib.Core.Path.{◌≡◌, refl}
use mathlib.Core.Bool.{Bool, true, false}
use mathlib.Core.List.{[], ◌∷◌}
use mir.Val.{bool_byte}
use Rattle.std.specs.declared.result.Result.TheVariants.{Ok}
use Rattle.model.specs.Answers.{marked_answer}
use Rattle.model.specs.Marking.{points_of, mark_call}
use Rattle.deciding.proofs.Verdicts.{passed_up}
use Rattle.replies.specs.Replies.{place_of, told, mark_told}
use Rattle.replies.proofs.Serving.{served_as, answer_refused, answer_written}
use Rattle.reach.proofs.write_mark.Goals as goal

-- the number of a mark is the place of its word
mark_byte : (t : Bool) → bool_byte t ∷ [] ≡ mark_told (marked_answer (Ok t))
unfolding marked_answer told place_of
mark_byte true = refl
mark_byte false = refl

pub returns-in_err-right : goal.returns-in_err-right
returns-in_err-right c = let s = c.args in
    rw (passed_up _ _ c.from_residual.ensures.1)
    (answer_refused mark_told (mark_call (points_of s.points.now) s.claim.now) _ c.in_err-right.ensures.equal)

pub returns : goal.returns
returns c = let s = c.args in
    answer_written mark_told (mark_call (points_of s.points.now) s.claim.now) _ c.in_ok-right.ensures.equal
    (served_as (mark_byte c.in_ok-right.right) c.write_values.ensures)
