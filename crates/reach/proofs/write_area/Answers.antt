-- `reach::write_area` meets its contract: the answer of the call, as a number and a value.
use borrow.Author.Rules.{rules}
use mathlib.Core.Path.{◌≡◌, ap}
use mathlib.Core.List.{[], ◌∷◌}
use lib.IntN.{ℤ}
use mir.Syntax.{w64}
use mir.Val.{to_z, of_z}
use Rattle.model.specs.Answers.{doubled_answer}
use Rattle.measures.specs.Areas.{sound_area_call}
use Rattle.deciding.proofs.Verdicts.{passed_up}
use Rattle.replies.specs.Replies.{values_of}
use Rattle.replies.proofs.Serving.{served_as, answer_refused, answer_written}
use Rattle.reach.proofs.write_area.Goals as goal

pub returns-in_err-z : goal.returns-in_err-z
returns-in_err-z c =
    rw (passed_up _ _ c.from_residual.ensures.1)
    (answer_refused values_of (sound_area_call c.args.sound.map.now c.args.place) _ c.in_err-z.ensures)

pub returns : goal.returns
unfolding doubled_answer
returns c =
    let bits : to_z w64 (of_z w64 c.in_ok-z.z) ≡ c.in_ok-z.z = search rules in
    answer_written values_of (sound_area_call c.args.sound.map.now c.args.place) _ c.in_ok-z.ensures
    (served_as (ap (λ (i : ℤ). i ∷ []) bits) c.write_values.ensures)
