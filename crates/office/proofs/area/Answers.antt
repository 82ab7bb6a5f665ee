-- `office::area` meets its contract: the soundness check, and then what is measured of a sound map.
use mathlib.Core.Path.{refl, ap, ◌∙◌}
use Rattle.model.specs.declared.Map.{Map}
use Rattle.model.specs.Answers.{answer_of, doubled_answer}
use Rattle.measures.specs.Areas.{sound_area_call}
use Rattle.model.proofs.Answers.{answered}
use Rattle.deciding.proofs.Verdicts.{passed_up}
use Rattle.engine.proofs.Rules.{first_refuses, first_serves}
use Rattle.office.proofs.area.Goals as goal

pub returns-in_err-checked : goal.returns-in_err-checked
unfolding doubled_answer
returns-in_err-checked c =
    rw (passed_up _ _ c.from_residual.ensures.1)
    (answered _ (λ r. refl) (first_refuses _ _ _ _ c.in_err-checked.ensures))

pub returns : goal.returns
unfolding doubled_answer
returns c = answered _ (λ r. refl) (first_serves _ _ _ _ c.in_ok-checked.ensures.1
    (c.area_of.ensures ∙ ap (λ (m : Map). answer_of (sound_area_call m c.args.place)) c.in_ok-checked.ensures.0))
