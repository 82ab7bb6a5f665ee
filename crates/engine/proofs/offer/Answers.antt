-- `engine::offer` meets its contract: the soundness check, and then what a sound map does.
use mathlib.Core.Path.{refl, ap, ◌∙◌}
use Rattle.model.specs.Answers.{arrival_answer, arrival_of}
use Rattle.model.specs.Arrival.{admitted}
use Rattle.model.proofs.Answers.{answered}
use Rattle.deciding.proofs.Verdicts.{passed_up}
use Rattle.engine.proofs.Rules.{first_refuses, first_serves}
use Rattle.engine.proofs.offer.Goals as goal

pub returns-in_err-checked : goal.returns-in_err-checked
unfolding arrival_answer arrival_of
returns-in_err-checked c =
    rw (passed_up _ _ c.from_residual.ensures.1) (answered _ (λ r. refl) (first_refuses _ _ _ _ c.in_err-checked.ensures))

pub returns : goal.returns
unfolding arrival_answer arrival_of admitted
returns c = answered _ (λ r. refl) (first_serves _ _ _ _ c.in_ok-checked.ensures.1 (c.admitted.ensures ∙ ap (λ m. admitted m c.args.p) c.in_ok-checked.ensures.0))
