-- `engine::place` meets its contract: the map and the point are checked, and then placed.
use mathlib.Core.Path.{refl, ap, ◌∙◌}
use mathlib.Core.Bool.{not, cond}
use lib.Dec.{ltb}
use Rattle.std.specs.declared.result.Result.TheVariants.{Ok}
use Rattle.model.specs.declared.Placed.{Placed}
use Rattle.model.specs.Answers.{placed_answer}
use Rattle.model.specs.Placing.{place_among}
use Rattle.model.proofs.Answers.{answered, rule_applies, rule_passes, no_rule}
use Rattle.admission.proofs.Admitting.{in_range_is}
use Rattle.deciding.proofs.Verdicts.{passed_up}
use Rattle.engine.proofs.Rules.{first_refuses, first_serves}
use Rattle.engine.proofs.place.Goals as goal

pub returns-in_err-sound : goal.returns-in_err-sound
unfolding placed_answer
returns-in_err-sound c =
    rw (passed_up _ _ c.from_residual.ensures.1) (answered _ (λ r. refl) (first_refuses _ _ _ _ c.in_err-sound.ensures))

pub returns-in_err-p : goal.returns-in_err-p
unfolding placed_answer
returns-in_err-p c =
    let e = c.in_err-p.ensures in
    rw (passed_up _ _ c.from_residual-in_err-p.ensures.1, e.0)
    (answered _ (λ r. refl) (first_serves _ _ _ _ c.in_ok-sound.ensures.1 (rule_applies _ _ _ _ (ap not e.1))))

pub returns : goal.returns
unfolding placed_answer
returns c =
    let e = c.in_ok-sound.ensures in
    let p = c.in_ok-p in
    answered _ (λ r. refl)
    (first_serves _ _ _ _ e.1
    (rule_passes _ _ _ _ (ap not (in_range_is p.p p.ensures))
    (ap Ok
    (c.placed.ensures
    ∙ (λ i. cond (ltb (e.0 i).count 2) Placed.NoOutline (place_among (e.0 i) (p.ensures i))))
    ∙ no_rule _ _)))
