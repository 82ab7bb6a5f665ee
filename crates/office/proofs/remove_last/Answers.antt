-- `office::remove_last` meets its contract: the soundness check, then whether there is a point, and then
-- what is taken back of a sound map.
use mathlib.Core.Path.{refl, ap, ◌∙◌}
use native.Mathlib.Omega.{arith}
use borrow.Author.Tests.{eq-eqb, ne_eqb}
use Rattle.std.specs.declared.result.Result.TheVariants.{Ok}
use Rattle.model.specs.Answers.{outcome_answer}
use Rattle.model.proofs.Answers.{answered, rule_applies, rule_passes, no_rule}
use Rattle.deciding.proofs.Verdicts.{passed_up}
use Rattle.engine.proofs.Rules.{checked_whole, first_refuses, first_serves}
use Rattle.office.proofs.remove_last.Goals as goal

pub returns-in_err-checked : goal.returns-in_err-checked
unfolding outcome_answer
returns-in_err-checked c =
    rw (passed_up _ _ c.from_residual.ensures.1)
    (answered _ (λ r. refl) (first_refuses _ _ _ _ c.in_err-checked.ensures))

pub returns-then-map-eq0 : goal.returns-then-map-eq0
unfolding outcome_answer
returns-then-map-eq0 c =
    answered _ (λ r. refl)
    (first_serves _ _ _ _ c.in_ok-checked.ensures.1 (rule_applies _ _ _ _ (eq-eqb _ 0 c.if-map-eq0.true)))

pub taken_back-requires : goal.taken_back-requires
taken_back-requires c = (checked_whole _ c.in_ok-checked.ensures.1, omega arith)

pub returns : goal.returns
unfolding outcome_answer
returns c =
    answered _ (λ r. refl)
    (first_serves _ _ _ _ c.in_ok-checked.ensures.1
    (rule_passes _ _ _ _ (ne_eqb _ 0 c.if-map-eq0.false) (ap Ok c.taken_back.ensures ∙ no_rule _ _)))
