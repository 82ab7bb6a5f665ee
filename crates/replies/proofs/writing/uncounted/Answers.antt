-- `replies::writing::uncounted` meets its contract: number 9 comes before number 10.
use mathlib.Core.Path.{refl, sym, ◌∙◌}
use mathlib.Core.Bool.{true}
use mathlib.Core.List.{[]}
use Rattle.model.specs.declared.Refusal.{Refusal}
use Rattle.model.specs.Refusals.{number, ◌when◌}
use Rattle.model.proofs.Answers.{rule_applies, rule_passes}
use Rattle.replies.proofs.writing.uncounted.Goals as goal

pub returns-then-is_too_long : goal.returns-then-is_too_long
returns-then-is_too_long c = rule_applies number _ _ 0 (sym c.is_too_long.ensures ∙ c.if-is_too_long.true)

pub returns : goal.returns
returns c =
    rule_passes number _ _ 0 (sym c.is_too_long.ensures ∙ c.if-is_too_long.false)
    (rule_applies number (Refusal.ShortList when true) [] 0 refl)
