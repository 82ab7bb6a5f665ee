-- `soundness::checked` meets its contract: all that is said of a sound map holds of one that passes the test.
use mathlib.Core.Path.{refl, sym, ap, ◌∙◌}
use mathlib.Core.Bool.{not}
use Rattle.std.specs.declared.result.Result.TheVariants.{Err}
use Rattle.finite.specs.Tests.{of_true}
use Rattle.model.proofs.Answers.{rule_applies, rule_passes, no_rule}
use Rattle.hull.proofs.Sound.{sound_shaped}
use Rattle.soundness.proofs.checked.Goals as goal

pub invariant_of-result : goal.invariant_of-result
invariant_of-result c = record { shaped = sound_shaped _ (of_true _ (sym c.is_sound.ensures ∙ c.if-is_sound.true)) }

pub returns-then-is_sound : goal.returns-then-is_sound
returns-then-is_sound c =
    (refl, rule_passes Err _ _ _ (ap not (sym c.is_sound.ensures ∙ c.if-is_sound.true)) (no_rule Err _))

pub returns-else-is_sound : goal.returns-else-is_sound
returns-else-is_sound c = rule_applies Err _ _ _ (ap not (sym c.is_sound.ensures ∙ c.if-is_sound.false))
