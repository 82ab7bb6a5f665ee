-- `engine::files::load` meets its contract: the form of the file is checked, and then its map.
use mathlib.Core.Path.{refl, sym, ap, ◌∙◌}
use mathlib.Core.Bool.{not}
use borrow.Author.Tests.{not-false}
use Rattle.finite.specs.Tests.{of_true}
use Rattle.model.specs.Answers.{outcome_answer}
use Rattle.model.specs.Saved.{file_in_form}
use Rattle.model.proofs.Answers.{answered, rule_applies, rule_passes}
use Rattle.engine.proofs.Rules.{tested}
use Rattle.engine.proofs.files.load.Goals as goal

pub returns-then-not-is_in_form : goal.returns-then-not-is_in_form
unfolding outcome_answer
returns-then-not-is_in_form c =
    answered _ (λ r. refl)
    (rule_applies _ _ _ _ (tested c.is_in_form.ensures (ap not c.if-not-is_in_form.true)))

pub map_of-requires : goal.map_of-requires
map_of-requires c =
    of_true (file_in_form c.args.file.now)
    (sym c.is_in_form.ensures ∙ not-false _ (ap not c.if-not-is_in_form.false))

pub returns : goal.returns
unfolding outcome_answer
returns c =
    answered _ (λ r. refl)
    (rule_passes _ _ _ _ (tested c.is_in_form.ensures (ap not c.if-not-is_in_form.false)) c.map_of.ensures)
