-- `engine::texts::report` meets its contract: the text's length is looked at, and then the report is
-- written.
use mathlib.Core.Path.{sym, ◌∙◌}
use borrow.Author.Tests.{ltb-false}
use Rattle.engine.proofs.Entries.{rule_found, rule_refused}
use Rattle.engine.proofs.texts.report.Goals as goal

pub returns-then-is_too_long : goal.returns-then-is_too_long
returns-then-is_too_long c = rule_refused (rule_found _ (sym c.is_too_long.ensures ∙ c.if-is_too_long.true))

pub report_lines-requires : goal.report_lines-requires
report_lines-requires c = ltb-false _ _ (sym c.is_too_long.ensures ∙ c.if-is_too_long.false)
