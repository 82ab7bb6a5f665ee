-- `engine::texts::report_lines` meets its contract: the room is looked at, and then the report is
-- written.
use mathlib.Core.Path.{◌≡◌, ap, ◌∙◌}
use mathlib.Core.List.{List}
use Prim.Native.Nat.{ℕ, ◌≤◌}
use native.Mathlib.Omega.{arith}
use borrow.Author.Tests.{le-ltb}
use lib.ListN.{length}
use Rattle.std.specs.declared.result.Result.TheVariants.{Ok}
use Rattle.finite.specs.Overwriting.{over}
use Rattle.model.specs.Answers.{outcome_by}
use Rattle.model.specs.Report.{text_limit, report, report_rules}
use Rattle.engine.proofs.Entries.{rule_passed, short_refused, result_written}
use Rattle.engine.proofs.texts.report_lines.Goals as goal
use Rattle.engine.proofs.texts.report_lines.Goals.{After-length_of-length}

-- the text is not too long
read : (text : List ℕ) → length text ≤ text_limit → Ok tt ≡ outcome_by (report_rules text)
read text h = rule_passed _ (le-ltb text_limit _ h)

-- the length that was found is the report's
found_length : (c : After-length_of-length) →
    c.length_of-length.result ≡ length (report c.args.text.now)
found_length c = c.length_of-length.ensures ∙ ap length c.decide-decided.ensures.is_report

pub returns-then-lent-length : goal.returns-then-lent-length
returns-then-lent-length c =
    let d = (goal.at.returns-then-lent-length c).After-length_of-length in
    short_refused (read _ c.requires) (omega (arith, found_length d, c.if-lent-length.true))

pub returns : goal.returns
returns c =
    let d = (goal.at.returns c).After-length_of-length in
    result_written (read _ c.requires) (found_length d)
    (omega (arith, found_length d, c.if-lent-length.false))
    (c.write_report.ensures
    ∙ ap (λ (l : List ℕ). over l c.args.lent.now) c.decide-decided.ensures.is_report)
