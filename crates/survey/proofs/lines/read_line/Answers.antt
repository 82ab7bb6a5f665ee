-- `survey::lines::read_line` meets its contract: the line at the first place is all that is lent,
-- or what is lent is no line.
use mathlib.Core.Path.{sym, ap, ◌∙◌}
use Rattle.survey.specs.declared.lines.Read.{Read}
use Rattle.survey.proofs.Texts.{lent_line, lent_lines}
use Rattle.survey.proofs.lines.read_line.Goals as goal

pub returns-then-read-line : goal.returns-then-read-line
returns-then-read-line c = let read = c.read_at-read.ensures in
    ap (λ (r : Read). r.line) read
    ∙ lent_line _ (sym (ap (λ (r : Read). r.next) read) ∙ c.if-read-line.true)

pub returns-else-read-line : goal.returns-else-read-line
returns-else-read-line c = let read = c.read_at-read.ensures in
    lent_lines _ (λ e. c.if-read-line.false (ap (λ (r : Read). r.next) read ∙ e))
