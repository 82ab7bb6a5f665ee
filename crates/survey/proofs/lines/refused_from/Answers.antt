-- `survey::lines::refused_from` meets its contract, with a feed and without one.
use borrow.Author.Tests.{lt-ltb, le-ltb}
use Rattle.survey.specs.Places.{next_line}
use Rattle.survey.proofs.lines.refused_from.Goals as goal

pub returns-then-end-text : goal.returns-then-end-text
unfolding next_line
returns-then-end-text c = rw (← c.line_end-end.ensures, lt-ltb _ _ c.if-end-text.true)

pub returns-else-end-text : goal.returns-else-end-text
unfolding next_line
returns-else-end-text c = rw (← c.line_end-end.ensures, le-ltb _ _ c.if-end-text.false)
