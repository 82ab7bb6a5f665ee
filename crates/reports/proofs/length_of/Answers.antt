-- `reports::length_of` meets its contract: the lengths of all printed lines.
use Rattle.reports.specs.Summaries.{report_of}
use Rattle.reports.proofs.length_of.Goals as goal

pub returns : goal.returns
unfolding report_of
returns c =
    rw (← c.lines.ensures.answers, ← c.lines.ensures.corners, ← c.lines.ensures.ends) c.total_length.ensures
