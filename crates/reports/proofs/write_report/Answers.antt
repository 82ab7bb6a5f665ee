-- `reports::write_report` meets its contract: a list with room for all printed lines gets all of them.
use Rattle.reports.specs.Summaries.{report_of}
use Rattle.reports.proofs.Wholes.{all_written}
use Rattle.reports.proofs.write_report.Goals as goal

pub returns : goal.returns
unfolding report_of
returns c =
    let is = c.lines.ensures in
    all_written (rw (is.answers, is.corners, is.ends) at c.put_lines.ensures) c.requires.decided_in_bounds
