-- `outline::print_report` meets its contract: what is decided of the text is printed.
use Rattle.outline.proofs.Printing.{report_printed}
use Rattle.outline.proofs.print_report.Goals as goal

pub returns : goal.returns
returns g c = report_printed c.decide-decided.ensures c.print_lines.ensures
