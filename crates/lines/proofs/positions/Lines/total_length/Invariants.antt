-- `total_length` meets its contract. The loop's invariant: the total is the length of the lines before
-- position j.
use Rattle.lines.proofs.ReportLoops.{Totalled}
use Rattle.lines.proofs.positions.Lines.total_length.Given as goal

abbrev pub invariant-loop-j : goal.invariant-loop-j
invariant-loop-j l = Totalled l.self.answers.now l.self.corners.now l.self.ends l.total l.j
