-- `put_lines` meets its contract. The loop's invariant: the lines before position `next` are written.
use Rattle.lines.proofs.ReportLoops.{Putting}
use Rattle.lines.proofs.positions.Lines.put_lines.Given as goal

abbrev pub invariant-loop-next : goal.invariant-loop-next
invariant-loop-next l =
    Putting l.self.answers.now l.self.corners.now l.self.ends l.from l.initial.lent l.lent l.next l.end
