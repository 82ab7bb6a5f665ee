-- The loop of `outline::print_lines`: the pieces so far bring to a position, and the measure is how
-- many printed lines are left.
use Prim.Native.Nat.{◌-◌}
use Rattle.lines.specs.Lines.{line_count}
use Rattle.outline.proofs.Printing.{Printing}
use Rattle.outline.proofs.print_lines.Given as goal

abbrev pub invariant-loop-buffer : goal.invariant-loop-buffer
invariant-loop-buffer g l = Printing l.answers l.decided l.buffer l.next

abbrev pub decreases-loop-buffer : goal.decreases-loop-buffer
decreases-loop-buffer g l = line_count l.decided.ends - l.next
