use Rattle.std.proofs.Common.{◌<◌, arith}
use Rattle.lines.specs.Lines.{line_count}
use Rattle.lines.proofs.ReportLoops.{none_totalled, one_totalled, total_most, totalled_all}
use Rattle.lines.proofs.positions.Lines.total_length.Goals as goal
use Rattle.lines.proofs.positions.Lines.total_length.Goals.{After-line_length-total}

pub loop-j-init : goal.loop-j-init
loop-j-init c = none_totalled _ _ _

-- the position lies before the end
before_end : (c : After-line_length-total) → c.loop-j.j < line_count c.args.self.now.ends
before_end c = omega (arith, c.loop-j-test.true, c.line_count-j-end.ensures)

pub overflow_add-total : goal.overflow_add-total
overflow_add-total c =
    let before = before_end (goal.at.overflow_add-total c).After-line_length-total in
    omega (
      arith,
      total_most _ _ _ c.loop-j.invariant before _ c.line_length-total.ensures c.requires.corners_len_bound
          c.requires.printable,
    )

pub loop-j-preserved : goal.loop-j-preserved
loop-j-preserved c =
    let before = before_end (goal.at.loop-j-preserved c).After-line_length-total in
    one_totalled _ _ _ c.loop-j.invariant before _ c.line_length-total.ensures

pub returns : goal.returns
returns c = totalled_all c.loop-j.invariant c.line_count-j-end.ensures c.loop-j-test.false
