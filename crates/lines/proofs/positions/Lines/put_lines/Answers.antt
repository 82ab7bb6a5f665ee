use Rattle.std.proofs.Common.{arith, ◌∙◌, ap, max, ℕ}
use Rattle.lines.proofs.ReportLoops.{none_put, put_next, put_all}
use Rattle.lines.proofs.positions.Lines.put_lines.Goals as goal

pub loop-next-init : goal.loop-next-init
loop-next-init c = none_put _ _ _ _ _

pub loop-next-preserved : goal.loop-next-preserved
loop-next-preserved c =
    put_next _ _ _ _ _ c.loop-next.invariant _ c.line_length.ensures c.if-lent-end.false
    (omega (arith, c.loop-next-test.true, c.line_count-count.ensures)) c.put_line-end.ensures

pub returns : goal.returns
returns c =
    put_all _ _ _ _ _ c.loop-next.invariant
    (omega (arith, c.loop-next-test.false, c.line_count-count.ensures))
    (c.max.ensures ∙ ap (λ (n : ℕ). max n c.args.from) c.line_count-count.ensures)
