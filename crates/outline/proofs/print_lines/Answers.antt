-- `outline::print_lines` meets its contract: the pieces so far bring to a position, a piece that has
-- bytes brings further, and one that has none is the last.
use native.Mathlib.Omega.{arith}
use Rattle.outline.proofs.Printing.{none_printed, one_printed, goes_further, all_printed, print_failed}
use Rattle.outline.proofs.print_lines.Goals as goal

pub loop-buffer-init : goal.loop-buffer-init
loop-buffer-init g c = none_printed _ _ c.empty_buffer-buffer.ensures

pub returns-then-piece-eq0 : goal.returns-then-piece-eq0
returns-then-piece-eq0 g c =
    all_printed c.loop-buffer.invariant c.write_lines-piece.ensures tt c.requires c.if-piece-eq0.true

pub returns-in_err-write_all : goal.returns-in_err-write_all
returns-in_err-write_all g c = print_failed c.loop-buffer.invariant _ c.from_residual.ensures.0

pub loop-buffer-smaller : goal.loop-buffer-smaller
loop-buffer-smaller g c =
    let further =
    goes_further c.loop-buffer.invariant c.write_lines-piece.ensures c.if-piece-eq0.false in
    omega (arith, further.0, further.1)

pub loop-buffer-preserved : goal.loop-buffer-preserved
loop-buffer-preserved g c = one_printed c.loop-buffer.invariant c.write_lines-piece.ensures
