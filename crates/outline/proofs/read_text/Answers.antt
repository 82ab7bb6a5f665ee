-- `outline::read_text` meets its contract: a read that fails or that brings nothing is the last, any other
-- brings further, and after the loop the list is full.
use native.Mathlib.Omega.{arith}
use Rattle.outline.proofs.Reading.{none_read, one_read, none_more, read_failed}
use Rattle.outline.proofs.read_text.Goals as goal

pub loop-filled-init : goal.loop-filled-init
loop-filled-init g c = none_read _ _

pub returns-in_err-more : goal.returns-in_err-more
returns-in_err-more g c =
    read_failed c.loop-filled.invariant c.read.new.buf (omega arith) c.from_residual.result
    c.from_residual.ensures.0

pub loop-filled-preserved : goal.loop-filled-preserved
loop-filled-preserved g c =
    one_read c.loop-filled.invariant c.read.new.buf (omega arith) c.in_ok-more.more
    (omega (arith, c.in_ok-more.ensures.bound)) (omega (arith, c.in_ok-more.ensures.bound))
    c.in_ok-more.ensures.bytes.0

pub returns-then-more-eq0 : goal.returns-then-more-eq0
returns-then-more-eq0 g c =
    none_more c.loop-filled.invariant c.read.new.buf (omega arith) c.in_ok-more.more
    (omega (arith, c.in_ok-more.ensures.bound)) (omega (arith, c.in_ok-more.ensures.bound))
    c.in_ok-more.ensures.bytes.0 c.if-more-eq0.true
    (c.in_ok-more.ensures.bytes.1 c.if-more-eq0.true (omega arith))
