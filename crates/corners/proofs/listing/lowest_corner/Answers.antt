-- `corners::listing::lowest_corner` meets its contract: an iteration compares one corner of the
-- outline with the lowest so far.
use native.Mathlib.Nat.{sub-zero}
use native.Mathlib.Omega.{arith}
use Rattle.corners.proofs.CornerLoops.{seeking_first, seeking_last, seeking_more, seeking_end}
use Rattle.corners.proofs.listing.lowest_corner.Goals as goal

pub loop-init : goal.loop-init
loop-init c = seeking_first _ _ (sub-zero _)

pub loop-preserved : goal.loop-preserved
loop-preserved c =
    seeking_more _ _ c.loop.invariant (omega (arith, c.loop-test.true)) c.lower_of-lowest.ensures
    c.next_corner-a.ensures (omega arith) c.if-a-start.false

pub returns-after-loop : goal.returns-after-loop
returns-after-loop c = seeking_end _ _ c.loop.invariant (omega (arith, c.loop-test.false))

pub returns-then-a-start : goal.returns-then-a-start
returns-then-a-start c =
    seeking_end _ _
    (seeking_last _ _ c.loop.invariant (omega (arith, c.loop-test.true)) c.lower_of-lowest.ensures
    c.next_corner-a.ensures c.if-a-start.true)
    (omega arith)
