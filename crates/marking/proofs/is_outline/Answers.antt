use native.Mathlib.Omega.{arith}
use mathlib.Core.Path.{◌≡◌, sym, ap, ◌∙◌}
use mathlib.Core.Bool.{true, false, not}
use lib.Dec.{eqb}
use lib.ListN.{length}
use Rattle.finite.specs.Loops.{one_failed, all_passed, below}
use Rattle.marking.specs.Claims.{claim_passes}
use Rattle.marking.proofs.is_outline.Goals as goal

pub returns-then-is_empty : goal.returns-then-is_empty
unfolding claim_passes
returns-then-is_empty c =
    let none : eqb (length c.args.claim.now) 0 ≡ true = sym c.is_empty.ensures ∙ c.if-is_empty.true in
    rw none c.is_empty-then-is_empty.ensures

pub returns-then-not-is_edge : goal.returns-then-not-is_edge
unfolding claim_passes
returns-then-not-is_edge c =
    let some : eqb (length c.args.claim.now) 0 ≡ false = sym c.is_empty.ensures ∙ c.if-is_empty.false in
    rw some
    (one_failed (record { passed = c.loop-i.invariant; found = c.is_edge.ensures })
    (below (length c.args.claim.now) _) (omega arith) (ap not c.if-not-is_edge.true))

pub returns : goal.returns
unfolding claim_passes
returns c =
    let some : eqb (length c.args.claim.now) 0 ≡ false = sym c.is_empty.ensures ∙ c.if-is_empty.false in
    rw some (all_passed (below (length c.args.claim.now) _) c.loop-i.invariant (omega arith))
