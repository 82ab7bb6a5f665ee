use borrow.Author.Tests.{le-leb, lt-leb}
use mathlib.Core.Path.{ap}
use mathlib.Core.Bool.{not}
use Prim.Native.Nat.{ℕ, suc, ◌+◌, ◌*◌, ◌≤◌}
use native.Mathlib.Nat.{mul-le-mul_left, mul-suc}
use native.Mathlib.Omega.{arith}
use lib.Dec.{leb}
use Rattle.finite.specs.Loops.{Iteration, none_passed, one_passed, one_failed, all_passed, below}
use Rattle.layout.proofs.bytes_at_most.Invariants.{here}
use Rattle.layout.proofs.bytes_at_most.Goals as goal
use Rattle.layout.proofs.bytes_at_most.Goals.{After-number_at, In-loop-k}

pub loop-k-init : goal.loop-k-init
loop-k-init c = none_passed _ 0

-- group k ends where the groups end or before
within : (c : In-loop-k) →
    let a = c.args in
    a.width * c.loop-k.k + a.width ≤ a.width * a.count
within c =
    let a = c.args in
    let k = c.loop-k.k in
    omega (arith, mul-suc a.width k, mul-le-mul_left {m = suc k} {n = a.count} a.width (omega arith))

pub overflow_mul-width : goal.overflow_mul-width
overflow_mul-width c = omega (arith, within (goal.at.overflow_mul-width c).In-loop-k)

pub overflow_add-at : goal.overflow_add-at
overflow_add-at c = omega (arith, within (goal.at.overflow_add-at c).In-loop-k)

pub number_at-requires : goal.number_at-requires
number_at-requires c = (omega (arith, within (goal.at.number_at-requires c).In-loop-k), omega arith)

module _ (c : After-number_at) where
  step :
      Iteration (here c.args.file.now c.args.at c.args.width c.args.limit) 0
      c.loop-k.k
      (leb c.number_at.result c.args.limit)
  step =
      record {
        passed = c.loop-k.invariant;
        found = ap (λ (b : ℕ). leb b c.args.limit) c.number_at.ensures.0;
      }

pub returns-then-limit-number_at : goal.returns-then-limit-number_at
returns-then-limit-number_at c =
    one_failed (step (goal.at.returns-then-limit-number_at c).After-number_at) (below _ _) (omega arith)
    (ap not (lt-leb c.number_at.result _ c.if-limit-number_at.true))

pub loop-k-preserved : goal.loop-k-preserved
loop-k-preserved c = one_passed (step (goal.at.loop-k-preserved c).After-number_at)
    (ap not (le-leb c.number_at.result _ c.if-limit-number_at.false))

pub returns : goal.returns
returns c = all_passed (below _ _) c.loop-k.invariant (omega arith)
