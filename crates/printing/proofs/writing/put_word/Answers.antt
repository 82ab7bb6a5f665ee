use mathlib.Core.Path.{refl}
use Prim.Native.Nat.{◌+◌, ◌<◌}
use native.Mathlib.Omega.{arith}
use lib.ListN.{length}
use Rattle.finite.specs.Overwriting.{none_copied, one_copied}
use Rattle.printing.proofs.Overwriting.{wrote_word}
use Rattle.printing.proofs.writing.put_word.Goals as goal
use Rattle.printing.proofs.writing.put_word.Goals.{In-loop-i}

pub loop-i-init : goal.loop-i-init
loop-i-init c = none_copied

below_end : (c : In-loop-i) →
    c.args.at + c.loop-i.i < length c.loop-i.lent
below_end c = omega (arith, c.requires.room, c.loop-i.invariant.long)

pub overflow_add-lent : goal.overflow_add-lent
overflow_add-lent c = omega (arith, c.requires.room)

pub bounds-lent-at : goal.bounds-lent-at
bounds-lent-at c = below_end (goal.at.bounds-lent-at c).In-loop-i

pub loop-i-preserved : goal.loop-i-preserved
loop-i-preserved c = one_copied c.loop-i.invariant 0 refl c.loop-i-test.true
    (omega (arith, c.requires.room))

pub overflow_add-result : goal.overflow_add-result
overflow_add-result c = omega (arith, c.requires.room)

pub returns : goal.returns
returns c = wrote_word c.loop-i.invariant c.loop-i-test.false
