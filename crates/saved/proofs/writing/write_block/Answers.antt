use native.Mathlib.Nat.{le_trans, mul-le-mul_left}
use native.Mathlib.Omega.{arith}
use Rattle.layout.proofs.Loops.{no_field_put, one_field_put}
use Rattle.saved.proofs.writing.write_block.Goals as goal

pub loop-i-init : goal.loop-i-init
loop-i-init g c = λ f gives. no_field_put

pub loop-i-preserved : goal.loop-i-preserved
loop-i-preserved g c = λ f gives.
    one_field_put (c.loop-i.invariant f gives) (omega arith) (omega arith)
    (le_trans (mul-le-mul_left c.args.width (omega arith)) c.requires.room)
    (gives c.loop-i.i c.field-number.result (omega arith) c.field-number.ensures)
    c.put_number.ensures
