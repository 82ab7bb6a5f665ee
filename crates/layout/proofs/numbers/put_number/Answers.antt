use Rattle.layout.proofs.Loops.{no_byte_put, one_byte_put, all_bytes_put}
use Rattle.layout.proofs.numbers.put_number.Goals as goal

pub loop-place-init : goal.loop-place-init
loop-place-init c = no_byte_put _ _ _

pub loop-place-preserved : goal.loop-place-preserved
loop-place-preserved c = one_byte_put c.loop-place.invariant c.requires c.loop-place-test.true

pub returns : goal.returns
returns c = all_bytes_put c.loop-place.invariant c.loop-place-test.false
