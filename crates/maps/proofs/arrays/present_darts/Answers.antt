use native.Mathlib.Omega.{arith}
use Rattle.finite.specs.Loops.{all_filled}
use Rattle.maps.proofs.arrays.present_darts.Goals as goal

pub returns : goal.returns
returns c = all_filled c.loop-d.d c.loop-d.invariant (omega arith)
