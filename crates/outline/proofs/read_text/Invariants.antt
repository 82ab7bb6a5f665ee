-- The loop of `outline::read_text`: reads brought to so many bytes, and the measure is what is left of
-- the list.
use Prim.Native.Nat.{◌-◌}
use lib.ListN.{length}
use Rattle.outline.proofs.Reading.{Filling}
use Rattle.outline.proofs.read_text.Given as goal

abbrev pub invariant-loop-filled : goal.invariant-loop-filled
invariant-loop-filled g l =
    Filling (g.R.Read.remaining l.initial.stdin) (g.R.Read.remaining l.stdin) l.initial.text l.text l.filled

abbrev pub decreases-loop-filled : goal.decreases-loop-filled
decreases-loop-filled g l = length l.initial.text - l.filled
