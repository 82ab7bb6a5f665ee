-- `layout::bytes_at_most` meets its contract: the loop tests the first byte of every group.
use mathlib.Core.Bool.{Bool}
use mathlib.Core.List.{List}
use Prim.Native.Nat.{ℕ, ◌+◌, ◌*◌}
use lib.Dec.{leb}
use Rattle.model.specs.Saved.{number_at}
use Rattle.finite.specs.Loops.{Passed}
use Rattle.layout.proofs.bytes_at_most.Given as goal

abbrev pub here : List ℕ → ℕ → ℕ → ℕ → ℕ → Bool
here file at width limit k = leb (number_at file (at + width * k) 1) limit

abbrev pub invariant-loop-k : goal.invariant-loop-k
invariant-loop-k l = Passed (here l.file l.at l.width l.limit) 0 l.k
