-- `saved::writing::write_block` meets its contract: the loop has written i fields of the rule, whichever it is.
use Prim.Native.Nat.{ℕ}
use Rattle.saved.specs.Fields.{Gives}
use Rattle.layout.proofs.Loops.{BlockPut}
use Rattle.saved.proofs.writing.write_block.Given as goal

abbrev pub invariant-loop-i : goal.invariant-loop-i
invariant-loop-i g l =
    (f : ℕ → ℕ) → Gives (goal.F-post g l.field) l.count f → BlockPut f l.width l.count l.initial.lent l.i l.lent
