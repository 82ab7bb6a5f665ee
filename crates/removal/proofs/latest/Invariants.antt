-- The loop of `removal::latest`: from place j on no point moved the reference.
use mathlib.Core.Path.{◌≡◌}
use lib.ListN.{length}
use Rattle.removal.specs.Unlinking.{latest}
use Rattle.removal.proofs.latest.Given as goal

abbrev pub invariant-loop-j : goal.invariant-loop-j
invariant-loop-j l = latest l.notes l.j ≡ latest l.notes (length l.notes)
