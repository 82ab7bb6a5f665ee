-- `maps::traversal::dart_count` meets its contract: the loop has counted the present darts below d.
use mathlib.Core.Path.{◌≡◌}
use Prim.Native.Nat.{◌≤◌}
use Rattle.finite.specs.Bounded.{count}
use Rattle.model.specs.Maps.{own}
use Rattle.model.specs.Maps.{is_present}
use Rattle.maps.proofs.traversal.dart_count.Given as goal

abbrev pub invariant-loop-d : goal.invariant-loop-d
invariant-loop-d l =
    (l.d ≤ l.d-end) × (l.d-end ≡ own l.map.count) ×
    (l.darts ≡ count l.d (is_present l.map))
