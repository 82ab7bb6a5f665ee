-- The loop of `sight::turning_from`: what is found before the corner at hand and what is still ahead make up
-- the answer.
use mathlib.Core.Path.{◌≡◌}
use Prim.Native.Nat.{◌-◌}
use Rattle.model.specs.Maps.{point}
use Rattle.sight.proofs.Seeing.{SightAhead}
use Rattle.sight.proofs.turning_from.Given as goal

abbrev pub invariant-loop : goal.invariant-loop
invariant-loop l =
    SightAhead l.map l.outlook.point l.entering l.left l.right l.visible l.a (l.map.count - l.counter)
    × (l.from.point ≡ point l.map l.a)
