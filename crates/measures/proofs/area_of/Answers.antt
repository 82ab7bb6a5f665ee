-- `measures::area_of` meets its contract: fewer than three points give 0, a place without a corner is refused, and
-- otherwise the fan from the corner at the place is summed up.
use mathlib.Core.Path.{ap, ◌∙◌}
use native.Mathlib.Omega.{arith}
use mir.Syntax.{w64}
use mir.ValLaws.{to_z-of_z}
use Rattle.model.specs.Maps.{point}
use Rattle.measures.proofs.Calls.{place_refused, place_served, fan_fits}
use Rattle.measures.proofs.area_of.Goals as goal

pub returns-in_default : goal.returns-in_default
returns-in_default c =
    place_refused c.args.sound.map.now c.args.place (c.as_slice-corners.ensures ∙ c.corners_of-list.ensures.members)
    (omega arith) c.in_default.ensures.lookup.3

pub fan_from-requires : goal.fan_from-requires
fan_from-requires c =
    fan_fits c.args.sound.map.now c.args.place (c.as_slice-corners.ensures ∙ c.corners_of-list.ensures.members)
    (omega arith) c.args.sound.shaped c.point.result.point c.in-Some.ensures.lookup.3.0
    (c.point.ensures ∙ ap (point c.args.sound.map.now) (c.in-Some.ensures.lookup.3.1 0))

pub returns : goal.returns
returns c =
    place_served c.args.sound.map.now c.args.place (c.as_slice-corners.ensures ∙ c.corners_of-list.ensures.members)
    (omega arith) c.point.result.point _ c.in-Some.ensures.lookup.3.0
    (to_z-of_z w64 c.fan_from.result (record { sfits = c.fan_from.type_inv }) ∙ c.fan_from.ensures)
