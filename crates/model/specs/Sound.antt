-- A sound map. Document 02, request 107: "A sound map is from here on one that its points, offered in order,
-- build, records included." Document 01's own sentences on sound maps hold of every such map: `sound_shaped` of
-- hull/proofs/Sound, with model/specs/Shape. That these are the maps that offers lead to is `sound_reachable` of
-- hull/proofs/Runs.
use Rattle.std.specs.Prelude.{Bool, false, ◌&&◌, eqb}
use Rattle.std.specs.Bool.{beq}
use Rattle.finite.specs.Lists.{same_list, same_by}
use Rattle.model.specs.declared.Note.{Note}
use Rattle.model.specs.declared.Map.{Map}
use Rattle.model.specs.Refusals.{unless}
use Rattle.model.specs.Plane.{same_point}
use Rattle.model.specs.Maps.{empty_map, map_points}
use Rattle.model.specs.Building.{building_rules, built}

-- two notes are the same
unfoldable pub same_note : Note → Note → Bool
same_note n o = eqb n.arrival o.arrival && eqb n.left o.left && eqb n.right o.right

-- two maps have the same fields
unfoldable pub agree : Map → Map → Bool
agree m n =
    eqb m.count n.count && eqb m.reference n.reference && same_by same_point m.points n.points
    && same_by beq m.helpers n.helpers
    && same_list m.edge n.edge
    && same_by same_note m.notes n.notes

-- none of its points is refused, and the map is the one that they build
unfoldable pub sound : Map → Bool
sound m =
    unless (λ r. false) (building_rules empty_map (map_points m)) (agree m (built empty_map (map_points m)))
