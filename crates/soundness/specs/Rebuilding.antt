-- Points that are offered anew: the map that they build, or none where one of them is refused.
use Rattle.std.specs.Prelude.{Option, Some, None, List}
use Rattle.model.specs.declared.Point.{Point}
use Rattle.model.specs.declared.Map.{Map}
use Rattle.model.specs.Refusals.{unless}
use Rattle.model.specs.Maps.{empty_map}
use Rattle.model.specs.Building.{building_rules, built}

abbrev pub rebuilt : List Point → Option Map
rebuilt ps = unless (λ r. None) (building_rules empty_map ps) (Some (built empty_map ps))

-- a map that was lent for it, where one is told
abbrev pub rebuilt_in : {A : Type 0} → Option A → Map → Option Map
rebuilt_in (Some a) m = Some m
rebuilt_in None m = None
