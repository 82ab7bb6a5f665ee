-- A list of points offered one after another, in the order of this page: why they are not all accepted, by the first
-- refusal met; the map that they build where they are. Neither asks whether the map is sound, since from a sound map
-- every accepted offer leads to a sound one. That from the empty map these are the refusals and the map of document
-- 01's offers is `all_accepted`, `first_refusal_met` and `built_is_run` of hull/proofs/Runs.
use Rattle.std.specs.Prelude.{List, [], ◌∷◌, ◌++◌}
use Rattle.model.specs.declared.Point.{Point}
use Rattle.model.specs.declared.Map.{Map}
use Rattle.model.specs.Refusals.{Rule}
use Rattle.model.specs.Arrival.{arrive, admission_rules}

-- the rules of the first point, and then of the others, each for the map after those before it
unfoldable pub building_rules : Map → List Point → List Rule
building_rules m [] = []
building_rules m (p ∷ ps) = admission_rules m p ++ building_rules (arrive m p).map ps

-- the map after all of them, where no rule applies
unfoldable pub built : Map → List Point → Map
built m [] = m
built m (p ∷ ps) = built (arrive m p).map ps
