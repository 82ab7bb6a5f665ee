-- `soundness::is_sound` meets its contract, for every map: where a point is refused the map is not sound, and
-- else it is where it agrees with what its points build.
use mathlib.Core.Path.{◌≡◌, refl, sym, ap, ◌∙◌}
use mathlib.Core.Bool.{Bool, false}
use Rattle.std.specs.Prelude.{Option, Some, None}
use Rattle.model.specs.declared.Map.{Map}
use Rattle.model.specs.Maps.{point, empty_map, map_points}
use Rattle.model.specs.Building.{building_rules, built}
use Rattle.model.specs.Sound.{agree, sound}
use Rattle.model.proofs.Answers.{unless_made}
use Rattle.soundness.specs.Rebuilding.{rebuilt}
use Rattle.soundness.proofs.is_sound.Goals as goal

-- whether a map is what its points build
agrees_with : Map → Option Map → Bool
agrees_with m (Some n) = agree m n
agrees_with m None = false

decided : (m : Map) → agrees_with m (rebuilt (map_points m)) ≡ sound m
unfolding agrees_with sound
decided m =
    unless_made (agrees_with m) (λ r. None) (λ r. false) (λ r. refl) (building_rules empty_map (map_points m))
    (Some (built empty_map (map_points m)))

pub returns-in-Some : goal.returns-in-Some
unfolding agrees_with point
returns-in-Some c =
    let m = c.args.map.now in
    c.agree.ensures ∙ ap (agrees_with m) (sym c.in-Some.is ∙ c.rebuild.ensures) ∙ decided m

pub returns-in-None : goal.returns-in-None
unfolding agrees_with point
returns-in-None c =
    let m = c.args.map.now in
    ap (agrees_with m) (sym c.in-None.is ∙ c.rebuild.ensures) ∙ decided m
