-- Sound maps are those that points build: what they build from the empty map is sound (`built_sound`), a sound map
-- is shaped, so that document 01's sentences hold of it (`sound_shaped`), and with one accepted point more it is
-- sound again (`sound_grows`). "The empty map, which is the sound map without points" is `empty_is_sound` and
-- `empty_only`. Not every shaped map is sound (`another_reference`).
use mathlib.Core.Path.{◌≡◌, refl, sym, ap, subst, ◌∙◌}
use mathlib.Core.Logic.{◌≢◌}
use mathlib.Core.List.{List, [], ◌∷◌, ◌++◌}
use Prim.Native.Nat.{ℕ}
use lib.Dec.{T}
use Rattle.finite.specs.Bounded.{table, table_onto}
use Rattle.finite.specs.Lists.{elem}
use Rattle.model.specs.declared.Point.{Point}
use Rattle.model.specs.declared.Map.{Map}
use Rattle.model.specs.Refusals.{NoneApplies, none}
use Rattle.model.specs.Maps.{own, point, empty_map, map_points}
use Rattle.model.specs.Outline.{outline}
use Rattle.model.specs.Shape.{Shaped}
use Rattle.model.specs.Arrival.{arrive}
use Rattle.model.specs.Building.{building_rules, built}
use Rattle.model.specs.Sound.{sound}
use Rattle.model.proofs.Answers.{none_append}
use Rattle.model.proofs.Sound.{sound_is, sound_by}
use Rattle.maps.proofs.Empty.{empty_sound}
use Rattle.maps.proofs.Referenced.{referring, referring_shaped}
use Rattle.sight.specs.Requires.{Accepted}
use Rattle.hull.proofs.Outcomes.{none_applies}
use Rattle.hull.proofs.Building.{building_append, built_append, built_shaped, built_keeps}

no_points : map_points empty_map ≡ []
unfolding empty_map table table_onto
no_points = refl

-- the points of the map that points build from the empty map are these
pub points_built : (ps : List Point) → NoneApplies (building_rules empty_map ps) →
    map_points (built empty_map ps) ≡ ps
points_built ps free = built_keeps empty_sound ps free ∙ ap (λ (q : List Point). q ++ ps) no_points

-- what points build is sound
pub built_sound : (ps : List Point) → NoneApplies (building_rules empty_map ps) → T (sound (built empty_map ps))
built_sound ps free =
    let same = sym (points_built ps free) in
    sound_by (built empty_map ps)
    (record {
      free = subst (λ (q : List Point). NoneApplies (building_rules empty_map q)) same free;
      is_built = ap (built empty_map) same;
    })

-- document 01's sentences hold of a sound map
pub sound_shaped : (m : Map) → T (sound m) → Shaped m
sound_shaped m t =
    let s = sound_is m t in
    subst Shaped (sym s.is_built) (built_shaped empty_sound (map_points m) s.free)

-- a sound map with one accepted point more is sound
pub sound_grows : {m : Map} {p : Point} → T (sound m) → Accepted m p → T (sound (arrive m p).map)
unfolding building_rules built
sound_grows {m} {p} t a =
    let s = sound_is m t in
    let qs = map_points m in
    let next = subst (λ (n : Map). NoneApplies (building_rules n (p ∷ []))) s.is_built (none_append (none_applies p a) none) in
    let free : NoneApplies (building_rules empty_map (qs ++ p ∷ [])) =
    subst NoneApplies (sym (building_append empty_map qs (p ∷ []))) (none_append s.free next) in
    subst (λ (n : Map). T (sound n))
    (built_append empty_map qs (p ∷ []) ∙ ap (λ (n : Map). (arrive n p).map) (sym s.is_built))
    (built_sound (qs ++ p ∷ []) free)

-- ---- the empty map

pub empty_is_sound : T (sound empty_map)
unfolding building_rules built
empty_is_sound = built_sound [] none

pub empty_only : (m : Map) → T (sound m) → m.count ≡ 0 → m ≡ empty_map
unfolding built table table_onto
empty_only m t e =
    (sound_is m t).is_built ∙ ap (λ (n : ℕ). built empty_map (table n (point m))) e

-- ---- shaped maps that are not sound

-- Document 01's sentences do not make a map sound: with another corner's own dart for its reference a sound map
-- keeps them, and is not the one that its points build.
pub another_reference : (m : Map) → T (sound m) → (a : ℕ) → T (elem a (outline m)) → own a ≢ m.reference →
    Shaped (referring m a) × ¬ T (sound (referring m a))
unfolding point
another_reference m t a on other = (
  referring_shaped (sound_shaped m t) a on,
  λ u.
      other
      (ap (λ (n : Map). n.reference) ((sound_is (referring m a) u).is_built ∙ sym (sound_is m t).is_built)),
)
