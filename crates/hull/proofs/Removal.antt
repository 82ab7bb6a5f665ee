-- The last point taken back (request 108), in the order of this page: taken back after its arrival, the map
-- is the one before it (`removal_undoes`); offered again, it brings back the same map (`offer_again`); what
-- a removal comes to, by the first rule that applies: a refused one keeps the map, and every one keeps a
-- map sound.
use mathlib.Core.Path.{◌≡◌, sym, ap, subst, ◌∙◌}
use mathlib.Core.List.{[], ◌∷◌, ◌++◌}
use Prim.Native.Nat.{ℕ, suc, ◌<◌}
use native.Mathlib.Omega.{arith}
use lib.Dec.{T, eqb→eq}
use Rattle.std.specs.declared.result.Result.{Result}
use Rattle.std.specs.declared.result.Result.TheVariants.{Ok, Err}
use Rattle.finite.specs.Tests.{equal_by, not_not}
use Rattle.finite.specs.Bounded.{table, table_more, table_same}
use Rattle.model.specs.declared.Refusal.{Refusal}
use Rattle.model.specs.declared.Point.{Point}
use Rattle.model.specs.declared.Map.{Map}
use Rattle.model.specs.Refusals.{NoneApplies, none, nor, Refuses}
use Rattle.model.specs.Maps.{point, empty_map, map_points}
use Rattle.model.specs.Sound.{sound}
use Rattle.model.specs.Arrival.{arrive, admission_rules}
use Rattle.model.specs.Building.{building_rules, built}
use Rattle.model.specs.Offers.{offer, map_after}
use Rattle.model.specs.Removal.{last, before_last, remove_call, remove, map_left}
use Rattle.model.proofs.Answers.{none_both, RulesDecide, refuses, serves, unless_decides}
use Rattle.model.proofs.Sound.{sound_is}
use Rattle.sight.specs.Requires.{Accepted}
use Rattle.hull.proofs.Outcomes.{accepted_by}
use Rattle.hull.proofs.Building.{arrive_count, arrive_points, building_append, built_append}
use Rattle.hull.proofs.Sound.{built_sound, sound_shaped}
use Rattle.hull.proofs.Offers.{sound_passes, not_refused}

-- "the map is then exactly the one before it"
pub removal_undoes : {m : Map} {p : Point} → T (sound m) → Accepted m p → before_last (arrive m p).map ≡ m
unfolding before_last
removal_undoes {m} {p} t a =
    let new = (arrive m p).map in
    let less : last new ≡ m.count = omega (arith, arrive_count m p) in
    ap (λ (n : ℕ). built empty_map (table n (point new))) less
    ∙ (ap (built empty_map) (table_same m.count (point new) (point m) (arrive_points a).0)
    ∙ sym (sound_is m t).is_built)

-- what the map before the last point is: a sound map, which accepts that point and is then the map
pub record Before (m b : Map) (p : Point) : Type 0 where
  pub is_sound : T (sound b)
  pub accepted : Accepted b p
  pub grows : m ≡ (arrive b p).map

module _ (m : Map) (t : T (sound m)) (some : 0 < m.count) where
  abbrev b : Map
  b = before_last m

  abbrev p : Point
  p = point m (last m)

  -- the points are those before the last, and the last
  points_end : map_points m ≡ table (last m) (point m) ++ p ∷ []
  points_end =
      let more : m.count ≡ suc (last m) = omega arith in
      ap (λ (n : ℕ). table n (point m)) more ∙ table_more (last m) (point m)

  pub before_grows : Before m b p
  unfolding before_last building_rules built
  before_grows =
      let qs = table (last m) (point m) in
      let s = sound_is m t in
      let free : NoneApplies (building_rules empty_map qs ++ building_rules (built empty_map qs) (p ∷ [])) =
      subst NoneApplies (ap (building_rules empty_map) points_end ∙ building_append empty_map qs (p ∷ [])) s.free in
      let parts = none_both (building_rules empty_map qs) free in
      let before = built_sound qs parts.0 in
      record {
        is_sound = before;
        accepted = accepted_by p (sound_shaped (built empty_map qs) before) (none_both (admission_rules (built empty_map qs) p) parts.1).0;
        grows = s.is_built ∙ (ap (built empty_map) points_end ∙ built_append empty_map qs (p ∷ []));
      }

  -- "Offering the point again brings back the same map."
  pub offer_again : map_after b (offer b p) ≡ m
  unfolding map_after
  offer_again =
      ap (map_after b) (not_refused b before_grows.is_sound p before_grows.accepted) ∙ sym before_grows.grows

-- what a removal comes to: the map before the last point, or a refusal
pub data Taken (m : Map) : Result Map Refusal → Type 0 where
  taken : T (sound m) → 0 < m.count → Taken m (Ok (before_last m))
  kept : (r : Refusal) → Refuses r (remove_call m).rules → Taken m (Err r)

pub remove_decided : (m : Map) → Taken m (remove m)
unfolding remove
remove_decided m = decided (remove m) (unless_decides Err (remove_call m).rules (Ok (before_last m)))
  where
    decided : (o : Result Map Refusal) → RulesDecide Err (remove_call m).rules (Ok (before_last m)) o → Taken m o
    decided o (refuses r first) = kept r first
    decided o (serves (nor unsound (nor no_point none))) =
        let some : ¬ (m.count ≡ 0) = λ e. no_point (equal_by m.count 0 e) in
        taken (not_not (sound m) unsound) (omega (arith, some))

-- a sound map with a point is not refused
pub none_refuses : (m : Map) → T (sound m) → 0 < m.count → NoneApplies (remove_call m).rules
none_refuses m t some = nor (sound_passes m t) (nor (λ z. omega (arith, eqb→eq m.count 0 z)) none)

-- a refused removal leaves the map as it was
pub refused_removal_keeps : (m : Map) (r : Refusal) → remove m ≡ Err r → map_left m (remove m) ≡ m
unfolding map_left
refused_removal_keeps m r e = ap (map_left m) e

-- every removal keeps a map sound
pub removal_sound : (m : Map) → T (sound m) → T (sound (map_left m (remove m)))
unfolding map_left
removal_sound m t = keeps (remove m) (remove_decided m)
  where
    keeps : (o : Result Map Refusal) → Taken m o → T (sound (map_left m o))
    keeps o (taken s some) = (before_grows m s some).is_sound
    keeps o (kept r first) = t
