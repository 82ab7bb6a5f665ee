-- Points offered one after another (model/specs/Building), in the order of this page: what one arrival leaves; the
-- rules and the map of a list of points in two parts; where no rule applies, the map that they build is shaped, and
-- its points are those of the map before and then these. That these are document 01's offers is proofs/Runs.
use mathlib.Core.Path.{◌≡◌, refl, sym, ap, ◌∙◌}
use mathlib.Core.Bool.{Bool}
use mathlib.Core.List.{List, [], ◌∷◌, ◌++◌, append_assoc, append-nil}
use Prim.Native.Nat.{ℕ, suc, ◌+◌, ◌<◌}
use native.Mathlib.Nat.{zero-add}
use native.Mathlib.Omega.{arith}
use lib.ListN.{length, set}
use Rattle.finite.specs.Bounded.{table, table_more, table_same}
use Rattle.model.specs.declared.Note.{Note}
use Rattle.model.specs.declared.Point.{Point}
use Rattle.model.specs.declared.Map.{Map}
use Rattle.model.specs.declared.Offered.{Offered}
use Rattle.model.specs.Refusals.{Rule, NoneApplies}
use Rattle.model.specs.Maps.{point, empty_map, map_points}
use Rattle.model.specs.Shape.{Shaped}
use Rattle.model.specs.Arrival.{with_point, alone, pair, spliced, arrive, admission_rules}
use Rattle.model.specs.Building.{building_rules, built}
use Rattle.model.proofs.Answers.{none_both}
use Rattle.maps.proofs.Points.{point_new, point_old}
use Rattle.sight.specs.Requires.{Accepted}
use Rattle.hull.proofs.Outcomes.{accepted_by, Arrives, first, second, inside, outside, arrive_arrives}
use Rattle.hull.proofs.Arrivals.{arrive_sound}

-- ---- what one arrival leaves

module _ (m : Map) (p : Point) where
  -- what holds of every map with p as its next point, whatever is noted of p, whatever its helpers, edge links and reference, holds of it
  arrive_holds : (Q : Map → Type 0) →
      ((noted : Note) (helpers : List Bool) (edge : List ℕ) (reference : ℕ) →
      Q (with_point m p noted helpers edge reference)) →
      Q (arrive m p).map
  unfolding alone pair spliced
  arrive_holds Q q = holds (arrive m p) (arrive_arrives m p)
    where
      holds : (o : Offered) → Arrives m p o → Q o.map
      holds o (first e) = q _ _ _ _
      holds o (second e) = q _ _ _ _
      holds o (inside two e) = q _ _ _ _
      holds o (outside two n) = q _ _ _ _

  -- there is one point more, at the end
  pub arrive_list : (arrive m p).map.points ≡ set m.points m.count p
  unfolding with_point
  arrive_list = arrive_holds (λ new. new.points ≡ set m.points m.count p) (λ noted helpers edge reference. refl)

  pub arrive_count : (arrive m p).map.count ≡ suc m.count
  unfolding with_point
  arrive_count = arrive_holds (λ new. new.count ≡ suc m.count) (λ noted helpers edge reference. refl)

-- every point is where it was, and the new one after them
pub arrive_points : {m : Map} {p : Point} → Accepted m p →
    ((k : ℕ) → k < m.count → point (arrive m p).map k ≡ point m k) × (point (arrive m p).map m.count ≡ p)
arrive_points {m} {p} a =
    arrive_holds m p (λ new. ((k : ℕ) → k < m.count → point new k ≡ point m k) × (point new m.count ≡ p))
    (λ noted helpers edge reference. (
      λ k h. point_old a.is_sound a.room p noted helpers edge reference k (omega arith),
      point_new a.is_sound a.room p noted helpers edge reference,
    ))

-- the points of a map with one point more
pub points_grow : {m : Map} {p : Point} → Accepted m p → (noted : Note) (helpers : List Bool) (edge : List ℕ) (reference : ℕ) →
    table (suc m.count) (point (with_point m p noted helpers edge reference)) ≡ table m.count (point m) ++ p ∷ []
points_grow {m} {p} a noted helpers edge reference =
    let new = with_point m p noted helpers edge reference in
    table_more m.count (point new) ∙
    (ap (λ (q : Point). table m.count (point new) ++ q ∷ []) (point_new a.is_sound a.room p noted helpers edge reference) ∙
    ap (λ (s : List Point). s ++ p ∷ [])
    (table_same m.count (point new) (point m)
    (λ k h. point_old a.is_sound a.room p noted helpers edge reference k (omega arith))))

pub points_more : {m : Map} {p : Point} → Accepted m p → map_points (arrive m p).map ≡ map_points m ++ p ∷ []
unfolding with_point
points_more {m} {p} a = arrive_holds m p (λ new. map_points new ≡ map_points m ++ p ∷ []) (points_grow a)

-- ---- the rules and the map of a list of points

-- the rules of points in two parts
pub building_append : (m : Map) (qs ps : List Point) →
    building_rules m (qs ++ ps) ≡ building_rules m qs ++ building_rules (built m qs) ps
unfolding building_rules built
building_append m [] ps = refl
building_append m (q ∷ qs) ps =
    ap (λ (rules : List Rule). admission_rules m q ++ rules) (building_append (arrive m q).map qs ps)

-- the map has one point more for each
built_more : (m : Map) (ps : List Point) → (built m ps).count ≡ m.count + length ps
unfolding built
built_more m [] = omega arith
built_more m (p ∷ ps) = omega (arith, built_more (arrive m p).map ps, arrive_count m p)

pub built_points : (ps : List Point) → (built empty_map ps).count ≡ length ps
unfolding empty_map
built_points ps = rw zero-add at (built_more empty_map ps)

pub built_append : (m : Map) (qs ps : List Point) → built m (qs ++ ps) ≡ built (built m qs) ps
unfolding built
built_append m [] ps = refl
built_append m (q ∷ qs) ps = built_append (arrive m q).map qs ps

-- ---- where no rule applies

-- the map that they build is shaped, and its points are those before and then these
record Built (m : Map) (ps : List Point) : Type 0 where
  is_shaped : Shaped (built m ps)
  has_points : map_points (built m ps) ≡ map_points m ++ ps

built_from : {m : Map} → Shaped m → (ps : List Point) → NoneApplies (building_rules m ps) → Built m ps
unfolding building_rules built
built_from {m} s [] free = record { is_shaped = s; has_points = sym (append-nil (map_points m)) }
built_from {m} s (p ∷ ps) free =
    let both = none_both (admission_rules m p) free in
    let a = accepted_by p s both.0 in
    let rest = built_from {m = (arrive m p).map} (arrive_sound a) ps both.1 in
    record {
      is_shaped = rest.is_shaped;
      has_points =
          rest.has_points
          ∙ (ap (λ (q : List Point). q ++ ps) (points_more a) ∙ append_assoc (map_points m) (p ∷ []) ps);
    }

pub built_shaped : {m : Map} → Shaped m → (ps : List Point) → NoneApplies (building_rules m ps) → Shaped (built m ps)
built_shaped s ps free = (built_from s ps free).is_shaped

pub built_keeps : {m : Map} → Shaped m → (ps : List Point) → NoneApplies (building_rules m ps) →
    map_points (built m ps) ≡ map_points m ++ ps
built_keeps s ps free = (built_from s ps free).has_points
