-- A survey of points that all differ, in the order of this page: points of which no two are equal; a point
-- that is to stand after the points of a map and differs from them is accepted; so different points in range, no
-- more than there is room for, are not refused, and in their order they are the map's points (`points_kept`).
use mathlib.Core.Path.{◌≡◌, sym, ap, subst, ◌∙◌}
use mathlib.Core.Logic.{◌≢◌}
use mathlib.Core.List.{List, [], ◌∷◌, ◌++◌, append_assoc, append-nil}
use Prim.Native.Nat.{ℕ, suc, ◌+◌, ◌≤◌, ◌<◌}
use native.Mathlib.Omega.{arith}
use lib.Dec.{T}
use lib.ListN.{length, get_or, length-append, get_or-append}
use lib.Seq.{get_or_at}
use Rattle.std.specs.declared.result.Result.{Result}
use Rattle.finite.specs.Tests.{and_left, and_right}
use Rattle.finite.specs.Bounded.{table, table_onto, length_table, get_or_table}
use Rattle.finite.specs.Lists.{all_in}
use Rattle.model.specs.declared.Point.{Point}
use Rattle.model.specs.declared.Map.{Map}
use Rattle.model.specs.declared.Refusal.{Refusal}
use Rattle.model.specs.declared.Offered.{Offered}
use Rattle.model.specs.Plane.{origin, in_range}
use Rattle.model.specs.Maps.{point_limit, point, empty_map, map_points}
use Rattle.model.specs.Shape.{Shaped}
use Rattle.model.specs.Sound.{sound}
use Rattle.model.specs.Arrival.{arrive}
use Rattle.model.specs.History.{Run, extended_by, extended, run_from, run}
use Rattle.sight.specs.Requires.{Accepted}
use Rattle.hull.proofs.Building.{arrive_count, points_more}
use Rattle.hull.proofs.Sound.{sound_shaped, sound_grows, empty_is_sound}
use Rattle.hull.proofs.Offers.{not_refused}

-- no two of the points are equal
abbrev pub Different : List Point → Type 0
Different ps = (j k : ℕ) → j < k → k < length ps → get_or ps j origin ≢ get_or ps k origin

-- ---- points that all differ

-- a point that is to stand after the points of a map, and differs from them all
point_accepted : {m : Map} → Shaped m → (p : Point) (ps : List Point) → m.count < point_limit → T (in_range p) →
    Different (map_points m ++ p ∷ ps) → Accepted m p
point_accepted {m} s p ps room ranged different =
    let long = length_table m.count (point m) in
    record {
      is_sound = s;
      room = room;
      ranged = ranged;
      fresh = λ k h e.
          different k m.count h (omega (arith, long, length-append (map_points m) (p ∷ ps)))
          (get_or-append (map_points m) (p ∷ ps) origin k (rw long h)
          ∙ (get_or_table m.count (point m) k origin h ∙ (e ∙ sym (get_or_at (map_points m) p ps origin m.count long))));
    }

-- it is not refused
extended_map : (r : Run) (p : Point) → T (sound r.map) → Accepted r.map p →
    (extended r p).map ≡ (arrive r.map p).map
unfolding extended extended_by
extended_map r p s a =
    ap (λ (o : Result Offered Refusal). (extended_by r p o).map) (not_refused r.map s p a)

-- offered to a sound map from which they differ too, they stand after its points
built_from : (r : Run) → T (sound r.map) → (ps : List Point) → r.map.count + length ps ≤ point_limit →
    T (all_in in_range ps) → Different (map_points r.map ++ ps) →
    map_points (run_from r ps).map ≡ map_points r.map ++ ps
unfolding run_from all_in
built_from r s [] room ranged different = sym (append-nil (map_points r.map))
built_from r s (p ∷ ps) room ranged different =
    let m = r.map in
    let a = point_accepted (sound_shaped m s) p ps (omega arith) (and_left (in_range p) (all_in in_range ps) ranged) different in
    let next = extended_map r p s a in
    let grows : (extended r p).map.count ≡ suc m.count = ap (λ (n : Map). n.count) next ∙ arrive_count m p in
    let all : map_points (extended r p).map ++ ps ≡ map_points m ++ p ∷ ps =
    ap (λ (n : Map). map_points n ++ ps) next
    ∙ (ap (λ (q : List Point). q ++ ps) (points_more a) ∙ append_assoc (map_points m) (p ∷ []) ps) in
    built_from (extended r p) (subst (λ (n : Map). T (sound n)) (sym next) (sound_grows s a)) ps (omega arith)
    (and_right (in_range p) (all_in in_range ps) ranged) (subst Different (sym all) different)
    ∙ all

-- from the empty map none is refused, and they are the map's points in order
module _ (ps : List Point) (few : length ps ≤ point_limit) (ranged : T (all_in in_range ps)) (different : Different ps) where
  pub points_kept : map_points (run ps).map ≡ ps
  unfolding run table table_onto empty_map
  points_kept = built_from (record { map = empty_map; history = [] }) empty_is_sound ps (omega arith) ranged different

  pub built_count : (run ps).map.count ≡ length ps
  built_count = sym (length_table (run ps).map.count (point (run ps).map)) ∙ ap length points_kept

  pub built_point : (k : ℕ) → k < length ps → point (run ps).map k ≡ get_or ps k origin
  built_point k h =
      sym (get_or_table (run ps).map.count (point (run ps).map) k origin (rw built_count h))
      ∙ ap (λ (s : List Point). get_or s k origin) points_kept
