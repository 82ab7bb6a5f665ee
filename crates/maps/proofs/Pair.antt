-- The map after the second point: with one point every dart is fixed, and the new point comes between
-- point 0 and point 0. The outline is 1, 0; all four darts lie on it, and no third point is there to
-- lie left of an edge.
use mathlib.Core.Path.{◌≡◌, refl, sym, ap, subst, ◌∙◌}
use mathlib.Core.Logic.{◌≢◌, ⊎_elim}
use mathlib.Core.Bool.{true, false}
use mathlib.Core.List.{[], ◌∷◌}
use Prim.Native.Nat.{ℕ, ◌<◌}
use native.Mathlib.Omega.{arith}
use lib.Dec.{T}
use lib.ListN.{set, length-set}
use lib.Seq.{get_or-set_same, get_or-set_other}
use Rattle.finite.specs.Tests.{same_or_not, of_true}
use Rattle.finite.specs.Lists.{elem, distinct}
use Rattle.finite.specs.ListLaws.{elem_head, elem_tail, elem_cases, elem_one}
use Rattle.finite.specs.Cycles.{Chain, Cycle}
use Rattle.model.specs.declared.Point.{Point}
use Rattle.model.specs.declared.Map.{Map}
use Rattle.model.specs.Plane.{in_range}
use Rattle.model.specs.Maps.{point_limit, own, helper, owner, point, has_helper, edge_link}
use Rattle.model.specs.Outline.{next_corner, outline}
use Rattle.model.specs.Arrival.{second_kind, freeing_none, join, with_point, pair}
use Rattle.model.specs.Shape.{Shaped, AllBeside}
use Rattle.maps.proofs.Darts.{each_dart, present_owner, present_helper}
use Rattle.maps.proofs.Edges.{length_join, join_first, join_second, join_other}
use Rattle.maps.proofs.Circuits.{Circuit, circuit_outline}
use Rattle.maps.proofs.Soundness.{sound_with_outline}
use Rattle.maps.proofs.Points.{with_point_sound, with_point_noted, freeing_none_fits}
use Rattle.maps.proofs.Splice.{Splices, splice_links, splice_next_left, splice_next_new}

-- with fewer than two points every dart is fixed
pub all_fixed : {m : Map} → Shaped m → m.count < 2 → (d : ℕ) → edge_link m d ≡ d
all_fixed {m} s few =
    each_dart (λ d. edge_link m d ≡ d) (λ k. s.links.lone k ((s.bare few).no_helper k))
    (λ k. s.links.absent (helper k) (λ t. (s.bare few).no_helper k (present_helper m k t)))

-- the helpers of points 0 and 1
pub pair_helper : {m : Map} (p : Point) → Shaped m → (j : ℕ) → j < 2 → T (has_helper (pair m p) j)
unfolding pair with_point has_helper
pair_helper {m} p s j h =
    of_true (has_helper (pair m p) j)
    (⊎_elim
    (λ (e : j ≡ 1).
    rw e
    (get_or-set_same (set m.helpers 0 true) 1 true false
    (omega (arith, length-set m.helpers 0 true, s.links.helpers_whole))))
    (λ (n : j ≢ 1).
    let e : j ≡ 0 = omega arith in
    rw (get_or-set_other (set m.helpers 0 true) 1 j true false n, e)
    (get_or-set_same m.helpers 0 true false (omega (arith, s.links.helpers_whole))))
    (same_or_not j 1))

-- and no other
pub pair_owned : {m : Map} (p : Point) → Shaped m → m.count ≡ 1 → (j : ℕ) → T (has_helper (pair m p) j) → j < 2
unfolding pair with_point has_helper
pair_owned {m} p s one j t =
    ⊎_elim (λ (e : j ≡ 1). omega arith)
    (λ (n : j ≢ 1).
    ⊎_elim (λ (e : j ≡ 0). omega arith)
    (λ (i : j ≢ 0).
    absurd ((s.bare (omega arith)).no_helper j
    (subst T
    (get_or-set_other (set m.helpers 0 true) 1 j true false n ∙ get_or-set_other m.helpers 0 j true false i) t)))
    (same_or_not j 0))
    (same_or_not j 1)

module _ {m : Map} (s : Shaped m) (one : m.count ≡ 1) (p : Point) where
  few : m.count < 2
  few = omega arith

  -- 0 and 3, and 2 and 1
  pub pair_splices : Splices m (pair m p) 0 0
  unfolding pair with_point edge_link
  pair_splices =
      let inner = length_join 0 3 m.edge in
      record {
        count_grows = refl;
        helpers_whole =
            length-set (set m.helpers 0 true) 1 true ∙ (length-set m.helpers 0 true ∙ s.links.helpers_whole);
        edge_whole = length_join 2 1 (join 0 3 m.edge) ∙ (inner ∙ s.links.edge_whole);
        helped_left = pair_helper p s 0 (omega arith);
        helped_right = pair_helper p s 0 (omega arith);
        helped_new = pair_helper p s m.count few;
        helped_old = λ j t. absurd ((s.bare few).no_helper j t);
        helped_owned = λ j t. omega (arith, pair_owned p s one j t);
        at_left =
            rw one
            (join_other 2 1 (join 0 3 m.edge) 0 (omega arith) (omega arith) ∙
            join_first 0 3 m.edge (omega arith) (omega (arith, s.links.edge_whole)));
        at_helper =
            rw one
            (join_other 2 1 (join 0 3 m.edge) 3 (omega arith) (omega arith) ∙
            join_second 0 3 m.edge (omega (arith, s.links.edge_whole)));
        at_right = rw one (join_second 2 1 (join 0 3 m.edge) (omega (arith, inner, s.links.edge_whole)));
        at_own = rw one (join_first 2 1 (join 0 3 m.edge) (omega arith) (omega (arith, inner, s.links.edge_whole)));
        cut = λ d i j t.
            absurd (⊎_elim (λ e. i (sym (all_fixed s few d) ∙ e)) (λ e. j (sym (all_fixed s few d) ∙ e)) t);
        elsewhere = λ d o.
            join_other 2 1 (join 0 3 m.edge) d (λ e. o.not_own (rw one e)) o.not_right ∙
            join_other 0 3 m.edge d o.not_left (λ e. o.not_helper (rw one e));
      }

  pub pair_circuit : Circuit (pair m p) (1 ∷ 0 ∷ [])
  unfolding distinct Cycle Chain
  pair_circuit =
      record {
        all_distinct = tt;
        below = λ a h. omega (arith, pair_splices.count_grows, members_below a h);
        helped = λ a h. pair_helper p s a (members_below a h);
        edges = (
          ap (λ (k : ℕ). edge_link (pair m p) (own k)) (sym one) ∙ pair_splices.at_own,
          (pair_splices.at_left ∙ ap helper one, tt),
        );
      }
    where
      members_below : (a : ℕ) → T (elem a (1 ∷ 0 ∷ [])) → a < 2
      members_below a h =
          ⊎_elim (λ (e : a ≡ 1). omega arith) (λ t. omega (arith, elem_one a 0 t)) (elem_cases a 1 (0 ∷ []) h)

  pub pair_outline : outline (pair m p) ≡ 1 ∷ 0 ∷ []
  unfolding pair with_point
  pair_outline = circuit_outline 1 (0 ∷ []) pair_circuit (omega arith) refl

  -- every point is a corner
  below_two : (a : ℕ) → a < 2 → T (elem a (1 ∷ 0 ∷ []))
  below_two a h =
      ⊎_elim (λ (e : a ≡ 1). rw e (elem_head 1 (0 ∷ [])))
      (λ (n : a ≢ 1). let e : a ≡ 0 = omega arith in rw e (elem_tail 0 1 (0 ∷ []) (elem_head 0 [])))
      (same_or_not a 1)

  -- there is no third point
  pair_beside : AllBeside (pair m p) (1 ∷ 0 ∷ [])
  pair_beside a c h b not_start not_end =
      ⊎_elim
      (λ (e : a ≡ 1).
      let next : next_corner (pair m p) a ≡ 0 =
      ap (next_corner (pair m p)) (e ∙ sym one) ∙ splice_next_new pair_splices in
      absurd (omega (arith, pair_splices.count_grows)))
      (λ t.
      let e : a ≡ 0 = elem_one a 0 t in
      let next : next_corner (pair m p) a ≡ m.count =
      ap (next_corner (pair m p)) e ∙ splice_next_left pair_splices in
      absurd (omega (arith, pair_splices.count_grows)))
      (elem_cases a 1 (0 ∷ []) h)

pub pair_sound : {m : Map} (p : Point) → Shaped m → m.count ≡ 1 → T (in_range p) →
    ((k : ℕ) → k < m.count → point m k ≢ p) → Shaped (pair m p)
unfolding pair with_point
pair_sound {m} p s one ranged differs =
    let room : m.count < point_limit = omega arith in
    let noted = freeing_none second_kind in
    sound_with_outline
    (with_point_sound s room p noted (set (set m.helpers 0 true) 1 true) (join 2 1 (join 0 3 m.edge)) 2
    ranged differs)
    (splice_links s room (omega arith) (omega arith) (pair_splices s one p))
    (with_point_noted s room p noted (set (set m.helpers 0 true) 1 true) (join 2 1 (join 0 3 m.edge)) 2
    (freeing_none_fits second_kind (omega arith)))
    (omega arith)
    (1 ∷ 0 ∷ []) (pair_circuit s one p) (pair_outline s one p) tt (elem_head 1 (0 ∷ []))
    (λ d h o. below_two s one p (owner d) (omega (arith, present_owner (pair m p) d h.is_present)))
    (pair_beside s one p)
