-- The map after the first point and after an inside point: one dart more, which both links fix.
-- Links and helpers are the old ones, so the outline is the old one, and the map is sound where the
-- new point is in range, differs from the others and lies beside each outline edge.
use mathlib.Core.Path.{◌≡◌, refl, sym, ap, subst, ◌∙◌}
use mathlib.Core.Logic.{◌≢◌, ◌⊎◌, inl, inr, ⊎_elim}
use Prim.Native.Nat.{ℕ, ◌≤◌, ◌<◌}
use native.Mathlib.Omega.{arith}
use lib.Dec.{T}
use Rattle.finite.specs.Bounded.{lt_or_ge, below_suc}
use Rattle.finite.specs.Lists.{elem}
use Rattle.orbits.specs.Reach.{here}
use Rattle.orbits.proofs.ClosedWalks.{ClosedPart}
use Rattle.model.specs.declared.Point.{Point}
use Rattle.model.specs.declared.Map.{Map}
use Rattle.model.specs.Plane.{in_range, beside}
use Rattle.model.specs.Maps.{point_limit, own, owner, point, has_helper, is_present, edge_link, point_link}
use Rattle.model.specs.Outline.{next_corner, outline}
use Rattle.model.specs.Arrival.{freeing_none, with_point, alone}
use Rattle.model.specs.Shape.{Shaped, ShapedPoints, ShapedLinks, ShapedNotes, AllBeside}
use Rattle.maps.proofs.Darts.{by_present, own_present, helper_present, present_owner, present_dart}
use Rattle.maps.proofs.Links.{DartOf}
use Rattle.maps.proofs.Circuits.{Circuit, circuit_outline}
use Rattle.maps.proofs.Outline.{outline_begins, outline_first, outline_circuit, outline_next, outline_reach, reference_closed_alone}
use Rattle.maps.proofs.Soundness.{sound_without_outline, sound_with_outline}
use Rattle.maps.proofs.Points.{point_new, point_old, with_point_sound, with_point_noted, freeing_none_fits}

-- ---- what the new map has of the old one

module _ (kind : ℕ) (m : Map) (p : Point) where
  -- an old dart is present, and so is the new one
  pub alone_present_old : (d : ℕ) → T (is_present m d) → T (is_present (alone kind m p) d)
  unfolding alone with_point has_helper
  alone_present_old =
      by_present m (λ d. T (is_present (alone kind m p) d)) (λ k h. own_present (alone kind m p) k (omega arith))
      (λ k h t. helper_present (alone kind m p) k (omega arith) t)

  pub alone_present_new : T (is_present (alone kind m p) (own m.count))
  unfolding alone with_point
  alone_present_new = own_present (alone kind m p) m.count (omega arith)

-- ---- soundness

module _ {m : Map} (s : Shaped m) (kind : ℕ) (p : Point) where
  -- no dart is present but these
  pub alone_present : (d : ℕ) → T (is_present (alone kind m p) d) → T (is_present m d) ⊎ (d ≡ own m.count)
  unfolding alone with_point has_helper
  alone_present =
      by_present (alone kind m p) (λ d. T (is_present m d) ⊎ (d ≡ own m.count))
      (λ k h.
      ⊎_elim (λ (l : k < m.count). inl (own_present m k l)) (λ (e : k ≡ m.count). inr (ap own e))
      (below_suc m.count k h))
      (λ k h t. inl (helper_present m k (s.links.owned k t) t))

  -- both links fix the new dart
  pub alone_new_fixed : edge_link m (own m.count) ≡ own m.count
  alone_new_fixed = s.links.absent (own m.count) (λ t. omega (arith, present_owner m (own m.count) t))

  alone_links : m.count < point_limit → ShapedLinks (alone kind m p)
  unfolding alone with_point edge_link has_helper
  alone_links room =
      record {
        helpers_whole = s.links.helpers_whole;
        edge_whole = s.links.edge_whole;
        fits = room;
        owned = λ k t. omega (arith, s.links.owned k t);
        absent = λ d none. s.links.absent d (λ t. none (alone_present_old kind m p d t));
        present = λ d t.
            ⊎_elim
            (λ old. alone_present_old kind m p (edge_link m d) (s.links.present d old))
            (λ (e : d ≡ own m.count). rw (e, alone_new_fixed) (alone_present_new kind m p))
            (alone_present d t);
        undone = s.links.undone;
        crossing = s.links.crossing;
        leaving = s.links.leaving;
        lone = s.links.lone;
      }

  module _ (two : 2 ≤ m.count) where
    pub alone_circuit : Circuit (alone kind m p) (outline m)
    unfolding alone with_point edge_link has_helper
    alone_circuit =
        let c = outline_circuit s two in
        record { all_distinct = c.all_distinct; below = λ a h. omega (arith, c.below a h); helped = c.helped; edges = c.edges }

    -- a dart whose part is closed is none but an old one, so it lies on the outline
    alone_every : (d : ℕ) → DartOf (alone kind m p) d → ClosedPart (edge_link (alone kind m p)) (point_link (alone kind m p)) d →
        T (elem (owner d) (outline m))
    unfolding alone with_point edge_link point_link has_helper
    alone_every d h c =
        ⊎_elim
        (λ old. (outline_reach s two d).0 ((reference_closed_alone s two).every d (present_dart m d old) c))
        (λ (e : d ≡ own m.count). absurd ((c d here).0 (rw e alone_new_fixed)))
        (alone_present d h.is_present)

    -- the outline stays
    pub alone_outline : outline (alone kind m p) ≡ outline m
    unfolding alone with_point
    alone_outline =
        let b = outline_begins s two in
        circuit_outline (owner m.reference) b.0 (subst (Circuit (alone kind m p)) b.1 alone_circuit)
        (omega arith) refl ∙ sym b.1

    module _ (room : m.count < point_limit)
        (new_left : (a : ℕ) → T (elem a (outline m)) → T (beside (point m a) (point m (next_corner m a)) p)) where
      -- the new point lies beside each edge by assumption, and the old ones as before
      alone_beside : AllBeside (alone kind m p) (outline m)
      unfolding alone with_point next_corner edge_link
      alone_beside a c on h not_start not_end =
          let b = outline_circuit s two in
          let old = point_old s room p (freeing_none kind) m.helpers m.edge m.reference in
          let next = b.below (next_corner m a) (outline_next s two a on).1 in
          rw (old a (omega (arith, b.below a on)), old (next_corner m a) (omega arith))
          (⊎_elim
          (λ (l : c < m.count). rw (old c (omega arith)) ((s.outlined two).others a c on l not_start not_end))
          (λ (e : c ≡ m.count). rw (e, point_new s room p (freeing_none kind) m.helpers m.edge m.reference) (new_left a on))
          (below_suc m.count c h))

pub alone_sound : {m : Map} (kind : ℕ) (p : Point) → kind ≤ 3 → Shaped m → m.count < point_limit → m.count ≢ 1 → T (in_range p) →
    ((k : ℕ) → k < m.count → point m k ≢ p) →
    (2 ≤ m.count → (a : ℕ) → T (elem a (outline m)) → T (beside (point m a) (point m (next_corner m a)) p)) →
    Shaped (alone kind m p)
unfolding alone with_point has_helper
alone_sound {m} kind p small s room not_one ranged differs left =
    ⊎_elim
    (λ (few : m.count < 2).
    sound_without_outline points (alone_links s kind p room) notes (omega arith)
    (record { no_helper = (s.bare few).no_helper; unreferenced = (s.bare few).unreferenced }))
    (λ (two : 2 ≤ m.count).
    sound_with_outline points (alone_links s kind p room) notes (omega arith) (outline m) (alone_circuit s kind p two)
    (alone_outline s kind p two) (s.outlined two).reference_own (outline_first s two) (alone_every s kind p two)
    (alone_beside s kind p two room (left two)))
    (lt_or_ge m.count 2)
  where
    points : ShapedPoints (alone kind m p)
    points = with_point_sound s room p (freeing_none kind) m.helpers m.edge m.reference ranged differs

    notes : ShapedNotes (alone kind m p)
    notes =
        with_point_noted s room p (freeing_none kind) m.helpers m.edge m.reference (freeing_none_fits kind small)
