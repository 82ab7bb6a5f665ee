-- What the code leaves of a sound map without its last point is the map before that point, in the order of
-- this page: a place that is cleared again; the points and what is noted of them; what the last point is
-- noted as; and for each way in which it can have arrived the whole map (`second_undone`, `outside_undone`,
-- `alone_undone`). Each law reads the map as the one before with that point's arrival (`before_grows` of
-- hull/proofs/Removal).
use mathlib.Core.Path.{◌≡◌, refl, sym, ap, subst, ◌∙◌}
use mathlib.Core.Logic.{◌≢◌}
use mathlib.Core.Bool.{Bool, true, false}
use mathlib.Core.List.{List, [], ◌∷◌}
use Prim.Native.Nat.{ℕ, zero, suc, ◌-◌, ◌≤◌, ◌<◌}
use native.Mathlib.Omega.{arith}
use lib.Dec.{T}
use lib.ListN.{get_or, set, replicate, length-replicate}
use lib.Seq.{ext_get_or, set-set}
use Rattle.finite.specs.Tests.{is_false}
use Rattle.finite.specs.Bounded.{table, length_table}
use Rattle.finite.specs.ListLaws.{replicate_at}
use Rattle.orbits.specs.Sets.{dart_limit}
use Rattle.model.specs.declared.Point.{Point}
use Rattle.model.specs.declared.Note.{Note}
use Rattle.model.specs.declared.Map.{Map}
use Rattle.model.specs.declared.Offered.{Offered}
use Rattle.model.specs.Plane.{origin}
use Rattle.model.specs.Maps.{point_limit, no_dart, point, has_helper, edge_link, note, no_note, empty_map}
use Rattle.model.specs.Outline.{visible_edges}
use Rattle.model.specs.Shape.{Shaped}
use Rattle.model.specs.Sound.{sound}
use Rattle.model.specs.Arrival.{second_kind, outside_kind, freeing, left_corner, right_corner, with_point, alone, pair, spliced, arrive}
use Rattle.model.specs.Removal.{last, before_last}
use Rattle.maps.proofs.Empty.{empty_sound}
use Rattle.maps.proofs.Same.{same_links, same_fields}
use Rattle.maps.proofs.Points.{note_new}
use Rattle.maps.proofs.Pair.{all_fixed}
use Rattle.sight.specs.Requires.{Accepted}
use Rattle.sight.proofs.Indices.{link_below}
use Rattle.hull.proofs.Outcomes.{Arrives, first, second, inside, outside, arrive_arrives}
use Rattle.hull.proofs.Arrivals.{corners_on}
use Rattle.hull.proofs.Sound.{sound_shaped}
use Rattle.hull.proofs.Changes.{outside_links}
use Rattle.hull.proofs.Removal.{Before, before_grows}
use Rattle.removal.specs.Unlinking.{latest, unspliced, without_last, Unspliceable}
use Rattle.removal.proofs.Unlinking.{unspliced_back, both_freed}
use Rattle.removal.proofs.References.{latest_below, reference_latest}

-- ---- a place that is cleared again

-- a store of what stands there
set_own : {A : Type 0} (s : List A) (k : ℕ) (v d : A) → get_or s k d ≡ v → set s k v ≡ s
set_own [] k v d e = refl
set_own (x ∷ s) zero v d e = ap (λ y. y ∷ s) (sym e)
set_own (x ∷ s) (suc k) v d e = ap (λ t. x ∷ t) (set_own s k v d e)

cleared : {A : Type 0} (s : List A) (k n : ℕ) (v w d : A) → n ≡ k → get_or s k d ≡ w → set (set s k v) n w ≡ s
cleared s k n v w d same e =
    ap (λ i. set (set s k v) i w) same ∙ (set-set s k v w ∙ set_own s k w d e)

-- ---- the points and what is noted of them

-- the last point is the one that arrived
less : (k : ℕ) → suc k - 1 ≡ k
less k = omega arith

module _ {b : Map} {p : Point} (a : Accepted b p) (noted : Note) (helpers : List Bool) (edge : List ℕ) (reference : ℕ) where
  abbrev new : Map
  new = with_point b p noted helpers edge reference

  -- its points and notes cleared, a map with one point more is the map before, where the rest is
  without_back : {helpers' : List Bool} {edge' : List ℕ} {reference' : ℕ} → helpers' ≡ b.helpers → edge' ≡ b.edge →
      reference' ≡ b.reference → without_last new helpers' edge' reference' ≡ b
  unfolding without_last with_point point note
  without_back h e f =
      let k = b.count in
      let vacant = a.is_sound.points.vacant k (omega arith) in
      let unnoted = a.is_sound.notes.unnoted k (omega arith) in
      same_fields
      (cleared b.points k (suc k - 1) p origin origin (less k) vacant)
      h e
      (cleared b.notes k (suc k - 1) noted no_note no_note (less k) unnoted)
      (less k) f

  -- what is noted of the last point
  noted_last : note new (last new) ≡ noted
  unfolding with_point
  noted_last = ap (note new) (less b.count) ∙ note_new a.is_sound a.room p noted helpers edge reference

-- ---- by the way of its arrival

-- with fewer than two points no point has a helper, and every dart is fixed
module _ {b : Map} (s : Shaped b) (few : b.count < 2) where
  no_helpers : replicate point_limit false ≡ b.helpers
  unfolding has_helper
  no_helpers =
      ext_get_or false (replicate point_limit false) b.helpers (length-replicate point_limit false ∙ sym s.links.helpers_whole)
      (λ k h. replicate_at point_limit false k ∙ sym (is_false (has_helper b k) ((s.bare few).no_helper k)))

  no_edges : table dart_limit (λ d. d) ≡ b.edge
  unfolding edge_link empty_map
  no_edges =
      same_links (table dart_limit (λ d. d)) b.edge (length_table dart_limit (λ d. d) ∙ sym s.links.edge_whole)
      (λ d. all_fixed empty_sound (omega arith) d ∙ sym (all_fixed s few d))

-- the map that the code makes of m, where the last point arrived second, outside, or else
abbrev pub second_left : Map → Map
second_left m = without_last m (replicate point_limit false) (table dart_limit (λ d. d)) no_dart

abbrev pub outside_left : Map → Map
outside_left m =
    without_last m (set m.helpers (last m) false)
    (unspliced (last m) (note m (last m)).left (note m (last m)).right m.edge)
    (latest m.notes (last m))

abbrev pub alone_left : Map → Map
alone_left m = without_last m m.helpers m.edge m.reference

module _ {b : Map} {p : Point} (t : T (sound b)) (a : Accepted b p) where
  kind_of : (noted : Note) (helpers : List Bool) (edge : List ℕ) (reference : ℕ) →
      (note (with_point b p noted helpers edge reference) (last (with_point b p noted helpers edge reference))).arrival ≡ noted.arrival
  kind_of noted helpers edge reference = ap (λ (n : Note). n.arrival) (noted_last a noted helpers edge reference)

  -- so it arrived in no other way
  was : (noted : Note) (helpers : List Bool) (edge : List ℕ) (reference : ℕ) {kind : ℕ} →
      (note (with_point b p noted helpers edge reference) (last (with_point b p noted helpers edge reference))).arrival ≡ kind →
      noted.arrival ≡ kind
  was noted helpers edge reference e = sym (kind_of noted helpers edge reference) ∙ e

  second_arrived : (o : Offered) → Arrives b p o → (note o.map (last o.map)).arrival ≡ second_kind → second_left o.map ≡ b
  unfolding alone pair spliced
  second_arrived o (first none) e = let f = was _ _ _ _ e in absurd (omega arith)
  second_arrived o (second one) e =
      let few : b.count < 2 = omega arith in
      without_back a _ _ _ _ (no_helpers a.is_sound few) (no_edges a.is_sound few)
      (sym (a.is_sound.bare few).unreferenced)
  second_arrived o (inside two none) e = let f = was _ _ _ _ e in absurd (omega arith)
  second_arrived o (outside two some) e = let f = was _ _ _ _ e in absurd (omega arith)

  -- the last point was put between two corners
  module _ (two : 2 ≤ b.count) (some : visible_edges b p ≢ 0) where
    abbrev l : ℕ
    l = left_corner b p

    abbrev r : ℕ
    r = right_corner b p

    abbrev put : Map
    put = spliced b p l r

    helpers_back : set put.helpers (last put) false ≡ b.helpers
    unfolding spliced with_point has_helper
    helpers_back =
        cleared b.helpers b.count (suc b.count - 1) true false false (less b.count)
        (is_false (has_helper b b.count) (λ h. omega (arith, a.is_sound.links.owned b.count h)))

    noted_put : note put (last put) ≡ freeing b l r
    unfolding spliced
    noted_put = noted_last a _ _ _ _

    last_put : last put ≡ b.count
    unfolding spliced with_point
    last_put = less b.count

    edges_back : unspliced (last put) (note put (last put)).left (note put (last put)).right put.edge ≡ b.edge
    edges_back =
        let on = corners_on a two some in
        ap (λ (n : Note). unspliced (last put) n.left n.right put.edge) noted_put
        ∙ (ap (λ (k : ℕ). unspliced k (freeing b l r).left (freeing b l r).right put.edge) last_put
        ∙ unspliced_back a.is_sound two a.room (outside_links a two some) on.0 on.1)

    reference_back : latest put.notes (last put) ≡ b.reference
    unfolding spliced with_point
    reference_back =
        ap (latest put.notes) last_put
        ∙ (latest_below b.notes b.count (freeing b l r) b.count (omega arith)
        ∙ sym (reference_latest b t))

    spliced_undone : outside_left put ≡ b
    unfolding spliced
    spliced_undone = without_back a _ _ _ _ helpers_back edges_back reference_back

    -- the code can take them apart
    put_unspliceable : Shaped put → Unspliceable put.edge (last put) (note put (last put)).left (note put (last put)).right
    unfolding edge_link
    put_unspliceable s =
        let on = corners_on a two some in
        record {
          room = omega (arith, last_put, a.room);
          links_below = link_below s;
          left_below = λ n. omega (arith, (s.notes.fitting (last put)).left_small);
          right_below = λ n.
              rw noted_put
              (both_freed a.is_sound two a.room (outside_links a two some) on.0 on.1 (rw noted_put at n));
        }

  outside_arrived : (o : Offered) → Arrives b p o → (note o.map (last o.map)).arrival ≡ outside_kind → outside_left o.map ≡ b
  unfolding alone pair
  outside_arrived o (first none) e = let f = was _ _ _ _ e in absurd (omega arith)
  outside_arrived o (second one) e = let f = was _ _ _ _ e in absurd (omega arith)
  outside_arrived o (inside two none) e = let f = was _ _ _ _ e in absurd (omega arith)
  outside_arrived o (outside two some) e = spliced_undone two some

  outside_unspliceable : (o : Offered) → Arrives b p o → Shaped o.map → (note o.map (last o.map)).arrival ≡ outside_kind →
      Unspliceable o.map.edge (last o.map) (note o.map (last o.map)).left (note o.map (last o.map)).right
  unfolding alone pair
  outside_unspliceable o (first none) s e = let f = was _ _ _ _ e in absurd (omega arith)
  outside_unspliceable o (second one) s e = let f = was _ _ _ _ e in absurd (omega arith)
  outside_unspliceable o (inside two none) s e = let f = was _ _ _ _ e in absurd (omega arith)
  outside_unspliceable o (outside two some) s e = put_unspliceable two some s

  alone_arrived : (o : Offered) → Arrives b p o → (note o.map (last o.map)).arrival ≢ second_kind →
      (note o.map (last o.map)).arrival ≢ outside_kind → alone_left o.map ≡ b
  unfolding alone pair spliced with_point
  alone_arrived o (first none) m n = without_back a _ _ _ _ refl refl refl
  alone_arrived o (second one) m n = absurd (m (kind_of _ _ _ _))
  alone_arrived o (inside two none) m n = without_back a _ _ _ _ refl refl refl
  alone_arrived o (outside two some) m n = absurd (n (kind_of _ _ _ _))

module _ (m : Map) (t : T (sound m)) (some : 0 < m.count) where
  abbrev b : Map
  b = before_last m

  abbrev grown : Before m b (point m (last m))
  grown = before_grows m t some

  -- what holds of every map after an arrival from the one before holds of the map
  by_arrival : (Q : Map → Type 0) → ((o : Offered) → Arrives b (point m (last m)) o → Q o.map) → Q m
  by_arrival Q q = subst Q (sym grown.grows) (q (arrive b (point m (last m))) (arrive_arrives b (point m (last m))))

  pub second_undone : (note m (last m)).arrival ≡ second_kind → second_left m ≡ b
  second_undone =
      by_arrival (λ n. (note n (last n)).arrival ≡ second_kind → second_left n ≡ b)
      (second_arrived grown.is_sound grown.accepted)

  pub outside_undone : (note m (last m)).arrival ≡ outside_kind → outside_left m ≡ b
  outside_undone =
      by_arrival (λ n. (note n (last n)).arrival ≡ outside_kind → outside_left n ≡ b)
      (outside_arrived grown.is_sound grown.accepted)

  pub alone_undone : (note m (last m)).arrival ≢ second_kind → (note m (last m)).arrival ≢ outside_kind → alone_left m ≡ b
  alone_undone =
      by_arrival (λ n. (note n (last n)).arrival ≢ second_kind → (note n (last n)).arrival ≢ outside_kind → alone_left n ≡ b)
      (alone_arrived grown.is_sound grown.accepted)

  pub last_unspliceable : (note m (last m)).arrival ≡ outside_kind →
      Unspliceable m.edge (last m) (note m (last m)).left (note m (last m)).right
  last_unspliceable =
      by_arrival
      (λ n. Shaped n → (note n (last n)).arrival ≡ outside_kind → Unspliceable n.edge (last n) (note n (last n)).left (note n (last n)).right)
      (outside_unspliceable grown.is_sound grown.accepted) (sound_shaped m t)

-- ---- the map that the code wrote

pub left_behind : (m : Map) {noted : Note} {helpers helpers' : List Bool} {edge edge' : List ℕ}
    {reference reference' : ℕ} →
    noted ≡ no_note → helpers ≡ helpers' → edge ≡ edge' → reference ≡ reference' →
    record {
      points = set m.points (last m) origin;
      helpers = helpers;
      edge = edge;
      notes = set m.notes (last m) noted;
      count = last m;
      reference = reference;
    }
    ≡ without_last m helpers' edge' reference'
unfolding without_last
left_behind m same h e f = rw (same, h, e, f)
