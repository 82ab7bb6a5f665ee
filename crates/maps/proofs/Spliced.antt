-- The map after an outside point: `spliced` puts the new point between its left and its right corner
-- (`spliced_splices`, with every edge link in terms of the old ones). The new outline is
-- the new point and what is kept: the corners from the right corner r to the left corner l, or one
-- corner, where that is both; and the map is sound if all points lie beside that outline.
use mathlib.Core.Path.{◌≡◌, refl, sym, ap, ◌∙◌}
use mathlib.Core.Logic.{◌≢◌, ◌⊎◌, inl, inr, ⊎_elim}
use mathlib.Core.Bool.{true, false}
use mathlib.Core.List.{List, [], ◌∷◌, ◌++◌}
use Prim.Native.Nat.{ℕ, suc, ◌≤◌, ◌<◌}
use native.Mathlib.Omega.{arith}
use lib.Dec.{T}
use lib.ListN.{length, set, length-set}
use lib.Seq.{get_or-set_same, get_or-set_other}
use Rattle.finite.specs.Tests.{same_or_not, of_true}
use Rattle.finite.specs.Lists.{elem}
use Rattle.finite.specs.ListLaws.{elem_head, elem_cases, elem_append_right}
use Rattle.orbits.specs.Sets.{dart_limit}
use Rattle.orbits.specs.Links.{link_of}
use Rattle.model.specs.declared.Point.{Point}
use Rattle.model.specs.declared.Map.{Map}
use Rattle.model.specs.Plane.{in_range, beside}
use Rattle.model.specs.Maps.{point_limit, own, helper, owner, point, has_helper, is_present, edge_link}
use Rattle.model.specs.Outline.{next_corner, outline}
use Rattle.model.specs.Arrival.{cut, join, freeing, with_point, spliced}
use Rattle.model.specs.Shape.{Shaped, ShapedLinks, AllBeside}
use Rattle.maps.proofs.Darts.{owner_own, is_own_own, own_differs, own_present, helper_present, present_owner}
use Rattle.maps.proofs.Edges.{length_cut, cut_same, cut_other, length_join, join_first, join_second, join_other}
use Rattle.maps.proofs.Circuits.{Circuit, circuit_outline}
use Rattle.maps.proofs.Outline.{outline_circuit, outline_next, circuit_on_outline}
use Rattle.maps.proofs.Soundness.{sound_with_outline}
use Rattle.maps.proofs.Points.{point_new, point_old, with_point_sound, with_point_noted, freeing_fits}
use Rattle.maps.proofs.Splice.{Splices, Kept, arc, arc_kept, single_kept, splice_next_left, splice_next_new, splice_links, splice_every}

-- ---- the edge links, step by step

-- with the partners of own l and helper r fixed
abbrev cut_edges : Map → ℕ → ℕ → List ℕ
cut_edges m l r = cut (helper r) (cut (own l) m.edge)

-- and own l joined with the new helper
abbrev left_joined : Map → ℕ → ℕ → List ℕ
left_joined m l r = join (own l) (helper m.count) (cut_edges m l r)

spliced_link : (m : Map) (p : Point) (l r d : ℕ) →
    edge_link (spliced m p l r) d ≡ link_of (join (own m.count) (helper r) (left_joined m l r)) d
unfolding spliced with_point edge_link
spliced_link m p l r d = refl

module _ {m : Map} (s : Shaped m) (l r : ℕ) where
  link_is : (d : ℕ) → link_of m.edge d ≡ edge_link m d
  unfolding edge_link
  link_is d = refl

  cut_length : length (cut_edges m l r) ≡ dart_limit
  cut_length = length_cut (helper r) (cut (own l) m.edge) ∙ (length_cut (own l) m.edge ∙ s.links.edge_whole)

  left_length : length (left_joined m l r) ≡ dart_limit
  left_length = length_join (own l) (helper m.count) (cut_edges m l r) ∙ cut_length

  -- a dart that was linked with own l, or with helper r, is its partner
  partner_is : (d x : ℕ) → edge_link m d ≡ x → d ≡ link_of m.edge x
  partner_is d x e = sym (s.links.undone d) ∙ (ap (edge_link m) e ∙ sym (link_is x))

  was_linked : (d x : ℕ) → d ≡ link_of m.edge x → edge_link m d ≡ x
  was_linked d x e = ap (edge_link m) (e ∙ link_is x) ∙ s.links.undone x

  -- the partner of own l is fixed
  cut_left : (d : ℕ) → edge_link m d ≡ own l → link_of (cut_edges m l r) d ≡ d
  cut_left d e =
      let first = cut_same (own l) d m.edge (partner_is d (own l) e) in
      ⊎_elim (λ i. cut_same (helper r) d (cut (own l) m.edge) i)
      (λ i. cut_other (helper r) d (cut (own l) m.edge) i ∙ first)
      (same_or_not d (link_of (cut (own l) m.edge) (helper r)))

  -- where helper r leads once own l has lost its partner: to itself, or as before
  right_cases : (link_of (cut (own l) m.edge) (helper r) ≡ helper r)
      ⊎ (link_of (cut (own l) m.edge) (helper r) ≡ link_of m.edge (helper r))
  right_cases =
      ⊎_elim (λ e. inl (cut_same (own l) (helper r) m.edge e))
      (λ n. inr (cut_other (own l) (helper r) m.edge n))
      (same_or_not (helper r) (link_of m.edge (own l)))

  -- so is that of helper r, but own l itself
  cut_right : (d : ℕ) → d ≢ own l → edge_link m d ≡ helper r → link_of (cut_edges m l r) d ≡ d
  cut_right d other e =
      cut_same (helper r) d (cut (own l) m.edge)
      (partner_is d (helper r) e ∙
      sym (cut_other (own l) (helper r) m.edge
      (λ i. other (sym (s.links.undone d) ∙ (ap (edge_link m) e ∙ was_linked (helper r) (own l) i)))))

  -- all else is linked as before
  cut_elsewhere : (d : ℕ) → d ≢ helper r → edge_link m d ≢ own l → edge_link m d ≢ helper r →
      link_of (cut_edges m l r) d ≡ edge_link m d
  cut_elsewhere d n i j =
      cut_other (helper r) d (cut (own l) m.edge)
      (λ e.
      ⊎_elim (λ t. n (e ∙ t)) (λ t. j (was_linked d (helper r) (e ∙ t))) right_cases) ∙
      (cut_other (own l) d m.edge (λ e. i (was_linked d (own l) e)) ∙ link_is d)

-- ---- the helpers

module _ {m : Map} (s : Shaped m) (room : m.count < point_limit) (p : Point) (l r : ℕ) where
  pub spliced_helper_new : T (has_helper (spliced m p l r) m.count)
  unfolding spliced with_point has_helper
  spliced_helper_new =
      of_true _ (get_or-set_same m.helpers m.count true false (rw s.links.helpers_whole room))

  pub spliced_helper_old : (j : ℕ) → j ≢ m.count → has_helper (spliced m p l r) j ≡ has_helper m j
  unfolding spliced with_point has_helper
  spliced_helper_old j other = get_or-set_other m.helpers m.count j true false other

  spliced_helped : (j : ℕ) → T (has_helper m j) → T (has_helper (spliced m p l r) j)
  spliced_helped j t = rw (spliced_helper_old j (λ e. omega (arith, s.links.owned j t))) t

  spliced_owned : (j : ℕ) → T (has_helper (spliced m p l r) j) → j < suc m.count
  spliced_owned j t =
      ⊎_elim (λ (e : j ≡ m.count). omega arith)
      (λ (n : j ≢ m.count). omega (arith, s.links.owned j (rw (spliced_helper_old j n) at t)))
      (same_or_not j m.count)

  -- ---- how the new edge link differs from the old one

  module _ (left_helped : T (has_helper m l)) (right_helped : T (has_helper m r)) where
    left_old : l < m.count
    left_old = s.links.owned l left_helped

    right_old : r < m.count
    right_old = s.links.owned r right_helped

    -- the new point's own dart and helper r are not among the darts joined first, nor the other way round
    unjoined : (d : ℕ) → d ≢ own m.count → d ≢ helper r →
        edge_link (spliced m p l r) d ≡ link_of (left_joined m l r) d
    unjoined d i j = spliced_link m p l r d ∙ join_other (own m.count) (helper r) (left_joined m l r) d i j

    uncut : (d : ℕ) → d ≢ own l → d ≢ helper r → d ≢ own m.count → d ≢ helper m.count →
        edge_link (spliced m p l r) d ≡ link_of (cut_edges m l r) d
    uncut d i j k n = unjoined d k j ∙ join_other (own l) (helper m.count) (cut_edges m l r) d i n

    -- a dart that was linked with own l or helper r is none of the new ones
    was_present : (d : ℕ) → T (is_present m (edge_link m d)) → owner d < m.count
    was_present d t = present_owner m d (rw (s.links.undone d) at (s.links.present (edge_link m d) t))

    left_present : T (is_present m (own l))
    left_present = own_present m l left_old

    right_present : T (is_present m (helper r))
    right_present = helper_present m r right_old right_helped

    pub spliced_splices : Splices m (spliced m p l r) l r
    unfolding spliced with_point
    spliced_splices =
        record {
          count_grows = refl;
          helpers_whole = length-set m.helpers m.count true ∙ s.links.helpers_whole;
          edge_whole = length_join (own m.count) (helper r) (left_joined m l r) ∙ left_length s l r;
          helped_left = spliced_helped l left_helped;
          helped_right = spliced_helped r right_helped;
          helped_new = spliced_helper_new;
          helped_old = spliced_helped;
          helped_owned = spliced_owned;
          at_left =
              unjoined (own l) (λ e. omega (arith, left_old)) (own_differs l r) ∙
              join_first (own l) (helper m.count) (cut_edges m l r) (own_differs l m.count)
              (omega (arith, cut_length s l r, left_old));
          at_helper =
              unjoined (helper m.count) (omega arith) (λ e. omega (arith, right_old)) ∙
              join_second (own l) (helper m.count) (cut_edges m l r) (omega (arith, cut_length s l r));
          at_right =
              spliced_link m p l r (helper r) ∙
              join_second (own m.count) (helper r) (left_joined m l r)
              (omega (arith, left_length s l r, right_old));
          at_own =
              spliced_link m p l r (own m.count) ∙
              join_first (own m.count) (helper r) (left_joined m l r) (own_differs m.count r)
              (omega (arith, left_length s l r));
          cut = λ d i j t.
              let below = was_present d (⊎_elim (λ e. rw e left_present) (λ e. rw e right_present) t) in
              uncut d i j (omega arith) (omega arith) ∙ ⊎_elim (cut_left s l r d) (cut_right s l r d i) t;
          elsewhere = λ d o.
              uncut d o.not_left o.not_right o.not_own o.not_helper ∙
              cut_elsewhere s l r d o.not_right o.not_to_left o.not_to_right;
        }

-- ---- what is kept of the outline: the corners from r to l, or just one corner, left and right

module _ {m : Map} (s : Shaped m) (room : m.count < point_limit) (p : Point) where
  pub spliced_arc : (l r : ℕ) (between lost : List ℕ) → Circuit m (r ∷ between ++ l ∷ lost) →
      Kept m (spliced m p l r) l r (arc r between l)
  spliced_arc l r between lost c =
      let left = elem_append_right l (r ∷ between) (l ∷ lost) (elem_head l lost) in
      let right = elem_head r (between ++ l ∷ lost) in
      arc_kept s room (c.below l left) (c.below r right)
      (spliced_splices s room p l r (c.helped l left) (c.helped r right)) between lost c

  pub spliced_single : (f : ℕ) (corners : List ℕ) → Circuit m corners → T (elem f corners) →
      Kept m (spliced m p f f) f f (f ∷ [])
  spliced_single f corners c on =
      single_kept (spliced_splices s room p f f (c.helped f on) (c.helped f on)) corners c on

-- ---- the outline

module _ {m : Map} (s : Shaped m) (two : 2 ≤ m.count) (room : m.count < point_limit) (p : Point) (l r : ℕ)
    (kept : List ℕ) (K : Kept m (spliced m p l r) l r kept) where
  left_helped : T (has_helper m l)
  left_helped = K.was.helped l (K.kept_was l K.left_kept)

  right_helped : T (has_helper m r)
  right_helped = K.was.helped r (K.kept_was r K.right_kept)

  left_below : l < m.count
  left_below = s.links.owned l left_helped

  right_below : r < m.count
  right_below = s.links.owned r right_helped

  between_corners : Splices m (spliced m p l r) l r
  between_corners = spliced_splices s room p l r left_helped right_helped

  pub spliced_links : ShapedLinks (spliced m p l r)
  spliced_links = splice_links s room left_below right_below between_corners

  pub spliced_outline : outline (spliced m p l r) ≡ m.count ∷ kept
  unfolding spliced with_point
  spliced_outline =
      circuit_outline m.count kept K.new_circuit (omega arith) (owner_own m.count)

  -- the corners after the new point and after l
  pub spliced_next_new : next_corner (spliced m p l r) m.count ≡ r
  spliced_next_new = splice_next_new between_corners

  pub spliced_next_left : next_corner (spliced m p l r) l ≡ m.count
  spliced_next_left = splice_next_left between_corners

  pub spliced_sound : T (in_range p) → ((k : ℕ) → k < m.count → point m k ≢ p) →
      AllBeside (spliced m p l r) (m.count ∷ kept) → Shaped (spliced m p l r)
  unfolding spliced with_point
  spliced_sound ranged differs left =
      sound_with_outline
      (with_point_sound s room p (freeing m l r) (set m.helpers m.count true)
      (join (own m.count) (helper r) (left_joined m l r)) (own m.count) ranged differs)
      spliced_links
      (with_point_noted s room p (freeing m l r) (set m.helpers m.count true)
      (join (own m.count) (helper r) (left_joined m l r)) (own m.count) (freeing_fits s l r (omega (arith, left_below, s.links.fits)) (omega (arith, right_below, s.links.fits))))
      (omega arith) (m.count ∷ kept) K.new_circuit spliced_outline (is_own_own m.count)
      (rw (owner_own m.count) (elem_head m.count kept))
      (splice_every s room left_below right_below between_corners kept K two
      (spliced_helper_old s room p l r))
      left

  -- ---- what is left to geometry

  new_count : (spliced m p l r).count ≡ suc m.count
  new_count = between_corners.count_grows

  pub spliced_point_new : point (spliced m p l r) m.count ≡ p
  unfolding spliced
  spliced_point_new =
      point_new s room p (freeing m l r) (set m.helpers m.count true)
      (join (own m.count) (helper r) (left_joined m l r)) (own m.count)

  pub spliced_point_old : (k : ℕ) → k < m.count → point (spliced m p l r) k ≡ point m k
  unfolding spliced
  spliced_point_old k h =
      point_old s room p (freeing m l r) (set m.helpers m.count true)
      (join (own m.count) (helper r) (left_joined m l r)) (own m.count) k (omega arith)

  -- every point lies beside the outline's edges where the new one lies beside those that stay, and
  -- the old ones beside the edge from l to it and the edge from it to r
  pub spliced_beside :
      ((a : ℕ) → T (elem a kept) → a ≢ l → T (beside (point m a) (point m (next_corner m a)) p)) →
      ((k : ℕ) → k < m.count → k ≢ l → T (beside (point m l) p (point m k))) →
      ((k : ℕ) → k < m.count → k ≢ r → T (beside p (point m r) (point m k))) →
      AllBeside (spliced m p l r) (m.count ∷ kept)
  spliced_beside stay from_left to_right a k h b not_start not_end =
      ⊎_elim at_new
      (λ o. ⊎_elim at_left (at_remaining o) (same_or_not a l))
      (elem_cases a m.count kept h)
    where
      next : ℕ → ℕ
      next = next_corner (spliced m p l r)

      Beside : Type 0
      Beside = T (beside (point (spliced m p l r) a) (point (spliced m p l r) (next a)) (point (spliced m p l r) k))

      old : k ≢ m.count → k < m.count
      old n = omega (arith, new_count)

      at_new : a ≡ m.count → Beside
      at_new e =
          let to : next a ≡ r = ap next e ∙ spliced_next_new in
          let below = old (λ i. not_start (i ∙ sym e)) in
          rw (to, e, spliced_point_new, spliced_point_old r right_below, spliced_point_old k below)
          (to_right k below (λ i. not_end (i ∙ sym to)))

      at_left : a ≡ l → Beside
      at_left e =
          let to : next a ≡ m.count = ap next e ∙ spliced_next_left in
          let below = old (λ i. not_end (i ∙ sym to)) in
          rw (to, e, spliced_point_old l left_below, spliced_point_new, spliced_point_old k below)
          (from_left k below (λ i. not_start (i ∙ sym e)))

      at_remaining : T (elem a kept) → a ≢ l → Beside
      at_remaining i other =
          let on = circuit_on_outline s two K.corners K.was a (K.kept_was a i) in
          let stays = K.kept_next a i other in
          let here = (outline_circuit s two).below a on in
          let there = (outline_circuit s two).below (next_corner m a) (outline_next s two a on).1 in
          rw (stays, spliced_point_old a here, spliced_point_old (next_corner m a) there)
          (⊎_elim
          (λ (e : k ≡ m.count). rw (e, spliced_point_new) (stay a i other))
          (λ (n : k ≢ m.count).
          rw (spliced_point_old k (old n))
          ((s.outlined two).others a k on (old n) not_start (λ j. not_end (j ∙ sym stays))))
          (same_or_not k m.count))
