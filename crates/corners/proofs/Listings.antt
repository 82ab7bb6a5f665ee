-- Which lists of points are the listing of some survey's corners, in the order of this page: the places of a
-- list without repetition; what `listable` tests, as statements; the listing of a sound map is listable; the
-- points of a listable list all differ; offered in order they are corners that the edges join in that order
-- from the lowest, so that they are listed as they were offered; both at once (`listed_iff`).
-- Document 02, request 101: "12 .. for corners that no survey lists in that order".
use mathlib.Core.Path.{◌≡◌, refl, sym, ap, subst, ◌∙◌}
use mathlib.Core.Logic.{◌≢◌, ◌↔◌, ⊎_elim}
use mathlib.Core.Bool.{not, ◌&&◌}
use mathlib.Core.List.{List, [], ◌∷◌}
use Prim.Native.Nat.{ℕ, zero, suc, ◌+◌, ◌-◌, ◌%◌, ◌≤◌, ◌<◌}
use native.Mathlib.Nat.{not-suc-le-zero, le_of_suc-le-suc, mod-eq_of_lt, mod_self, mod-lt}
use native.Mathlib.Omega.{arith}
use lib.Dec.{T, leb, eqb, leb→le, le→leb}
use lib.ListN.{length, get_or, length-map, get_or-map}
use lib.Seq.{ext_get_or}
use Rattle.finite.specs.Tests.{and_left, and_right, and_both, implies_use, implies_by, differ_use, differ_by, same_or_not}
use Rattle.finite.specs.Bounded.{all_at, all_by, table, length_table, get_or_table, lt_or_ge}
use Rattle.finite.specs.Lists.{elem, distinct, all_in}
use Rattle.finite.specs.ListLaws.{elem_head, elem_tail, all_in_by, get_d_any}
use Rattle.finite.specs.Distinct.{distinct_head}
use Rattle.finite.specs.Rings.{ring_most}
use Rattle.model.specs.declared.Point.{Point}
use Rattle.model.specs.declared.Map.{Map}
use Rattle.model.specs.Plane.{origin, in_range, beside, lower}
use Rattle.model.specs.Maps.{point_limit, point}
use Rattle.model.specs.Outline.{next_corner, corners_from, outline, lowest_corner, corners}
use Rattle.model.specs.Outlines.{corner_points, lowest_is_first, all_support, listable}
use Rattle.model.specs.Shape.{Shaped}
use Rattle.model.specs.History.{run}
use Rattle.model.proofs.Shape.{place_ranged}
use Rattle.plane.proofs.Orientation.{orientation_twice}
use Rattle.plane.proofs.Betweenness.{between_ends_differ, beside_zero, not_both_beside}
use Rattle.plane.proofs.Heights.{lower_asym}
use Rattle.plane.proofs.Hull.{Supports}
use Rattle.maps.proofs.Outline.{outline_circuit}
use Rattle.hull.proofs.Theorems.{outline_is_hull}
use Rattle.hull.proofs.History.{run_shaped}
use Rattle.hull.proofs.Built.{Different, built_count, built_point}
use Rattle.corners.proofs.Corners.{lowest_below, lowest_only, corners_lowest, lowest_first, corners_circuit, corners_distinct, corners_members, corner_next, few_listed}

-- ---- the places of a list

-- what stands at a place is a member ..
pub elem_at : (s : List ℕ) (i d : ℕ) → i < length s → T (elem (get_or s i d) s)
elem_at [] i d h = absurd (not-suc-le-zero h)
elem_at (x ∷ s) zero d h = elem_head x s
elem_at (x ∷ s) (suc i) d h = elem_tail (get_or s i d) x s (elem_at s i d (le_of_suc-le-suc h))

-- .. and no other place has it, where no member stands twice
pub places_differ : (s : List ℕ) → T (distinct s) → (i j d : ℕ) → i < length s → j < length s → i ≢ j →
    get_or s i d ≢ get_or s j d
unfolding distinct
places_differ [] t i j d h k n = absurd (not-suc-le-zero h)
places_differ (x ∷ s) t zero zero d h k n = absurd (n refl)
places_differ (x ∷ s) t zero (suc j) d h k n =
    λ e. distinct_head x s t (rw e (elem_at s j d (le_of_suc-le-suc k)))
places_differ (x ∷ s) t (suc i) zero d h k n =
    λ e. distinct_head x s t (rw e at (elem_at s i d (le_of_suc-le-suc h)))
places_differ (x ∷ s) t (suc i) (suc j) d h k n =
    places_differ s (and_right (not (elem x s)) (distinct s) t) i j d (le_of_suc-le-suc h) (le_of_suc-le-suc k)
    (λ e. n (ap suc e))

-- round a list of n, the place after i is the next one, or the first after the last
place_next : (i n : ℕ) → i + 1 < n → (i + 1) % n ≡ i + 1
place_next i n h = mod-eq_of_lt h

place_last : (i n : ℕ) → i + 1 ≡ n → (i + 1) % n ≡ 0
place_last i n e = ap (λ (k : ℕ). k % n) e ∙ mod_self n

place_another : (i n : ℕ) → 2 ≤ n → i < n → i ≢ (i + 1) % n
place_another i n two h e =
    ⊎_elim (λ (l : i + 1 < n). omega (arith, place_next i n l))
    (λ (l : n ≤ i + 1). omega (arith, place_last i n (omega arith))) (lt_or_ge (i + 1) n)

-- ---- what is tested, as statements

pub record Listable (cs : List Point) : Type 0 where
  pub few : length cs ≤ point_limit
  pub lowest : (k : ℕ) → k < length cs → k ≢ 0 → T (lower (get_or cs 0 origin) (get_or cs k origin))
  pub support : (a c : ℕ) → a < length cs → c < length cs → c ≢ a → c ≢ (a + 1) % length cs →
      T (beside (get_or cs a origin) (get_or cs ((a + 1) % length cs) origin) (get_or cs c origin))

pub listable_holds : (cs : List Point) → T (listable cs) → Listable cs
unfolding listable lowest_is_first all_support
listable_holds cs t =
    let n = length cs in
    let front = and_left (leb n point_limit && lowest_is_first cs) (all_support cs) t in
    record {
      few = leb→le n point_limit (and_left (leb n point_limit) (lowest_is_first cs) front);
      lowest = λ k h d.
          implies_use (not (eqb k 0)) (lower (get_or cs 0 origin) (get_or cs k origin))
          (all_at n _ (and_right (leb n point_limit) (lowest_is_first cs) front) k h) (differ_by k 0 d);
      support = λ a c h k d e.
          let b = (a + 1) % n in
          implies_use (not (eqb c a) && not (eqb c b)) (beside (get_or cs a origin) (get_or cs b origin) (get_or cs c origin))
          (all_at n _ (all_at n _ (and_right (leb n point_limit && lowest_is_first cs) (all_support cs) t) a h) c k)
          (and_both (not (eqb c a)) (not (eqb c b)) (differ_by c a d) (differ_by c b e));
    }

pub listable_by : (cs : List Point) → Listable cs → T (listable cs)
unfolding listable lowest_is_first all_support
listable_by cs l =
    let n = length cs in
    and_both (leb n point_limit && lowest_is_first cs) (all_support cs)
    (and_both (leb n point_limit) (lowest_is_first cs) (le→leb n point_limit l.few)
    (all_by n _
    (λ k h.
    implies_by (not (eqb k 0)) (lower (get_or cs 0 origin) (get_or cs k origin))
    (λ d. l.lowest k h (differ_use k 0 d)))))
    (all_by n _
    (λ a h.
    let b = (a + 1) % n in
    all_by n _
    (λ c k.
    implies_by (not (eqb c a) && not (eqb c b)) (beside (get_or cs a origin) (get_or cs b origin) (get_or cs c origin))
    (λ d.
    l.support a c h k (differ_use c a (and_left (not (eqb c a)) (not (eqb c b)) d))
    (differ_use c b (and_right (not (eqb c a)) (not (eqb c b)) d))))))

-- ---- the listing of a sound map

-- the corner at a place, as a point
corner_point_at : (m : Map) (k : ℕ) → k < length (corners m) →
    get_or (corner_points m) k origin ≡ point m (get_or (corners m) k 0)
unfolding corner_points
corner_point_at m k h =
    get_d_any (corner_points m) k origin (point m 0) (rw (length-map (corners m) (point m)) h)
    ∙ get_or-map (point m) (corners m) k 0

corner_points_length : (m : Map) → length (corner_points m) ≡ length (corners m)
unfolding corner_points
corner_points_length m = length-map (corners m) (point m)

listing_ranged : {m : Map} → Shaped m → T (all_in in_range (corner_points m))
listing_ranged {m} s =
    all_in_by in_range (corner_points m) origin
    (λ k h. rw (corner_point_at m k (rw (corner_points_length m) at h)) (place_ranged s (get_or (corners m) k 0)))

-- one point, or none
few_listable : (cs : List Point) → length cs < 2 → Listable cs
few_listable cs few =
    record {
      few = omega arith;
      lowest = λ k h d. absurd (omega arith);
      support = λ a c h k d e. absurd (omega arith);
    }

module _ {m : Map} (s : Shaped m) (two : 2 ≤ m.count) where
  -- the corner at a place of the listing
  abbrev corner : ℕ → ℕ
  corner k = get_or (corners m) k 0

  corner_on : (k : ℕ) → k < length (corners m) → T (elem (corner k) (outline m))
  corner_on k h = (corners_members s two (corner k)).0 (elem_at (corners m) k 0 h)

  first_lowest : corner 0 ≡ lowest_corner m
  first_lowest = ap (λ (t : List ℕ). get_or t 0 0) (lowest_first s two).1

  -- no more corners than points
  corners_most : length (corners m) ≤ m.count
  unfolding corners_from
  corners_most =
      omega (
        arith,
        ap length (corners_lowest s two),
        ring_most (next_corner m) (lowest_corner m) m.count (lowest_corner m),
      )

  corner_places_differ : (j k : ℕ) → j < length (corners m) → k < length (corners m) → j ≢ k → corner j ≢ corner k
  corner_places_differ j k = places_differ (corners m) (corners_distinct s two) j k 0

  corner_higher : (k : ℕ) → k < length (corners m) → k ≢ 0 → T (lower (point m (corner 0)) (point m (corner k)))
  corner_higher k h d =
      rw first_lowest
      (lowest_below s two (corner k) (corner_on k h)
      (λ e. corner_places_differ k 0 h (omega arith) d (e ∙ sym first_lowest)))

  corner_beside : (a c : ℕ) → a < length (corners m) → c < length (corners m) → c ≢ a →
      c ≢ (a + 1) % length (corners m) →
      T (beside (point m (corner a)) (point m (corner ((a + 1) % length (corners m)))) (point m (corner c)))
  corner_beside a c h k d e =
      let next = corner_next s two a h in
      subst (λ (b : ℕ). T (beside (point m (corner a)) (point m b) (point m (corner c)))) next
      ((s.outlined two).others (corner a) (corner c) (corner_on a h)
      ((corners_circuit s two).below (corner c) (elem_at (corners m) c 0 k))
      (corner_places_differ c a k h d)
      (λ i. corner_places_differ c ((a + 1) % length (corners m)) k (mod-lt (a + 1) (omega arith)) e (i ∙ next)))

  outline_listable : Listable (corner_points m)
  outline_listable =
      let long = corner_points_length m in
      record {
        few = omega (arith, long, corners_most, s.links.fits);
        lowest = λ k h d.
            let l : k < length (corners m) = omega (arith, long) in
            rw (corner_point_at m 0 (omega arith), corner_point_at m k l) (corner_higher k l d);
        support =
            rw long
            (λ a c h k d e.
            let b = (a + 1) % length (corners m) in
            rw (corner_point_at m a h, corner_point_at m b (mod-lt (a + 1) (omega arith)), corner_point_at m c k)
            (corner_beside a c h k d e));
      }

pub listing_listable : {m : Map} → Shaped m → T (all_in in_range (corner_points m)) × T (listable (corner_points m))
listing_listable {m} s = (
  listing_ranged s,
  listable_by (corner_points m)
      (⊎_elim
      (λ (few : m.count < 2).
      few_listable (corner_points m)
      (omega (arith, corner_points_length m, ap length (few_listed m few), length_table m.count (λ k. k))))
      (outline_listable s)
      (lt_or_ge m.count 2)),
)

-- ---- the points of a listable list differ

-- nothing is beside an edge from a point to itself, and its start is not beside an edge
pub not_beside_point : (x z : Point) → ¬ T (beside x x z)
not_beside_point x z t = between_ends_differ x x z (beside_zero x x z t (orientation_twice x z)) refl

not_beside_start : (x y : Point) → ¬ T (beside x y x)
not_beside_start x y t = not_both_beside x x y t t

-- The first is lower than any other. Of two others that are equal, the second is the end of the edge from
-- the first, and nothing is beside it, the first of the list neither; or it is beside it, yet equal to its start.
listable_different : (cs : List Point) → Listable cs → Different cs
listable_different cs l j k h b e =
    ⊎_elim
    (λ (first : j ≡ 0).
    let same : P 0 ≡ P k = ap P (sym first) ∙ e in
    let t : T (lower (P k) (P k)) = subst (λ (q : Point). T (lower q (P k))) same (l.lowest k b (omega arith)) in
    lower_asym (P k) (P k) t t)
    (λ (later : j ≢ 0).
    let next = place_next j (length cs) (omega arith) in
    ⊎_elim
    (λ (end : k ≡ j + 1).
    let same : P ((j + 1) % length cs) ≡ P j = ap P (next ∙ sym end) ∙ sym e in
    not_beside_point (P j) (P 0)
    (subst (λ (q : Point). T (beside (P j) q (P 0))) same
    (l.support j 0 (omega arith) (omega arith) (omega arith) (omega (arith, next)))))
    (λ (other : k ≢ j + 1).
    not_beside_start (P j) (P ((j + 1) % length cs))
    (subst (λ (q : Point). T (beside (P j) (P ((j + 1) % length cs)) q)) (sym e)
    (l.support j k (omega arith) b (omega arith) (omega (arith, next)))))
    (same_or_not k (j + 1)))
    (same_or_not j 0)
  where
    P : ℕ → Point
    P i = get_or cs i origin

-- ---- a listable list, offered in order

module _ (cs : List Point) (ranged : T (all_in in_range cs)) (l : Listable cs) where
  abbrev m : Map
  m = (run cs).map

  abbrev s : Shaped m
  s = run_shaped cs

  all_accepted : m.count ≡ length cs
  all_accepted = built_count cs l.few ranged (listable_different cs l)

  pub point_is : (k : ℕ) → k < length cs → point m k ≡ get_or cs k origin
  point_is = built_point cs l.few ranged (listable_different cs l)

  module _ (two : 2 ≤ length cs) where
    pub two_points : 2 ≤ m.count
    two_points = rw all_accepted two

    next_supports : (a : ℕ) → a < length cs → Supports m.count (point m) a ((a + 1) % length cs)
    next_supports a h =
        let below : (a + 1) % length cs < length cs = mod-lt (a + 1) (omega arith) in
        record {
          from_below = rw all_accepted h;
          to_below = rw all_accepted below;
          differ = place_another a (length cs) two h;
          others = λ c k d e.
              let b : c < length cs = rw all_accepted at k in
              rw (point_is a h, point_is ((a + 1) % length cs) below, point_is c b) (l.support a c h b d e);
        }

    -- so each is a corner, and its edge leads to the one after it
    pub edge_to_next : (a : ℕ) → a < length cs → T (elem a (outline m)) × (next_corner m a ≡ (a + 1) % length cs)
    edge_to_next a h = (outline_is_hull s two_points a ((a + 1) % length cs)).1 (next_supports a h)

    -- the first is the lowest
    none_lower : (b : ℕ) → T (elem b (outline m)) → ¬ T (lower (point m b) (point m 0))
    none_lower b j t =
        let h : b < length cs = rw all_accepted at ((outline_circuit s two_points).below b j) in
        ⊎_elim
        (λ (e : b ≡ 0). let u = rw e at t in lower_asym (point m 0) (point m 0) u u)
        (λ (d : b ≢ 0).
        lower_asym (point m b) (point m 0) t
        (rw (point_is 0 (omega arith), point_is b h) (l.lowest b h d)))
        (same_or_not b 0)

    zero_first : get_or (corners m) 0 0 ≡ 0
    zero_first =
        first_lowest s two_points ∙ sym (lowest_only s two_points 0 (edge_to_next 0 (omega arith)).0 none_lower)

    -- so number i stands at place i ..
    listed_at : (i : ℕ) → i < length (corners m) → get_or (corners m) i 0 ≡ i
    listed_at zero h = zero_first
    listed_at (suc i) h =
        let most : length (corners m) ≤ length cs = rw all_accepted at (corners_most s two_points) in
        let one_more : suc i ≡ i + 1 = omega arith in
        ap (λ (j : ℕ). get_or (corners m) j 0) (one_more ∙ sym (place_next i (length (corners m)) (omega arith)))
        ∙ sym (corner_next s two_points i (omega arith))
        ∙ ap (next_corner m) (listed_at i (omega arith))
        ∙ (edge_to_next i (omega arith)).1
        ∙ place_next i (length cs) (omega arith)
        ∙ sym one_more

    -- .. and none is left out, since the edge from the last one listed leads back to 0
    last_listed : (i : ℕ) → i + 1 ≡ length (corners m) → length cs ≤ i + 1
    last_listed i last =
        let most : length (corners m) ≤ length cs = rw all_accepted at (corners_most s two_points) in
        let back : (i + 1) % length cs ≡ 0 =
        sym (edge_to_next i (omega arith)).1
        ∙ ap (next_corner m) (sym (listed_at i (omega arith)))
        ∙ corner_next s two_points i (omega arith)
        ∙ ap (λ (j : ℕ). get_or (corners m) j 0) (place_last i (length (corners m)) last)
        ∙ zero_first in
        ⊎_elim (λ (more : i + 1 < length cs). absurd (omega (arith, place_next i (length cs) more))) (λ h. h)
        (lt_or_ge (i + 1) (length cs))

    all_listed : length (corners m) ≡ length cs
    all_listed =
        let some = ap length (lowest_first s two_points).1 in
        let most : length (corners m) ≤ length cs = rw all_accepted at (corners_most s two_points) in
        omega (arith, last_listed (length (corners m) - 1) (omega arith))

    outline_in_order : corners m ≡ table (length cs) (λ k. k)
    outline_in_order =
        ext_get_or 0 (corners m) (table (length cs) (λ k. k)) (all_listed ∙ sym (length_table (length cs) (λ k. k)))
        (λ i h. listed_at i h ∙ sym (get_or_table (length cs) (λ k. k) i 0 (rw all_listed at h)))

  -- 0, 1, 2 and so on
  corners_in_order : corners m ≡ table (length cs) (λ k. k)
  corners_in_order =
      ⊎_elim
      (λ (few : length cs < 2). few_listed m (rw all_accepted few) ∙ ap (λ (n : ℕ). table n (λ k. k)) all_accepted)
      outline_in_order
      (lt_or_ge (length cs) 2)

  offered_listed : corner_points m ≡ cs
  offered_listed =
      let long : length (corners m) ≡ length cs = ap length corners_in_order ∙ length_table (length cs) (λ k. k) in
      ext_get_or origin (corner_points m) cs (corner_points_length m ∙ long)
      (λ i h.
      let listed : i < length (corners m) = rw (corner_points_length m) at h in
      let below : i < length cs = rw long at listed in
      corner_point_at m i listed
      ∙ ap (point m) (ap (λ (t : List ℕ). get_or t i 0) corners_in_order ∙ get_or_table (length cs) (λ k. k) i 0 below)
      ∙ point_is i below)

pub listable_listing : (cs : List Point) → T (all_in in_range cs) → T (listable cs) → corner_points (run cs).map ≡ cs
listable_listing cs ranged t = offered_listed cs ranged (listable_holds cs t)

-- ---- both

-- a list of points is the listing of the corners of some survey just where it is in range and listable
pub listed_iff : (cs : List Point) →
    ((ps : List Point) × (corner_points (run ps).map ≡ cs)) ↔ (T (all_in in_range cs) × T (listable cs))
listed_iff cs = (
  λ h. subst (λ (t : List Point). T (all_in in_range t) × T (listable t)) h.1 (listing_listable (run_shaped h.0)),
  λ h. (cs, listable_listing cs h.0 h.1),
)
