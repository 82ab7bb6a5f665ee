-- The area of a sound map, in the order of this page: it is the same from each corner; the listing is a convex
-- outline; the area is not negative, and at most twice that of the whole range; it is 0 just where all corners
-- are in line.
-- Document 02, request 102: "The result is the same from each corner."
use mathlib.Core.Path.{◌≡◌, refl, sym, ap, subst, ◌∙◌}
use mathlib.Core.Logic.{◌⊎◌, inl, inr, ◌↔◌, ⊎_elim}
use mathlib.Core.Bool.{cond}
use mathlib.Core.List.{List, [], ◌∷◌, map}
use Prim.Native.Nat.{ℕ, ◌≤◌, ◌<◌}
use native.Mathlib.Omega.{arith}
use lib.Dec.{T, ltb}
use lib.IntN.{ℤ, pos}
use lib.ListN.{length, get_or, length-map}
use lib.Signed.{◌≤ℤ◌, ◌<ℤ◌, ≤ℤ_refl}
use borrow.Author.Tests.{le-ltb, lt-ltb}
use Rattle.integers.specs.Order.{order, <_or_≥}
use Rattle.integers.specs.Range.{Bounded, splits_bounded}
use Rattle.finite.specs.Bounded.{lt_or_ge, length_table}
use Rattle.finite.specs.Lists.{elem}
use Rattle.finite.specs.ListLaws.{elem_head, elem_tail, elem_cases, elem_one}
use Rattle.model.specs.declared.Point.{Point}
use Rattle.model.specs.declared.Map.{Map}
use Rattle.model.specs.Plane.{coordinate_limit, origin, in_line}
use Rattle.model.specs.Maps.{point}
use Rattle.model.specs.Outline.{next_corner, previous_corner, lowest_corner, corners}
use Rattle.model.specs.Outlines.{corner_points}
use Rattle.model.specs.Shape.{Shaped}
use Rattle.model.specs.Area.{fan, area_from, doubled_area, area_limit}
use Rattle.model.proofs.Shape.{place_ranged}
use Rattle.plane.proofs.Orientation.{orientation_cyclic, orientation_twice, left_positive, in_line_zero, zero_in_line}
use Rattle.plane.proofs.Bounds.{x_near, y_near}
use Rattle.plane.proofs.Heights.{lower_by}
use Rattle.plane.proofs.Fan.{fan_fixed, fan_flat}
use Rattle.plane.proofs.Convex.{Convex, convex_swap, next_member, prev_member, turns_left, fan_positive}
use Rattle.plane.proofs.Extents.{fan_nonneg, fan_limit}
use Rattle.sight.proofs.Beyond.{sound_convex}
use Rattle.hull.proofs.Admissions.{outline_most}
use Rattle.corners.proofs.Corners.{corners_rotated, corners_members, corners_length, lowest_first, lowest_none, few_listed}

-- ---- from each corner

-- whatever the place, the fan goes round the same points
pub area_same : (m : Map) (i j : ℕ) → doubled_area m i ≡ doubled_area m j
unfolding doubled_area area_from
area_same m i j =
    ap (cond (ltb m.count 3) (pos 0))
    (fan_fixed (get_or (corner_points m) j origin) (get_or (corner_points m) i origin) (corner_points m))

-- ---- the listing as a convex outline

module _ {m : Map} (s : Shaped m) (two : 2 ≤ m.count) where
  abbrev Shape : List ℕ → Type 0
  Shape = Convex m.count (point m) (next_corner m) (previous_corner m)

  pub listed_convex : Shape (corners m)
  listed_convex =
      let h = corners_rotated s two in
      subst Shape h.3 (convex_swap h.0 h.1 (subst Shape (sym h.2) (sound_convex s two)))

  -- no corner is lower than the first one
  first_lowest : (a : ℕ) → T (elem a (corners m)) → (point m (lowest_corner m)).y ≤ℤ (point m a).y
  first_lowest a on =
      ⊎_elim
      (λ (h : (point m a).y <ℤ (point m (lowest_corner m)).y).
      absurd
      (lowest_none s two a ((corners_members s two a).0 on) (lower_by (point m a) (point m (lowest_corner m)) (inl h))))
      (λ h. h)
      (<_or_≥ (point m a).y (point m (lowest_corner m)).y)

  pub listed_limit : (q : Point) → fan q (map (point m) (corners m)) ≤ℤ pos area_limit
  listed_limit q =
      let l = lowest_first s two in
      rw l.1
      (fan_limit (lowest_corner m) l.0 (subst Shape l.1 listed_convex)
      (λ a on. first_lowest a (rw l.1 (elem_tail a (lowest_corner m) l.0 on)))
      coordinate_limit
      (λ a on. (x_near (point m a) (place_ranged s a), y_near (point m a) (place_ranged s a)))
      q)

  pub listed_nonneg : (q : Point) → pos 0 ≤ℤ fan q (map (point m) (corners m))
  listed_nonneg q = fan_nonneg listed_convex q

-- ---- how large it is

-- fewer than three points, or the fan of the listing
by_count : (m : Map) (Q : ℤ → Type 0) (place : ℕ) → Q (pos 0) →
    (3 ≤ m.count → Q (area_from m place)) → Q (doubled_area m place)
unfolding doubled_area
by_count m Q place few many =
    ⊎_elim
    (λ (h : m.count < 3). rw (lt-ltb m.count 3 h) few)
    (λ (h : 3 ≤ m.count). rw (le-ltb m.count 3 h) (many h))
    (lt_or_ge m.count 3)

module _ {m : Map} (s : Shaped m) (place : ℕ) where
  pub area_nonneg : pos 0 ≤ℤ doubled_area m place
  unfolding area_from corner_points
  area_nonneg =
      by_count m (λ z. pos 0 ≤ℤ z) place (≤ℤ_refl (pos 0)) (λ three. listed_nonneg s (omega arith) _)

  pub area_most : doubled_area m place ≤ℤ pos area_limit
  unfolding area_from corner_points
  area_most =
      by_count m (λ z. z ≤ℤ pos area_limit) place (omega (arith, order)) (λ three. listed_limit s (omega arith) _)

  -- "at most 8 × 10^18": within 64 bits
  pub area_bounded : Bounded area_limit (doubled_area m place)
  area_bounded = omega (arith, order, splits_bounded, area_nonneg, area_most)

-- ---- where it is 0

-- of three members of a list of two or fewer, two are the same
two_same : (s : List ℕ) → length s < 3 → (a b c : ℕ) → T (elem a s) → T (elem b s) → T (elem c s) →
    (a ≡ b) ⊎ (b ≡ c) ⊎ (c ≡ a)
unfolding elem
two_same [] few a b c i j k = absurd i
two_same (x ∷ []) few a b c i j k = inl (elem_one a x i ∙ sym (elem_one b x j))
two_same (x ∷ y ∷ []) few a b c i j k =
    go (elem_cases a x (y ∷ []) i) (elem_cases b x (y ∷ []) j) (elem_cases c x (y ∷ []) k)
  where
    go : (a ≡ x) ⊎ T (elem a (y ∷ [])) → (b ≡ x) ⊎ T (elem b (y ∷ [])) → (c ≡ x) ⊎ T (elem c (y ∷ [])) →
        (a ≡ b) ⊎ (b ≡ c) ⊎ (c ≡ a)
    go (inl p) (inl q) r = inl (p ∙ sym q)
    go (inr p) (inr q) r = inl (elem_one a y p ∙ sym (elem_one b y q))
    go (inl p) (inr q) (inl r) = inr (inr (r ∙ sym p))
    go (inl p) (inr q) (inr r) = inr (inl (elem_one b y q ∙ sym (elem_one c y r)))
    go (inr p) (inl q) (inl r) = inr (inl (q ∙ sym r))
    go (inr p) (inl q) (inr r) = inr (inr (elem_one c y r ∙ sym (elem_one a y p)))
two_same (x ∷ y ∷ z ∷ s) few a b c i j k = absurd (omega arith)

-- every three corners are in line
abbrev pub AllInLine : Map → Type 0
AllInLine m =
    (a b c : ℕ) → T (elem a (corners m)) → T (elem b (corners m)) → T (elem c (corners m)) →
    T (in_line (point m a) (point m b) (point m c))

-- two corners or fewer are
few_in_line : (m : Map) → length (corners m) < 3 → AllInLine m
few_in_line m few a b c i j k =
    zero_in_line (point m a) (point m b) (point m c)
    (⊎_elim
    (λ (e : a ≡ b). rw e (orientation_twice (point m b) (point m c)))
    (⊎_elim
    (λ (e : b ≡ c). rw (e, orientation_cyclic (point m a) (point m c) (point m c)) (orientation_twice (point m c) (point m a)))
    (λ (e : c ≡ a).
    rw (e, orientation_cyclic (point m a) (point m b) (point m a), orientation_cyclic (point m b) (point m a) (point m a))
    (orientation_twice (point m a) (point m b))))
    (two_same (corners m) few a b c i j k))

module _ {m : Map} (s : Shaped m) where
  -- so many corners are as many points
  corners_count : 3 ≤ length (corners m) → 3 ≤ m.count
  corners_count three =
      ⊎_elim
      (λ (few : m.count < 2). absurd (omega (arith, ap length (few_listed m few), length_table m.count (λ k. k))))
      (λ (two : 2 ≤ m.count). omega (arith, corners_length s two, outline_most m))
      (lt_or_ge m.count 2)

  -- three corners or more are not
  turn_somewhere : 3 ≤ length (corners m) → ¬ AllInLine m
  turn_somewhere three all =
      let two : 2 ≤ m.count = omega (arith, corners_count three) in
      let C = listed_convex s two in
      let a = lowest_corner m in
      let on : T (elem a (corners m)) = rw (lowest_first s two).1 (elem_head a (lowest_first s two).0) in
      let b = previous_corner m a in
      let c = next_corner m a in
      omega (
        arith,
        order,
        left_positive (point m b) (point m a) (point m c) (turns_left C three a on),
        in_line_zero (point m b) (point m a) (point m c) (all b a c (prev_member C a on) on (next_member C a on)),
      )

  -- it is 0 just where all corners are in line
  pub area_zero : (place : ℕ) → (doubled_area m place ≡ pos 0) ↔ AllInLine m
  unfolding doubled_area area_from corner_points
  area_zero place = (
    λ e.
        ⊎_elim
        (few_in_line m)
        (λ (three : 3 ≤ length (corners m)).
        absurd
        (omega (
          arith,
          order,
          subst (λ b. cond b (pos 0) (area_from m place) ≡ pos 0) (le-ltb m.count 3 (corners_count three)) e,
          fan_positive (listed_convex s (omega (arith, corners_count three))) three (get_or (corner_points m) place origin),
        )))
        (lt_or_ge (length (corners m)) 3),
    λ all.
        ⊎_elim
        (λ (few : length (corners m) < 3).
        by_count m (λ z. z ≡ pos 0) place refl
        (λ h. fan_flat _ (corner_points m) (omega (arith, length-map (corners m) (point m)))))
        (λ (three : 3 ≤ length (corners m)). absurd (turn_somewhere three all))
        (lt_or_ge (length (corners m)) 3),
  )
