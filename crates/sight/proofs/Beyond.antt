-- A point in line beyond one of two corners (document 02, request 106), in the order of this page: the
-- outline of a sound map is a convex outline of the plane; where an accepted point is beyond, the farther
-- corner is on the outline, and all edges are visible; where all are visible, it is beyond; where it is
-- not and some edge is visible, that turns at a left and at a right corner; what holds of the left and the
-- right corner, by these two cases; how code tells which case it is, and which corner is the farther.
use mathlib.Core.Path.{◌≡◌, sym, subst, ◌∙◌}
use mathlib.Core.Logic.{◌≢◌, ⊎_elim}
use mathlib.Core.Bool.{not}
use mathlib.Core.List.{List}
use Prim.Native.Nat.{ℕ, ◌≤◌, ◌<◌}
use native.Mathlib.Omega.{arith}
use lib.Dec.{T, T_not, eqb, eqb→eq}
use lib.ListN.{length}
use lib.Signed.{◌<ℤ◌}
use Rattle.finite.specs.Tests.{and_left, and_right, and_both, decide, is_true, is_false, equal_by}
use Rattle.finite.specs.Bounded.{lt_or_ge}
use Rattle.finite.specs.Lists.{elem, all_in, any_in}
use Rattle.finite.specs.ListLaws.{all_elem, some_fails, elem_middle}
use Rattle.finite.specs.FirstPassing.{first_passing, none_passes, first_none}
use Rattle.finite.specs.Distinct.{count_in_some, count_in_all}
use Rattle.model.specs.declared.Point.{Point}
use Rattle.model.specs.declared.Map.{Map}
use Rattle.model.specs.Plane.{strictly_between}
use Rattle.model.specs.Maps.{owner, point}
use Rattle.model.specs.Outline.{next_corner, previous_corner, outline, sees, visible_edges}
use Rattle.model.specs.Shape.{Shaped}
use Rattle.model.specs.Arrival.{turning_left, turning_right, is_farther, is_beyond, farther, left_corner, right_corner}
use Rattle.plane.specs.Between.{dot, opposite}
use Rattle.plane.proofs.Betweenness.{between_of, of_between, between_nearer, between_symmetric, orientation_zero_last, not_both_between}
use Rattle.plane.proofs.Convex.{Convex, next_below, next_differs, prev_member}
use Rattle.plane.proofs.Beyond.{two_corners, all_visible, all_visible_two, farther_corner, farther_only}
use Rattle.plane.proofs.Corners.{LeftCorner, RightCorner, left_not_right, left_corner_seen, right_corner_seen, left_corner_first, right_corner_first}
use Rattle.maps.proofs.Outline.{outline_circuit, outline_both_ways, outline_long, outline_first}
use Rattle.sight.specs.Requires.{Accepted}
use Rattle.sight.specs.Sight.{turning, seen}

-- the outline of a sound map is a convex outline of its points
pub sound_convex : {m : Map} → Shaped m → 2 ≤ m.count →
    Convex m.count (point m) (next_corner m) (previous_corner m) (outline m)
sound_convex s two =
    record {
      all_distinct = (outline_circuit s two).all_distinct;
      below = (outline_circuit s two).below;
      two = outline_long s two;
      round = outline_both_ways s two;
      others = (s.outlined two).others;
    }

abbrev pub AllSeen : Map → Point → Type 0
AllSeen m p = (c : ℕ) → T (elem c (outline m)) → T (sees m p c)

module _ {m : Map} {p : Point} (a : Accepted m p) (two : 2 ≤ m.count) where
  abbrev shape : Convex m.count (point m) (next_corner m) (previous_corner m) (outline m)
  shape = sound_convex a.is_sound two

  pub other_point : (k : ℕ) → k < m.count → p ≢ point m k
  other_point k h e = a.fresh k h (sym e)

  -- ---- beyond one of two corners

  module _ (beyond : T (is_beyond m p)) where
    pub two_long : length (outline m) ≡ 2
    unfolding is_beyond
    two_long =
        eqb→eq (length (outline m)) 2 (and_left (eqb (length (outline m)) 2) (any_in (is_farther m p) (outline m)) beyond)

    pub few : length (outline m) < 3
    few = omega (arith, two_long)

    farther_found : T (elem (farther m p) (outline m)) × T (is_farther m p (farther m p))
    unfolding is_beyond farther
    farther_found =
        let some = and_right (eqb (length (outline m)) 2) (any_in (is_farther m p) (outline m)) beyond in
        let r = first_passing (is_farther m p) 0 (outline m) some in (
          subst (λ (t : List ℕ). T (elem (farther m p) t)) (sym r.cut) (elem_middle (farther m p) r.front r.back),
          r.passes,
        )

    pub farther_on : T (elem (farther m p) (outline m))
    farther_on = farther_found.0

    pub farther_ahead : T (strictly_between (point m (farther m p)) p (point m (next_corner m (farther m p))))
    unfolding is_farther
    farther_ahead = farther_found.1

    -- by squared distances
    pub farther_from_point :
        dot (point m (next_corner m (farther m p))) (point m (next_corner m (farther m p))) p
        <ℤ dot (point m (farther m p)) (point m (farther m p)) p
    farther_from_point =
        let far = point m (farther m p) in
        let near = point m (next_corner m (farther m p)) in
        between_nearer far p near (between_of far p near farther_ahead)

    pub all_seen : AllSeen m p
    unfolding sees
    all_seen =
        let far = point m (farther m p) in
        let near = point m (next_corner m (farther m p)) in
        let h = between_of far p near farther_ahead in
        (all_visible shape p few (farther m p) farther_on).1
        (record {
          line = orientation_zero_last far p near h.line;
          outside = λ k. not_both_between p near far (between_symmetric far p near h) (between_symmetric far near p k);
        })

    pub beyond_visible : visible_edges m p ≡ 2
    unfolding visible_edges
    beyond_visible = count_in_all (sees m p) (outline m) all_seen ∙ two_long

  points_apart : (j k : ℕ) → j < m.count → k < m.count → j ≢ k → point m j ≢ point m k
  points_apart j k h i d =
      ⊎_elim (λ (l : j < k). a.is_sound.points.distinct j k l i)
      (λ (l : k ≤ j) e. a.is_sound.points.distinct k j (omega arith) h (sym e))
      (lt_or_ge j k)

  -- where all edges are visible there are two corners, and p is in line beyond one
  pub all_seen_beyond : AllSeen m p → T (is_beyond m p)
  unfolding is_beyond is_farther sees
  all_seen_beyond all =
      let few = all_visible_two shape p all in
      let c = owner m.reference in
      let on = outline_first a.is_sound two in
      let far =
      farther_corner shape p few c on
      (points_apart c (next_corner m c) (shape.below c on) (next_below shape c on) (λ e. next_differs shape c on (sym e)))
      (other_point c (shape.below c on)) (other_point (next_corner m c) (next_below shape c on))
      ((all_visible shape p few c on).0 all)
      in
      and_both (eqb (length (outline m)) 2) (any_in (is_farther m p) (outline m))
      (equal_by (length (outline m)) 2 (omega (arith, few, shape.two)))
      (⊎_elim (λ t. t) (λ t. absurd (none_passes (is_farther m p) (outline m) t far.0 far.1 far.2))
      (decide (any_in (is_farther m p) (outline m))))

  -- ---- not beyond, and some edge is visible: some edge is hidden

  module _ (not_beyond : ¬ T (is_beyond m p)) (some : visible_edges m p ≢ 0) where
    hidden_one : (c : ℕ) × T (elem c (outline m)) × ¬ T (sees m p c)
    hidden_one =
        ⊎_elim
        (λ (t : T (all_in (sees m p) (outline m))).
        absurd (not_beyond (all_seen_beyond (all_elem (sees m p) (outline m) t))))
        (λ (t : T (not (all_in (sees m p) (outline m)))).
        let r = some_fails (sees m p) (outline m) t in (r.0, r.1, T_not (sees m p r.0) r.2))
        (decide (all_in (sees m p) (outline m)))

    -- the left and the right corner are there, and the definition finds them
    pub left_is : LeftCorner (previous_corner m) (sees m p) (outline m) (turning_left m p)
    unfolding visible_edges sees turning_left
    left_is =
        let y = count_in_some (sees m p) (outline m) some in
        let x = hidden_one in
        let corner = left_corner_seen shape p x.0 y.0 x.1 y.1 x.2 y.2 in
        left_corner_first 0 corner.0 corner.1

    pub right_is : RightCorner (previous_corner m) (sees m p) (outline m) (turning_right m p)
    unfolding visible_edges sees turning_right
    right_is =
        let y = count_in_some (sees m p) (outline m) some in
        let x = hidden_one in
        let corner = right_corner_seen shape p x.0 y.0 x.1 y.1 x.2 y.2 in
        right_corner_first 0 corner.0 corner.1

  -- ---- both cases

  pub by_beyond : (Q : ℕ → ℕ → Type 0) → (T (is_beyond m p) → Q (farther m p) (farther m p)) →
      (¬ T (is_beyond m p) → Q (turning_left m p) (turning_right m p)) → Q (left_corner m p) (right_corner m p)
  unfolding left_corner right_corner
  by_beyond Q f g =
      ⊎_elim (λ (t : T (is_beyond m p)). rw (is_true (is_beyond m p) t) (f t))
      (λ (t : T (not (is_beyond m p))).
      let n = T_not (is_beyond m p) t in rw (is_false (is_beyond m p) n) (g n))
      (decide (is_beyond m p))

  -- ---- how code tells: where p is beyond, what is visible turns nowhere, and else at two corners

  turning_none : T (is_beyond m p) → turning_left m p ≡ turning_right m p
  unfolding turning_left turning_right
  turning_none beyond =
      let all = all_seen beyond in
      first_none _ 0 (outline m)
      (λ x h k.
      T_not (sees m p (previous_corner m x)) (and_left (not (sees m p (previous_corner m x))) (sees m p x) k)
      (all (previous_corner m x) (prev_member shape x h)))
      ∙ sym (first_none _ 0 (outline m)
      (λ x h k. T_not (sees m p x) (and_right (sees m p (previous_corner m x)) (not (sees m p x)) k) (all x h)))

  pub beyond_by_turning : visible_edges m p ≢ 0 → turning_left m p ≡ turning_right m p → T (is_beyond m p)
  beyond_by_turning some same =
      ⊎_elim (λ t. t)
      (λ (t : T (not (is_beyond m p))).
      let n = T_not (is_beyond m p) t in absurd (left_not_right (left_is n some) (right_is n some) same))
      (decide (is_beyond m p))

  -- what is seen, with the left and the right corner
  pub seen_turning : ¬ T (is_beyond m p) → turning m p ≡ seen m p
  unfolding left_corner right_corner
  seen_turning n = rw (is_false (is_beyond m p) n)

  pub seen_beyond : T (is_beyond m p) →
      record { left = farther m p; right = farther m p; visible = visible_edges m p } ≡ seen m p
  unfolding left_corner right_corner
  seen_beyond t = rw (is_true (is_beyond m p) t)

  pub not_beyond_by_turning : turning_left m p ≢ turning_right m p → ¬ T (is_beyond m p)
  not_beyond_by_turning apart beyond = apart (turning_none beyond)

  pub not_beyond_unseen : visible_edges m p ≡ 0 → ¬ T (is_beyond m p)
  not_beyond_unseen none beyond = omega (arith, beyond_visible beyond)

  -- of two corners, by any one of them: it is the farther where the next one lies between it and p
  module _ (beyond : T (is_beyond m p)) (c : ℕ) (on : T (elem c (outline m))) where
    pub farther_this : T (opposite (point m c) p (point m (next_corner m c))) → c ≡ farther m p
    unfolding sees
    farther_this t =
        let here = point m c in
        let there = point m (next_corner m c) in
        let line = ((all_visible shape p (few beyond) c on).0 (all_seen beyond)).line in
        farther_only shape p (few beyond) (farther m p) c (farther_on beyond) on (farther_ahead beyond)
        (of_between here p there (record { line = orientation_zero_last here there p line; within = record { lt = t } }))

    pub farther_next : ¬ T (opposite (point m c) p (point m (next_corner m c))) → next_corner m c ≡ farther m p
    farther_next n =
        ⊎_elim
        (λ (e : farther m p ≡ c).
        absurd
        (n (between_of (point m c) p (point m (next_corner m c))
        (subst (λ (x : ℕ). T (strictly_between (point m x) p (point m (next_corner m x)))) e (farther_ahead beyond))
        ).within.lt))
        (λ (e : farther m p ≡ next_corner m c). sym e)
        (two_corners shape p (few beyond) c (farther m p) on (farther_on beyond))
