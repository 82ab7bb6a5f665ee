-- What each answer on a query point means, in the order of this page: the number of strictly visible
-- edges; the meaning of an answer; that every answer has it; that "inside" is given just where the
-- point is strictly left of every edge, and never with two corners; that "outside" with three corners
-- or more sees an edge, so that 0 is reported for two corners only.
-- Document 01: ""none" with fewer than two points; else its corner; else the outline edge strictly
-- between whose ends it lies, of two such edges the first in listing order; else "inside" if all
-- orientations are positive; else "outside" with the number of visible edges."
use mathlib.Core.Path.{◌≡◌, refl, sym, ap, subst, ◌∙◌}
use mathlib.Core.Logic.{◌≢◌, ◌↔◌, ⊎_elim}
use mathlib.Core.Bool.{Bool, not, cond}
use mathlib.Core.List.{List, [], ◌∷◌}
use Prim.Native.Nat.{ℕ, ◌≤◌, ◌<◌}
use native.Mathlib.Omega.{arith}
use lib.Dec.{T, T_not, ltb}
use lib.IntN.{pos}
use lib.ListN.{length}
use borrow.Author.Tests.{le-ltb, lt-ltb}
use Rattle.integers.specs.Order.{order, negℤ_splits, <ℤ_≢}
use Rattle.finite.specs.Tests.{and_left, and_right, decide, is_true, is_false}
use Rattle.finite.specs.Bounded.{lt_or_ge}
use Rattle.finite.specs.Lists.{elem, all_in, any_in, count_in, first_in}
use Rattle.finite.specs.ListLaws.{elem_head, elem_tail, all_elem, all_of_elem, elem_middle}
use Rattle.finite.specs.Distinct.{count_in_swap, count_in_zero}
use Rattle.finite.specs.FirstPassing.{FirstPassing, first_passing, none_passes}
use Rattle.finite.specs.Cycles.{Chain, Cycle}
use Rattle.model.specs.declared.Point.{Point}
use Rattle.model.specs.declared.Map.{Map}
use Rattle.model.specs.declared.Placed.{Placed}
use Rattle.model.specs.Plane.{orientation, left_of, in_line, strictly_between}
use Rattle.model.specs.Maps.{point}
use Rattle.model.specs.Outline.{next_corner, outline, corners}
use Rattle.model.specs.Shape.{Shaped}
use Rattle.model.specs.Placing.{is_at, is_on_edge, is_left_of_edge, strictly_sees, strictly_visible, place_among}
use Rattle.model.proofs.Shape.{same_point_eq, same_point_by}
use Rattle.plane.specs.Between.{opposite}
use Rattle.plane.proofs.Orientation.{orientation_cyclic, orientation_swap, orientation_twice, left_positive, in_line_zero}
use Rattle.plane.proofs.Aligned.{left_of_all}
use Rattle.maps.proofs.Circuits.{Circuit, edge_next}
use Rattle.maps.proofs.Outline.{outline_circuit, outline_long}
use Rattle.sight.proofs.Beyond.{sound_convex}
use Rattle.corners.proofs.Corners.{corners_rotated, corners_members}

-- ---- the tests of a corner as statements

between_line : (a b p : Point) → T (strictly_between a b p) → T (in_line a b p)
unfolding strictly_between
between_line a b p t = and_left (in_line a b p) (opposite a b p) t

between_opposite : (a b p : Point) → T (strictly_between a b p) → T (opposite a b p)
unfolding strictly_between
between_opposite a b p t = and_right (in_line a b p) (opposite a b p) t

-- ---- the meaning of an answer

module _ (m : Map) (p : Point) where
  -- p is no corner; p lies strictly between the ends of no edge; p is strictly left of every edge
  abbrev pub NoCorner : Type 0
  NoCorner = (a : ℕ) → T (elem a (outline m)) → point m a ≢ p

  abbrev pub NoEdge : Type 0
  NoEdge = (a : ℕ) → T (elem a (outline m)) → ¬ T (strictly_between (point m a) (point m (next_corner m a)) p)

  abbrev pub LeftOfAll : Type 0
  LeftOfAll = (a : ℕ) → T (elem a (outline m)) → T (left_of (point m a) (point m (next_corner m a)) p)

  -- "else the outline edge strictly between whose ends it lies, of two such edges the first in listing
  -- order"
  pub record LiesBetween (a b : ℕ) : Type 0 where
    pub no_corner : NoCorner
    pub start : T (elem a (outline m))
    pub end : b ≡ next_corner m a
    pub line : orientation (point m a) (point m b) p ≡ pos 0
    pub between : T (opposite (point m a) (point m b) p)
    pub first : FirstPassing (is_on_edge m p) (corners m) a

  -- "else "outside" with the number of visible edges"
  pub record LiesOutside (v : ℕ) : Type 0 where
    pub no_corner : NoCorner
    pub no_edge : NoEdge
    pub not_inside : ¬ LeftOfAll
    pub number : v ≡ count_in (strictly_sees m p) (outline m)
    pub some_visible : 3 ≤ length (outline m) → 0 < v

  abbrev pub Means : Placed → Type 0
  Means Placed.NoOutline = m.count < 2
  Means (Placed.Corner a) = T (elem a (outline m)) × (point m a ≡ p)
  Means (Placed.Edge a b) = LiesBetween a b
  Means Placed.Inside = LeftOfAll
  Means (Placed.Outside v) = LiesOutside v

-- ---- every answer has its meaning

module _ {m : Map} (s : Shaped m) (two : 2 ≤ m.count) (p : Point) where
  on : (a : ℕ) → T (elem a (corners m)) → T (elem a (outline m))
  on a = (corners_members s two a).0

  listed : (a : ℕ) → T (elem a (outline m)) → T (elem a (corners m))
  listed a = (corners_members s two a).1

  -- the edges are as many round the outline as in listing order
  pub strictly_visible_outline : strictly_visible m p ≡ count_in (strictly_sees m p) (outline m)
  unfolding strictly_visible
  strictly_visible_outline =
      let r = corners_rotated s two in
      ap (count_in (strictly_sees m p)) (sym r.3) ∙ count_in_swap (strictly_sees m p) r.1 r.0
      ∙ ap (count_in (strictly_sees m p)) r.2

  no_corner : T (not (any_in (is_at m p) (corners m))) → NoCorner m p
  no_corner t a h e = none_passes (is_at m p) (corners m) t a (listed a h) (same_point_by (point m a) p e)

  no_edge : T (not (any_in (is_on_edge m p) (corners m))) → NoEdge m p
  no_edge t a h = none_passes (is_on_edge m p) (corners m) t a (listed a h)

  left_all : T (all_in (is_left_of_edge m p) (corners m)) → LeftOfAll m p
  left_all t a h = all_elem (is_left_of_edge m p) (corners m) t a (listed a h)

  first_on : {test : ℕ → Bool} {a : ℕ} → FirstPassing test (corners m) a → T (elem a (outline m))
  first_on {test} {a} f =
      on a (subst (λ (l : List ℕ). T (elem a l)) (sym f.cut) (elem_middle a f.front f.back))

  corner_means : T (any_in (is_at m p) (corners m)) → Means m p (Placed.Corner (first_in (is_at m p) 0 (corners m)))
  corner_means t =
      let f = first_passing (is_at m p) 0 (corners m) t in
      (first_on f, same_point_eq (point m (first_in (is_at m p) 0 (corners m))) p f.passes)

  edge_means : NoCorner m p → (a : ℕ) → FirstPassing (is_on_edge m p) (corners m) a →
      Means m p (Placed.Edge a (next_corner m a))
  edge_means none a f =
      record {
        no_corner = none;
        start = first_on f;
        end = refl;
        line =
            in_line_zero (point m a) (point m (next_corner m a)) p
            (between_line (point m a) (point m (next_corner m a)) p f.passes);
        between = between_opposite (point m a) (point m (next_corner m a)) p f.passes;
        first = f;
      }

  outside_means : NoCorner m p → NoEdge m p → ¬ LeftOfAll m p → Means m p (Placed.Outside (strictly_visible m p))
  outside_means none bare other =
      record {
        no_corner = none;
        no_edge = bare;
        not_inside = other;
        number = strictly_visible_outline;
        some_visible =
            λ three.
            ⊎_elim
            (λ (l : 0 < strictly_visible m p). l)
            (λ (l : strictly_visible m p ≤ 0).
            let zero : count_in (strictly_sees m p) (outline m) ≡ 0 = omega (arith, strictly_visible_outline) in
            absurd
            (other
            (left_of_all (sound_convex s two) three p none bare (count_in_zero (strictly_sees m p) (outline m) zero))))
            (lt_or_ge 0 (strictly_visible m p));
      }

  among_means : Means m p (place_among m p)
  unfolding place_among
  among_means =
      ⊎_elim
      (λ (t : T (any_in (is_at m p) (corners m))). rw (is_true (any_in (is_at m p) (corners m)) t) (corner_means t))
      (λ (t : T (not (any_in (is_at m p) (corners m)))).
      rw (is_false (any_in (is_at m p) (corners m)) (T_not (any_in (is_at m p) (corners m)) t))
      (⊎_elim
      (λ (u : T (any_in (is_on_edge m p) (corners m))).
      rw (is_true (any_in (is_on_edge m p) (corners m)) u)
      (edge_means (no_corner t) (first_in (is_on_edge m p) 0 (corners m)) (first_passing (is_on_edge m p) 0 (corners m) u)))
      (λ (u : T (not (any_in (is_on_edge m p) (corners m)))).
      rw (is_false (any_in (is_on_edge m p) (corners m)) (T_not (any_in (is_on_edge m p) (corners m)) u))
      (⊎_elim
      (λ (v : T (all_in (is_left_of_edge m p) (corners m))).
      rw (is_true (all_in (is_left_of_edge m p) (corners m)) v) (left_all v))
      (λ (v : T (not (all_in (is_left_of_edge m p) (corners m)))).
      let n = T_not (all_in (is_left_of_edge m p) (corners m)) v in
      rw (is_false (all_in (is_left_of_edge m p) (corners m)) n)
      (outside_means (no_corner t) (no_edge u)
      (λ f. n (all_of_elem (is_left_of_edge m p) (corners m) (λ a h. f a (on a h))))))
      (decide (all_in (is_left_of_edge m p) (corners m)))))
      (decide (any_in (is_on_edge m p) (corners m)))))
      (decide (any_in (is_at m p) (corners m)))

pub placing_means : {m : Map} → Shaped m → (p : Point) →
    Means m p (cond (ltb m.count 2) Placed.NoOutline (place_among m p))
placing_means {m} s p =
    ⊎_elim
    (λ (h : m.count < 2). rw (lt-ltb m.count 2 h) h)
    (λ (h : 2 ≤ m.count). rw (le-ltb m.count 2 h) (among_means s h p))
    (lt_or_ge m.count 2)

-- ---- what follows

module _ {m : Map} (s : Shaped m) (two : 2 ≤ m.count) (p : Point) where
  -- a point that is left of every edge is no corner, and on no edge
  left_no_corner : LeftOfAll m p → NoCorner m p
  left_no_corner f a h e =
      <ℤ_≢ (left_positive (point m a) (point m (next_corner m a)) p (f a h))
      (sym
      (ap (orientation (point m a) (point m (next_corner m a))) (sym e)
      ∙ sym (orientation_cyclic (point m a) (point m a) (point m (next_corner m a)))
      ∙ orientation_twice (point m a) (point m (next_corner m a))))

  left_no_edge : LeftOfAll m p → NoEdge m p
  left_no_edge f a h t =
      <ℤ_≢ (left_positive (point m a) (point m (next_corner m a)) p (f a h))
      (sym
      (in_line_zero (point m a) (point m (next_corner m a)) p
      (between_line (point m a) (point m (next_corner m a)) p t)))

  -- "inside" just where the point is strictly left of every edge
  pub inside_just : (place_among m p ≡ Placed.Inside) ↔ LeftOfAll m p
  unfolding place_among
  inside_just = (λ e. subst (Means m p) e (among_means s two p), inside_by)
    where
      inside_by : LeftOfAll m p → place_among m p ≡ Placed.Inside
      inside_by f =
          rw (
            is_false (any_in (is_at m p) (corners m))
                (λ t.
                let r = corner_means s two p t in
                left_no_corner f (first_in (is_at m p) 0 (corners m)) r.0 r.1),
            is_false (any_in (is_on_edge m p) (corners m))
                (λ t.
                let r = first_passing (is_on_edge m p) 0 (corners m) t in
                left_no_edge f (first_in (is_on_edge m p) 0 (corners m)) (first_on s two p r) r.passes),
            is_true (all_in (is_left_of_edge m p) (corners m))
                (all_of_elem (is_left_of_edge m p) (corners m) (λ a h. f a (on s two p a h))),
          )

  -- never with two corners: one of two opposite orientations is not positive
  pub two_not_inside : length (outline m) ≡ 2 → place_among m p ≢ Placed.Inside
  unfolding Cycle Chain
  two_not_inside e i = go (outline m) (outline_circuit s two) e (inside_just.0 i)
    where
      go : (l : List ℕ) → Circuit m l → length l ≡ 2 →
          ¬ ((a : ℕ) → T (elem a l) → T (left_of (point m a) (point m (next_corner m a)) p))
      go [] c n f = omega arith
      go (a ∷ []) c n f = omega arith
      go (a ∷ b ∷ []) c n f =
          let there = edge_next m a b c.edges.0 in
          let back = edge_next m b a c.edges.1.0 in
          let l = left_positive (point m a) (point m b) p (rw there at (f a (elem_head a (b ∷ [])))) in
          let r =
          left_positive (point m b) (point m a) p
          (rw back at (f b (elem_tail b a (b ∷ []) (elem_head b [])))) in
          omega (
            arith,
            order,
            orientation_swap (point m a) (point m b) p,
            negℤ_splits (orientation (point m b) (point m a) p),
          )
      go (a ∷ b ∷ d ∷ l) c n f = omega arith

  -- with three corners or more an outside point sees an edge
  pub outside_sees : (v : ℕ) → place_among m p ≡ Placed.Outside v → 3 ≤ length (outline m) → 0 < v
  outside_sees v e = (subst (Means m p) e (among_means s two p)).some_visible

  -- so that 0 is reported for two corners only
  pub none_visible_two : place_among m p ≡ Placed.Outside 0 → length (outline m) ≡ 2
  none_visible_two e =
      ⊎_elim
      (λ (l : length (outline m) < 3). omega (arith, outline_long s two))
      (λ (l : 3 ≤ length (outline m)). absurd (omega (arith, outside_sees 0 e l)))
      (lt_or_ge (length (outline m)) 3)
