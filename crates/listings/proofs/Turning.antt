-- Whether every corner supports its edge, decided in one walk round the list, in the order of this page: what
-- is tested at each place; points above a lowest one, and the order in which it sees them; four points that it
-- sees in order; a walk that turns left at every place turns left at any three of its places, so that all lie
-- beside each edge; the corners of a listable list turn left; both tests are the same (`turns_same`).
-- The walk tests two turns at each place: that of the place and the two before it, and that of the first and
-- the last two, by which a walk that goes round more than once is told from one that does not.
use mathlib.Core.Path.{◌≡◌, sym, subst, ◌∙◌}
use mathlib.Core.Logic.{◌≢◌, ⊎_elim}
use mathlib.Core.Bool.{not, ◌&&◌}
use mathlib.Core.List.{List}
use Prim.Native.Nat.{ℕ, zero, suc, ◌+◌, ◌-◌, ◌%◌, ◌≤◌, ◌<◌}
use native.Mathlib.Nat.{mod-eq_of_lt, mod_self}
use native.Mathlib.Omega.{arith}
use lib.Dec.{T, leb, eqb, leb→le, le→leb}
use lib.IntN.{pos, ◌+ℤ◌, ◌-ℤ◌, ◌*ℤ◌, *ℤ-zero}
use lib.ListN.{length, get_or}
use lib.Signed.{◌≤ℤ◌, ◌<ℤ◌}
use Rattle.integers.specs.Order.{order, -ℤ_splits, <ℤ_weaken}
use Rattle.integers.specs.Sign.{pos_pos, nonneg_nonneg, second_pos_pos, sum_pos_left, sum_pos_right}
use Rattle.integers.specs.Solver.{con, ◌⊕◌, ◌⊖◌, ◌⊗◌, ◌≐◌}
use Rattle.integers.proofs.Solver.{identity}
use Rattle.finite.specs.Tests.{and_left, and_right, and_both, implies_use, implies_by, differ_by, same_test}
use Rattle.finite.specs.Bounded.{all_at, all_by, lt_or_ge}
use Rattle.finite.specs.Lists.{all_in}
use Rattle.model.specs.declared.Point.{Point}
use Rattle.model.specs.Plane.{at, origin, in_range, orientation, left_of, lower}
use Rattle.model.specs.Maps.{point_limit}
use Rattle.model.specs.Outline.{next_corner}
use Rattle.model.specs.Outlines.{lowest_is_first, all_support, listable}
use Rattle.model.specs.History.{run}
use Rattle.plane.proofs.Orientation.{orientation_expr, orientation_exchange, left_positive, positive_left}
use Rattle.plane.proofs.Knuth.{cyclic_symmetry, cyclic_back}
use Rattle.plane.proofs.Heights.{lower_is}
use Rattle.plane.proofs.Betweenness.{beside_left}
use Rattle.plane.proofs.Convex.{corners_strict}
use Rattle.sight.proofs.Beyond.{sound_convex}
use Rattle.hull.proofs.History.{run_shaped}
use Rattle.listings.specs.Listings.{turns_at}
use Rattle.corners.proofs.Listings.{Listable, listable_holds, listable_by, point_is, two_points, edge_to_next}

-- ---- points above a lowest one

-- how much higher than o a point is, as its orientation with o and the point right of o
abbrev right : Point → Point
right o = at (o.x +ℤ pos 1) o.y

height : (o u : Point) → orientation o (right o) u ≡ u.y -ℤ o.y
unfolding orientation
height o u =
    identity 4 (λ ox oy ux uy. orientation_expr ox oy (ox ⊕ con (pos 1)) oy ux uy ≐ uy ⊖ oy) tt
    o.x o.y u.x u.y

not_lower : (o u : Point) → T (lower o u) → pos 0 ≤ℤ (u.y -ℤ o.y)
not_lower o u t =
    ⊎_elim
    (λ (h : o.y <ℤ u.y). omega (arith, order, -ℤ_splits u.y o.y))
    (λ (h : (o.y ≡ u.y) × (o.x <ℤ u.x)). omega (arith, order, h.0, -ℤ_splits u.y o.y))
    (lower_is o u t)

-- a point level with o is right of it, and left of no way from o to a point above o
turned_higher : (o u v : Point) → T (lower o u) → T (lower o v) → T (left_of o u v) → pos 0 <ℤ (v.y -ℤ o.y)
unfolding orientation
turned_higher o u v s t l =
    ⊎_elim
    (λ (h : o.y <ℤ v.y). omega (arith, order, -ℤ_splits v.y o.y))
    (λ (h : (o.y ≡ v.y) × (o.x <ℤ v.x)).
    let level : v.y -ℤ o.y ≡ pos 0 = omega (arith, order, h.0, -ℤ_splits v.y o.y) in
    let ahead : pos 0 ≤ℤ (v.x -ℤ o.x) = omega (arith, order, h.1, -ℤ_splits v.x o.x) in
    let rise = (u.x -ℤ o.x) *ℤ (v.y -ℤ o.y) in
    let none : rise ≡ pos 0 = rw (level, *ℤ-zero) in
    absurd
    (omega (
      arith,
      order,
      none,
      left_positive o u v l,
      nonneg_nonneg (not_lower o u s) ahead,
      -ℤ_splits rise ((u.y -ℤ o.y) *ℤ (v.x -ℤ o.x)),
    )))
    (lower_is o v t)

-- left of u is v, and left of v is w, as o sees them
seen_onward : (o u v w : Point) → T (lower o u) → T (lower o v) → T (lower o w) →
    T (left_of o u v) → T (left_of o v w) → T (left_of o u w)
seen_onward o u v w ou ov ow uv vw =
    let high_v : pos 0 <ℤ orientation o (right o) v = rw height (turned_higher o u v ou ov uv) in
    let high_w : pos 0 <ℤ orientation o (right o) w = rw height (turned_higher o v w ov ow vw) in
    let not_low : pos 0 ≤ℤ orientation o (right o) u = rw height (not_lower o u ou) in
    positive_left o u w
    (second_pos_pos high_v
    (rw orientation_exchange
    (sum_pos_right (nonneg_nonneg not_low (<ℤ_weaken (left_positive o v w vw)))
    (pos_pos high_w (left_positive o u v uv)))))

-- ---- four points that o sees in order, of which the first three and the last three turn left

module _ (o a b c d : Point) where
  without_third : orientation o b c *ℤ orientation a b d ≡
      orientation o a b *ℤ orientation b c d +ℤ orientation o b d *ℤ orientation a b c
  unfolding orientation
  without_third =
      identity 10
      (λ ox oy ax ay bx by cx cy dx dy.
      orientation_expr ox oy bx by cx cy ⊗ orientation_expr ax ay bx by dx dy
      ≐ orientation_expr ox oy ax ay bx by ⊗ orientation_expr bx by cx cy dx dy
      ⊕ orientation_expr ox oy bx by dx dy ⊗ orientation_expr ax ay bx by cx cy)
      tt o.x o.y a.x a.y b.x b.y c.x c.y d.x d.y

  without_second : orientation o b c *ℤ orientation a c d ≡
      orientation o a c *ℤ orientation b c d +ℤ orientation o c d *ℤ orientation a b c
  unfolding orientation
  without_second =
      identity 10
      (λ ox oy ax ay bx by cx cy dx dy.
      orientation_expr ox oy bx by cx cy ⊗ orientation_expr ax ay cx cy dx dy
      ≐ orientation_expr ox oy ax ay cx cy ⊗ orientation_expr bx by cx cy dx dy
      ⊕ orientation_expr ox oy cx cy dx dy ⊗ orientation_expr ax ay bx by cx cy)
      tt o.x o.y a.x a.y b.x b.y c.x c.y d.x d.y

  module _ (bc : T (left_of o b c)) (abc : T (left_of a b c)) (bcd : T (left_of b c d)) where
    skip_third : T (left_of o a b) → T (left_of o b d) → T (left_of a b d)
    skip_third ab bd =
        positive_left a b d
        (second_pos_pos (left_positive o b c bc)
        (rw without_third
        (sum_pos_left (pos_pos (left_positive o a b ab) (left_positive b c d bcd))
        (<ℤ_weaken (pos_pos (left_positive o b d bd) (left_positive a b c abc))))))

    skip_second : T (left_of o a c) → T (left_of o c d) → T (left_of a c d)
    skip_second ac cd =
        positive_left a c d
        (second_pos_pos (left_positive o b c bc)
        (rw without_second
        (sum_pos_left (pos_pos (left_positive o a c ac) (left_positive b c d bcd))
        (<ℤ_weaken (pos_pos (left_positive o c d cd) (left_positive a b c abc))))))

-- ---- a walk that turns left at every place

module _ (n : ℕ) (P : ℕ → Point)
    (lowest : (k : ℕ) → k < n → k ≢ 0 → T (lower (P 0) (P k)))
    (onward : (k : ℕ) → 1 ≤ k → suc k < n → T (left_of (P 0) (P k) (P (suc k))))
    (bend : (k : ℕ) → suc (suc k) < n → T (left_of (P k) (P (suc k)) (P (suc (suc k))))) where
  -- the first place sees the others in order
  in_order : (i k : ℕ) → 1 ≤ i → i < k → k < n → T (left_of (P 0) (P i) (P k))
  in_order i zero one h l = absurd (omega arith)
  in_order i (suc k) one h l =
      ⊎_elim
      (λ (before : i < k).
      seen_onward (P 0) (P i) (P k) (P (suc k)) (lowest i (omega arith) (omega arith))
      (lowest k (omega arith) (omega arith)) (lowest (suc k) l (omega arith))
      (in_order i k one before (omega arith)) (onward k (omega arith) l))
      (λ (last : k ≤ i).
      let e : k ≡ i = omega arith in
      subst (λ (j : ℕ). T (left_of (P 0) (P j) (P (suc k)))) e (onward k (omega arith) l))
      (lt_or_ge i k)

  -- any place, and two that stand one after the other
  then_two : (i k : ℕ) → 1 ≤ i → i < k → suc k < n → T (left_of (P i) (P k) (P (suc k)))
  then_two i zero one h l = absurd (omega arith)
  then_two i (suc k) one h l =
      ⊎_elim
      (λ (before : i < k).
      skip_second (P 0) (P i) (P k) (P (suc k)) (P (suc (suc k))) (onward k (omega arith) (omega arith))
      (then_two i k one before (omega arith)) (bend k l) (in_order i (suc k) one h (omega arith))
      (onward (suc k) (omega arith) l))
      (λ (last : k ≤ i).
      let e : k ≡ i = omega arith in
      subst (λ (j : ℕ). T (left_of (P j) (P (suc k)) (P (suc (suc k))))) e (bend k l))
      (lt_or_ge i k)

  -- any three but the first
  later_three : (i j k : ℕ) → 1 ≤ i → i < j → j < k → k < n → T (left_of (P i) (P j) (P k))
  later_three i j zero one h g l = absurd (omega arith)
  later_three i j (suc k) one h g l =
      ⊎_elim
      (λ (before : j < k).
      skip_third (P 0) (P i) (P j) (P k) (P (suc k)) (in_order j k (omega arith) before (omega arith))
      (later_three i j k one h before (omega arith)) (then_two j k (omega arith) before l)
      (in_order i j one h (omega arith)) (in_order j (suc k) (omega arith) g l))
      (λ (last : k ≤ j).
      let e : k ≡ j = omega arith in
      subst (λ (x : ℕ). T (left_of (P i) (P x) (P (suc k)))) e (then_two i k one (omega arith) l))
      (lt_or_ge j k)

  any_three : (i j k : ℕ) → i < j → j < k → k < n → T (left_of (P i) (P j) (P k))
  any_three zero j k h g l = in_order j k (omega arith) g l
  any_three (suc i) j k h g l = later_three (suc i) j k (omega arith) h g l

  -- so all are left of each edge, of that from the last to the first too
  left_of_edge : (a c : ℕ) → a < n → c < n → c ≢ a → c ≢ (a + 1) % n → T (left_of (P a) (P ((a + 1) % n)) (P c))
  left_of_edge a c h k d e =
      ⊎_elim
      (λ (more : a + 1 < n).
      let next : (a + 1) % n ≡ a + 1 = mod-eq_of_lt more in
      rw next
      (⊎_elim
      (λ (before : c < a).
      cyclic_symmetry (P c) (P a) (P (a + 1)) (any_three c a (a + 1) before (omega arith) more))
      (λ (after : a ≤ c). any_three a (a + 1) c (omega arith) (omega (arith, next)) k)
      (lt_or_ge c a)))
      (λ (last : n ≤ a + 1).
      let end : a + 1 ≡ n = omega arith in
      let first : (a + 1) % n ≡ 0 = rw end (mod_self n) in
      rw first (cyclic_back (P 0) (P c) (P a) (any_three 0 c a (omega (arith, first)) (omega arith) h)))
      (lt_or_ge (a + 1) n)

-- ---- both tests are the same

module _ (cs : List Point) (few : length cs ≤ point_limit) (lowest : T (lowest_is_first cs)) where
  -- the corner at a place
  abbrev corner : ℕ → Point
  corner k = get_or cs k origin

  first_lowest : (k : ℕ) → k < length cs → k ≢ 0 → T (lower (corner 0) (corner k))
  unfolding lowest_is_first
  first_lowest k h d =
      implies_use (not (eqb k 0)) (lower (corner 0) (corner k)) (all_at (length cs) _ lowest k h) (differ_by k 0 d)

  -- ---- where the walk turns left, all lie beside each edge

  module _ (t : T (turns_at cs)) where
    -- what is tested at place k, and the same by the places before it
    turned_at : (k : ℕ) → 2 ≤ k → k < length cs →
        T (left_of (corner 0) (corner (k - 1)) (corner k) && left_of (corner (k - 2)) (corner (k - 1)) (corner k))
    unfolding turns_at
    turned_at k two h = implies_use (leb 2 k) _ (all_at (length cs) _ t k h) (le→leb 2 k two)

    turns_onward : (k : ℕ) → 1 ≤ k → suc k < length cs → T (left_of (corner 0) (corner k) (corner (suc k)))
    turns_onward k one h =
        let before : suc k - 1 ≡ k = omega arith in
        rw before at (and_left (left_of (corner 0) (corner (suc k - 1)) (corner (suc k))) _ (turned_at (suc k) (omega arith) h))

    turns_bend : (k : ℕ) → suc (suc k) < length cs → T (left_of (corner k) (corner (suc k)) (corner (suc (suc k))))
    turns_bend k h =
        let before : suc (suc k) - 1 ≡ suc k = omega arith in
        let first : suc (suc k) - 2 ≡ k = omega arith in
        rw (before, first) at
        (and_right (left_of (corner 0) (corner (suc (suc k) - 1)) (corner (suc (suc k)))) _ (turned_at (suc (suc k)) (omega arith) h))

    turning_listable : Listable cs
    turning_listable =
        record {
          few = few;
          lowest = first_lowest;
          support = λ a c h k d e.
              let b = (a + 1) % length cs in
              beside_left (corner a) (corner b) (corner c)
              (left_positive (corner a) (corner b) (corner c)
              (left_of_edge (length cs) corner first_lowest turns_onward turns_bend a c h k d e));
        }

    turning_supports : T (all_support cs)
    unfolding listable
    turning_supports =
        and_right (leb (length cs) point_limit && lowest_is_first cs) (all_support cs)
        (listable_by cs turning_listable)

  -- ---- where all lie beside each edge, the walk turns left

  module _ (ranged : T (all_in in_range cs)) (support : T (all_support cs)) where
    supporting_listable : Listable cs
    unfolding listable
    supporting_listable =
        let n = length cs in
        listable_holds cs
        (and_both (leb n point_limit && lowest_is_first cs) (all_support cs)
        (and_both (leb n point_limit) (lowest_is_first cs) (le→leb n point_limit few) lowest) support)

    -- offered in order they are corners, and corners lie strictly left of each edge but their own
    strictly_left : (a b c : ℕ) → b ≡ a + 1 → b < length cs → c < length cs → c ≢ a → c ≢ b →
        T (left_of (corner a) (corner b) (corner c))
    strictly_left a b c is h k d e =
        let l = supporting_listable in
        let two : 2 ≤ length cs = omega arith in
        let on_a = edge_to_next cs ranged l two a (omega arith) in
        let next : next_corner (run cs).map a ≡ b = on_a.1 ∙ mod-eq_of_lt (omega arith) ∙ sym is in
        rw (← point_is cs ranged l a (omega arith), ← point_is cs ranged l b h, ← point_is cs ranged l c k, ← next)
        (corners_strict (sound_convex (run_shaped cs) (two_points cs ranged l two)) a c on_a.0
        (edge_to_next cs ranged l two c k).0 d (λ i. e (i ∙ next)))

    supporting_turns : T (turns_at cs)
    unfolding turns_at
    supporting_turns =
        all_by (length cs) _
        (λ k h.
        implies_by (leb 2 k) _
        (λ t.
        let two : 2 ≤ k = leb→le 2 k t in
        and_both (left_of (corner 0) (corner (k - 1)) (corner k)) _
        (cyclic_back (corner (k - 1)) (corner k) (corner 0)
        (strictly_left (k - 1) k 0 (omega arith) h (omega arith) (omega arith) (omega arith)))
        (strictly_left (k - 2) (k - 1) k (omega arith) (omega arith) h (omega arith) (omega arith))))

pub turns_same : (cs : List Point) → T (all_in in_range cs) → length cs ≤ point_limit → T (lowest_is_first cs) →
    turns_at cs ≡ all_support cs
turns_same cs ranged few lowest =
    same_test (turns_at cs) (all_support cs) (turning_supports cs few lowest) (supporting_turns cs few lowest ranged)
