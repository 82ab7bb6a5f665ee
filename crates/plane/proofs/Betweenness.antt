-- Points in line, in the order of this page: identities of the dot product; of three different points in
-- line one lies strictly between the others; a point in line with an edge and beyond one of its ends is
-- right of the next edge there; strictly between, as a statement; how a point between two others lies to an
-- edge; several points of one line; beside an edge, and seen from a point, by the orientation and by the
-- dot product.
-- Of a triangle a b p, let u, v, w be the dot products at p, b, a. Then u + v, v + w, w + u are the
-- squares of its sides, and u v + v w + w u is the square of its orientation. So where that is 0 and
-- the points differ, not all three of u, v, w are 0 or more.
use mathlib.Core.Bool.{true, false}
use mathlib.Core.Path.{◌≡◌, sym, ap, subst, ◌∙◌}
use mathlib.Core.Logic.{◌≢◌, ◌⊎◌, inl, inr, ⊎_elim}
use native.Mathlib.Omega.{arith}
use lib.Dec.{T, T_not, not_T}
use lib.IntN.{ℤ, pos, ◌+ℤ◌, ◌-ℤ◌, ◌*ℤ◌, +ℤ_comm, *ℤ_comm}
use lib.Signed.{◌≤ℤ◌, ◌<ℤ◌, lt_z_yes}
use Rattle.integers.specs.Ring.{eq_of_difference}
use Rattle.integers.specs.Solver.{Expr, con, ◌≐◌, ◌⊕◌, ◌⊖◌, ◌⊗◌}
use Rattle.integers.proofs.Solver.{identity}
use Rattle.integers.specs.Order.{order, +ℤ_splits, negℤ_splits, ≤ℤ_≢_<ℤ, <ℤ_≢, <ℤ_weaken, ≡_≤ℤ, ≤ℤ_antisym, signs, <_or_≥, -ℤ_splits}
use Rattle.integers.specs.Sign.{pos_pos, neg_neg, nonneg_nonneg, pos_neg, neg_pos, nonneg_nonpos, square_nonneg, second_pos_pos, second_pos_neg, second_pos_nonpos, second_neg_nonneg, second_zero}
use Rattle.finite.specs.Tests.{is_true, is_false, and_left, and_right, and_both, or_cases, or_left, or_right, not_not}
use Rattle.model.specs.declared.Point.{Point}
use Rattle.model.specs.Plane.{at, orientation, left_of, visible_from, in_line, strictly_between, beside, sees_edge}
use Rattle.plane.specs.Between.{dot, opposite}
use Rattle.plane.proofs.Orientation.{orientation_expr, orientation_cyclic, orientation_swap, left_positive, positive_left, in_line_zero, zero_in_line}
use Rattle.plane.proofs.Knuth.{orientation_opposite}

-- ---- identities of the dot product

-- the formula as an expression of the solver
abbrev dotted : (ax ay bx by px py : Expr) → Expr
dotted ax ay bx by px py = (ax ⊖ px) ⊗ (bx ⊖ px) ⊕ (ay ⊖ py) ⊗ (by ⊖ py)

module _ (a b p : Point) where
  -- the square of the side from p to b
  side_square : dot a b p +ℤ dot a p b ≡ dot b b p
  side_square =
      identity 6
      (λ ax ay bx by px py. dotted ax ay bx by px py ⊕ dotted ax ay px py bx by ≐ dotted bx by bx by px py)
      tt a.x a.y b.x b.y p.x p.y

  dot_swap : dot a b p ≡ dot b a p
  dot_swap =
      identity 6 (λ ax ay bx by px py. dotted ax ay bx by px py ≐ dotted bx by ax ay px py) tt
      a.x a.y b.x b.y p.x p.y

  -- a point on a side of no length
  dot_at_end : dot p b p ≡ pos 0
  dot_at_end =
      identity 4 (λ bx by px py. dotted px py bx by px py ≐ con (pos 0)) tt b.x b.y p.x p.y

  law_of_cosines : dot a a b ≡ dot a a p +ℤ dot p p b -ℤ (dot a b p +ℤ dot a b p)
  law_of_cosines =
      identity 6
      (λ ax ay bx by px py.
      dotted ax ay ax ay bx by
      ≐ dotted ax ay ax ay px py ⊕ dotted px py px py bx by ⊖ (dotted ax ay bx by px py ⊕ dotted ax ay bx by px py))
      tt a.x a.y b.x b.y p.x p.y

  area_square :
      dot a b p *ℤ dot a p b +ℤ dot a p b *ℤ dot b p a +ℤ dot a b p *ℤ dot b p a ≡ orientation a b p *ℤ orientation a b p
  unfolding orientation
  area_square =
      identity 6
      (λ ax ay bx by px py.
      dotted ax ay bx by px py ⊗ dotted ax ay px py bx by ⊕ dotted ax ay px py bx by ⊗ dotted bx by px py ax ay
      ⊕ dotted ax ay bx by px py ⊗ dotted bx by px py ax ay
      ≐ orientation_expr ax ay bx by px py ⊗ orientation_expr ax ay bx by px py)
      tt a.x a.y b.x b.y p.x p.y

module _ (a b c p : Point) where
  -- how p lies to the next edge from b to c, and to the edge before from c to a
  next_edge :
      dot a a b *ℤ orientation b c p ≡ dot a p b *ℤ orientation a b c -ℤ orientation a b p *ℤ dot c a b
  unfolding orientation
  next_edge =
      identity 8
      (λ ax ay bx by cx cy px py.
      dotted ax ay ax ay bx by ⊗ orientation_expr bx by cx cy px py
      ≐ dotted ax ay px py bx by ⊗ orientation_expr ax ay bx by cx cy ⊖ orientation_expr ax ay bx by px py ⊗ dotted cx cy ax ay bx by)
      tt a.x a.y b.x b.y c.x c.y p.x p.y

  edge_before :
      dot a a b *ℤ orientation c a p ≡ dot b p a *ℤ orientation c a b -ℤ orientation a b p *ℤ dot c b a
  unfolding orientation
  edge_before =
      identity 8
      (λ ax ay bx by cx cy px py.
      dotted ax ay ax ay bx by ⊗ orientation_expr cx cy ax ay px py
      ≐ dotted bx by px py ax ay ⊗ orientation_expr cx cy ax ay bx by ⊖ orientation_expr ax ay bx by px py ⊗ dotted cx cy bx by ax ay)
      tt a.x a.y b.x b.y c.x c.y p.x p.y

  -- the dot product of two ways from p, by their parts along the way from p to a and across it
  dot_parts :
      dot b c p *ℤ dot a a p ≡ dot b a p *ℤ dot c a p +ℤ orientation a p b *ℤ orientation a p c
  unfolding orientation
  dot_parts =
      identity 8
      (λ ax ay bx by cx cy px py.
      dotted bx by cx cy px py ⊗ dotted ax ay ax ay px py
      ≐ dotted bx by ax ay px py ⊗ dotted cx cy ax ay px py ⊕ orientation_expr ax ay px py bx by ⊗ orientation_expr ax ay px py cx cy)
      tt a.x a.y b.x b.y c.x c.y p.x p.y

-- ---- squares of sides

square_side : (a b : Point) → pos 0 ≤ℤ dot a a b
square_side a b =
    omega (
      arith,
      order,
      +ℤ_splits ((a.x -ℤ b.x) *ℤ (a.x -ℤ b.x)) ((a.y -ℤ b.y) *ℤ (a.y -ℤ b.y)),
      square_nonneg (a.x -ℤ b.x),
      square_nonneg (a.y -ℤ b.y),
    )

different_side : (a b : Point) → a ≢ b → pos 0 <ℤ dot a a b
different_side a b n = ≤ℤ_≢_<ℤ (square_side a b) (λ e. n (same e))
  where
    none : (x y : ℤ) → pos 0 ≡ x *ℤ x +ℤ y *ℤ y → x ≡ pos 0
    none x y e =
        ⊎_elim
        (λ h. absurd (omega (arith, order, +ℤ_splits (x *ℤ x) (y *ℤ y), pos_pos h h, square_nonneg y)))
        (⊎_elim (λ z. z)
        (λ h. absurd (omega (arith, order, +ℤ_splits (x *ℤ x) (y *ℤ y), neg_neg h h, square_nonneg y))))
        (signs x)

    same : pos 0 ≡ dot a a b → a ≡ b
    same e =
        let ex = eq_of_difference a.x b.x (none (a.x -ℤ b.x) (a.y -ℤ b.y) e) in
        let ey = eq_of_difference a.y b.y
        (none (a.y -ℤ b.y) (a.x -ℤ b.x)
        (e ∙ +ℤ_comm ((a.x -ℤ b.x) *ℤ (a.x -ℤ b.x)) ((a.y -ℤ b.y) *ℤ (a.y -ℤ b.y)))) in
        λ i. at (ex i) (ey i)

-- ---- three different points in line

zero_times : (z : ℤ) → pos 0 *ℤ z ≡ pos 0
zero_times z = identity 1 (λ x. con (pos 0) ⊗ x ≐ con (pos 0)) tt z

-- three numbers whose sums two by two are positive, and whose products two by two add up to 0
not_all_nonneg : (u v w : ℤ) → pos 0 <ℤ (u +ℤ v) → pos 0 <ℤ (v +ℤ w) → pos 0 <ℤ (u +ℤ w) →
    u *ℤ v +ℤ v *ℤ w +ℤ u *ℤ w ≡ pos 0 →
    pos 0 ≤ℤ u → pos 0 ≤ℤ v → ¬ (pos 0 ≤ℤ w)
not_all_nonneg u v w uv vw uw e hu hv hw =
    ⊎_elim
    (λ (k : pos 0 <ℤ u).
    ⊎_elim
    (λ (l : pos 0 <ℤ v).
    omega (
      arith,
      order,
      +ℤ_splits (u *ℤ v +ℤ v *ℤ w) (u *ℤ w),
      +ℤ_splits (u *ℤ v) (v *ℤ w),
      pos_pos k l,
      nonneg_nonneg hv hw,
      nonneg_nonneg hu hw,
    ))
    (λ (l : v ≤ℤ pos 0).
    omega (
      arith,
      order,
      +ℤ_splits (u *ℤ v +ℤ v *ℤ w) (u *ℤ w),
      +ℤ_splits (u *ℤ v) (v *ℤ w),
      nonneg_nonneg hu hv,
      nonneg_nonneg hv hw,
      pos_pos {b = w} k (omega (arith, order, +ℤ_splits v w)),
    ))
    (<_or_≥ (pos 0) v))
    (λ (k : u ≤ℤ pos 0).
    omega (
      arith,
      order,
      +ℤ_splits (u *ℤ v +ℤ v *ℤ w) (u *ℤ w),
      +ℤ_splits (u *ℤ v) (v *ℤ w),
      nonneg_nonneg hu hv,
      nonneg_nonneg hu hw,
      pos_pos {a = v} {b = w} (omega (arith, order, +ℤ_splits u v)) (omega (arith, order, +ℤ_splits u w)),
    ))
    (<_or_≥ (pos 0) u)

-- one lies strictly between the others
pub one_between : (a b p : Point) → a ≢ b → p ≢ a → p ≢ b → orientation a b p ≡ pos 0 →
    (dot a b p <ℤ pos 0) ⊎ (dot a p b <ℤ pos 0) ⊎ (dot b p a <ℤ pos 0)
one_between a b p ab pa pb line =
    ⊎_elim inl
    (λ (hu : pos 0 ≤ℤ u).
    ⊎_elim (λ h. inr (inl h))
    (λ (hv : pos 0 ≤ℤ v).
    ⊎_elim (λ h. inr (inr h))
    (λ (hw : pos 0 ≤ℤ w). absurd (not_all_nonneg u v w uv vw uw none hu hv hw))
    (<_or_≥ w (pos 0)))
    (<_or_≥ v (pos 0)))
    (<_or_≥ u (pos 0))
  where
    u : ℤ
    u = dot a b p

    v : ℤ
    v = dot a p b

    w : ℤ
    w = dot b p a

    uv : pos 0 <ℤ (u +ℤ v)
    uv = rw (side_square a b p) (different_side b p (λ e. pb (sym e)))

    vw : pos 0 <ℤ (v +ℤ w)
    vw = rw (dot_swap a p b, dot_swap b p a, side_square p a b) (different_side a b ab)

    uw : pos 0 <ℤ (u +ℤ w)
    uw = rw (dot_swap a b p, side_square b a p) (different_side a p (λ e. pa (sym e)))

    none : u *ℤ v +ℤ v *ℤ w +ℤ u *ℤ w ≡ pos 0
    none = area_square a b p ∙ ap (λ (z : ℤ). z *ℤ z) line

-- ---- beyond an end of an edge

-- a factor that is not negative, of a negative product
other_negative : (k z : ℤ) → pos 0 ≤ℤ k → (k *ℤ z) <ℤ pos 0 → z <ℤ pos 0
other_negative k z h n =
    ⊎_elim (λ l. l) (λ l. absurd (omega (arith, order, nonneg_nonneg h l))) (<_or_≥ z (pos 0))

module _ (a b c p : Point) (line : orientation a b p ≡ pos 0) where
  -- beyond b, the edge from b to c
  pub beyond_end : dot a p b <ℤ pos 0 → pos 0 <ℤ orientation a b c → orientation b c p <ℤ pos 0
  beyond_end h k =
      other_negative (dot a a b) (orientation b c p) (square_side a b)
      (rw (next_edge a b c p, line)
      (omega (
        arith,
        order,
        neg_pos h k,
        -ℤ_splits (dot a p b *ℤ orientation a b c) (pos 0 *ℤ dot c a b),
        zero_times (dot c a b),
      )))

  -- beyond a, the edge from c to a
  pub beyond_start : dot b p a <ℤ pos 0 → pos 0 <ℤ orientation c a b → orientation c a p <ℤ pos 0
  beyond_start h k =
      other_negative (dot a a b) (orientation c a p) (square_side a b)
      (rw (edge_before a b c p, line)
      (omega (
        arith,
        order,
        neg_pos h k,
        -ℤ_splits (dot b p a *ℤ orientation c a b) (pos 0 *ℤ dot c b a),
        zero_times (dot c b a),
      )))

-- ---- strictly between, as a statement

pub record Between (a b p : Point) : Type 0 where
  pub line : orientation a b p ≡ pos 0
  pub within : dot a b p <ℤ pos 0

pub between_of : (a b p : Point) → T (strictly_between a b p) → Between a b p
unfolding strictly_between
between_of a b p t =
    record {
      line = in_line_zero a b p (and_left (in_line a b p) (opposite a b p) t);
      within = lt_z_yes (and_right (in_line a b p) (opposite a b p) t);
    }

pub of_between : (a b p : Point) → Between a b p → T (strictly_between a b p)
unfolding strictly_between
of_between a b p h =
    and_both (in_line a b p) (opposite a b p) (zero_in_line a b p h.line) h.within.lt

pub orientation_zero_swap : (a b c : Point) → orientation a b c ≡ pos 0 → orientation b a c ≡ pos 0
orientation_zero_swap a b c e = omega (arith, order, orientation_swap b a c, negℤ_splits (orientation a b c))

pub orientation_zero_last : (a b c : Point) → orientation a b c ≡ pos 0 → orientation a c b ≡ pos 0
orientation_zero_last a b c e = omega (arith, order, orientation_opposite a c b, negℤ_splits (orientation a b c))

pub between_symmetric : (a b p : Point) → Between a b p → Between b a p
between_symmetric a b p h =
    record { line = orientation_zero_swap a b p h.line; within = rw (dot_swap b a p) h.within }

module _ (a b p : Point) (h : Between a b p) where
  -- p is nearer to b than a is, by squared distances
  pub between_nearer : dot p p b <ℤ dot a a b
  between_nearer =
      omega (
        arith,
        order,
        h.within,
        square_side a p,
        law_of_cosines a b p,
        +ℤ_splits (dot a a p) (dot p p b),
        +ℤ_splits (dot a b p) (dot a b p),
        -ℤ_splits (dot a a p +ℤ dot p p b) (dot a b p +ℤ dot a b p),
      )

  pub between_start_differs : p ≢ a
  between_start_differs e =
      <ℤ_≢ h.within (ap (λ (x : Point). dot x b p) (sym e) ∙ dot_at_end a b p)

  -- seen from a, the points p and b lie on one side
  pub between_ahead : pos 0 <ℤ dot p b a
  between_ahead =
      omega (
        arith,
        order,
        h.within,
        side_square b a p,
        dot_swap b a p,
        dot_swap b p a,
        +ℤ_splits (dot b a p) (dot b p a),
        different_side a p (λ e. between_start_differs (sym e)),
      )

  -- so any z has them on one side of the line from a through it
  same_side : (z : Point) → dot b b a *ℤ orientation a z p ≡ dot p b a *ℤ orientation a z b
  same_side z =
      next_edge b a z p
      ∙ (λ i. dot_swap b p a i *ℤ orientation_cyclic b a z i -ℤ orientation_zero_swap a b p h.line i *ℤ dot z b a)
      ∙ identity 2 (λ m k. m ⊖ con (pos 0) ⊗ k ≐ m) tt (dot p b a *ℤ orientation a z b) (dot z b a)

  pub between_ends_differ : b ≢ a
  between_ends_differ e =
      omega (arith, order, square_side a p, subst (λ (x : Point). dot a x p <ℤ pos 0) e h.within)

  ends_apart : pos 0 <ℤ dot b b a
  ends_apart = different_side b a between_ends_differ

  pub same_side_left : (z : Point) → pos 0 <ℤ orientation a z b → pos 0 <ℤ orientation a z p
  same_side_left z k = second_pos_pos ends_apart (rw (same_side z) (pos_pos between_ahead k))

  pub same_side_right : (z : Point) → orientation a z b <ℤ pos 0 → orientation a z p <ℤ pos 0
  same_side_right z k = second_pos_neg ends_apart (rw (same_side z) (pos_neg between_ahead k))

  pub same_side_not_left : (z : Point) → orientation a z b ≤ℤ pos 0 → orientation a z p ≤ℤ pos 0
  same_side_not_left z k =
      second_pos_nonpos ends_apart (rw (same_side z) (nonneg_nonpos (<ℤ_weaken between_ahead) k))

  pub same_side_line : (z : Point) → orientation a z b ≡ pos 0 → orientation a z p ≡ pos 0
  same_side_line z e =
      second_zero (λ k. <ℤ_≢ ends_apart (sym k))
      (same_side z ∙ ap (λ (k : ℤ). dot p b a *ℤ k) e ∙ identity 1 (λ m. m ⊗ con (pos 0) ≐ con (pos 0)) tt (dot p b a))

-- ---- the orientation of a point between two others, with any c and d

module _ (a b p c d : Point) where
  -- times the square of the side it is a mixture of theirs, and of how far p is off the line
  mixture :
      dot b b a *ℤ orientation c d p ≡
      dot p a b *ℤ orientation c d a +ℤ dot p b a *ℤ orientation c d b
      +ℤ orientation a b p *ℤ ((d.x -ℤ c.x) *ℤ (b.x -ℤ a.x) +ℤ (d.y -ℤ c.y) *ℤ (b.y -ℤ a.y))
  unfolding orientation
  mixture =
      identity 10
      (λ ax ay bx by px py cx cy dx dy.
      dotted bx by bx by ax ay ⊗ orientation_expr cx cy dx dy px py
      ≐ dotted px py ax ay bx by ⊗ orientation_expr cx cy dx dy ax ay
      ⊕ dotted px py bx by ax ay ⊗ orientation_expr cx cy dx dy bx by
      ⊕ orientation_expr ax ay bx by px py ⊗ ((dx ⊖ cx) ⊗ (bx ⊖ ax) ⊕ (dy ⊖ cy) ⊗ (by ⊖ ay)))
      tt a.x a.y b.x b.y p.x p.y c.x c.y d.x d.y

  -- so it is positive where one of theirs is and none is negative
  pub between_left : Between a b p → pos 0 ≤ℤ orientation c d a → pos 0 ≤ℤ orientation c d b →
      (pos 0 <ℤ orientation c d a) ⊎ (pos 0 <ℤ orientation c d b) → pos 0 <ℤ orientation c d p
  between_left h ha hb some =
      let wa = between_ahead b a p (between_symmetric a b p h) in
      let wb = between_ahead a b p h in
      let ta = dot p a b *ℤ orientation c d a in
      let tb = dot p b a *ℤ orientation c d b in
      let off = (d.x -ℤ c.x) *ℤ (b.x -ℤ a.x) +ℤ (d.y -ℤ c.y) *ℤ (b.y -ℤ a.y) in
      let none : orientation a b p *ℤ off ≡ pos 0 = ap (λ (z : ℤ). z *ℤ off) h.line ∙ zero_times off in
      second_pos_pos (ends_apart a b p h)
      (rw mixture
      (⊎_elim
      (λ k.
      omega (
        arith,
        order,
        +ℤ_splits (ta +ℤ tb) (orientation a b p *ℤ off),
        +ℤ_splits ta tb,
        pos_pos wa k,
        nonneg_nonneg (<ℤ_weaken wb) hb,
        none,
      ))
      (λ k.
      omega (
        arith,
        order,
        +ℤ_splits (ta +ℤ tb) (orientation a b p *ℤ off),
        +ℤ_splits ta tb,
        nonneg_nonneg (<ℤ_weaken wa) ha,
        pos_pos wb k,
        none,
      ))
      some))

-- ---- several points of one line

-- a line through a has the points x and y on different sides, if a lies between them
pub between_both_left : (x y a z : Point) → Between x y a →
    pos 0 ≤ℤ orientation a z x → pos 0 ≤ℤ orientation a z y → orientation a z x ≡ pos 0
between_both_left x y a z h hx hy =
    ≤ℤ_antisym
    (second_neg_nonneg h.within (rw opposite_sides at (nonneg_nonneg (square_side x a) hy)))
    hx
  where
    opposite_sides : dot x x a *ℤ orientation a z y ≡ dot x y a *ℤ orientation a z x
    opposite_sides =
        next_edge x a z y
        ∙ (λ i. dot x y a *ℤ orientation_cyclic x a z i -ℤ orientation_zero_last x y a h.line i *ℤ dot z x a)
        ∙ identity 2 (λ m k. m ⊖ con (pos 0) ⊗ k ≐ m) tt (dot x y a *ℤ orientation a z x) (dot z x a)

-- of two points only one lies between the other and a third
pub not_both_between : (x y q : Point) → Between x q y → ¬ Between y q x
not_both_between x y q h k =
    omega (
      arith,
      order,
      h.within,
      k.within,
      dot_swap x q y,
      dot_swap y q x,
      side_square q y x,
      +ℤ_splits (dot q y x) (dot q x y),
      square_side y x,
    )

-- two ways from p, the first of them along the way from p to a: by their parts along that way
dot_along : (a b c p : Point) → orientation a p b ≡ pos 0 → dot a a p *ℤ dot b c p ≡ dot b a p *ℤ dot c a p
dot_along a b c p e =
    *ℤ_comm (dot a a p) (dot b c p)
    ∙ dot_parts a b c p
    ∙ (λ i. dot b a p *ℤ dot c a p +ℤ e i *ℤ orientation a p c)
    ∙ identity 2 (λ m k. m ⊕ con (pos 0) ⊗ k ≐ m) tt (dot b a p *ℤ dot c a p) (orientation a p c)

module _ (l q u c : Point) (h : Between l q u) (k : Between l u c) where
  -- u is between c and q too
  ahead_opposite : dot q c u <ℤ pos 0
  ahead_opposite =
      second_pos_neg (different_side l u (λ e. between_start_differs l q u h (sym e)))
      (rw (dot_along l q c u (orientation_zero_last l q u h.line))
      (neg_pos (between_symmetric l q u h).within (between_ahead u l c (between_symmetric l u c k))))

  -- what is between l and u is between l and q, where u is
  pub between_further : Between l q c
  between_further =
      record {
        line = same_side_line l u c k q h.line;
        within =
            second_pos_neg (different_side u c (λ e. between_start_differs u l c (between_symmetric l u c k) (sym e)))
            (rw (dot_along u l q c (sym (orientation_cyclic l u c) ∙ k.line))
            (neg_pos {b = dot q u c} k.within
            (omega (
              arith,
              order,
              ahead_opposite,
              side_square q u c,
              +ℤ_splits (dot q u c) (dot q c u),
              square_side u c,
            ))));
      }

-- c is not between two points that are both between c and d
pub between_one_side : (c d x y : Point) → Between c d x → Between c d y → ¬ Between x y c
between_one_side c d x y h k n =
    omega (
      arith,
      order,
      n.within,
      dot_along d x y c (orientation_zero_swap c d x h.line),
      pos_pos (between_ahead c d x h) (between_ahead c d y k),
      nonneg_nonpos (square_side d c) (<ℤ_weaken n.within),
    )

-- ---- beside an edge

pub beside_left : (a b c : Point) → pos 0 <ℤ orientation a b c → T (beside a b c)
unfolding beside
beside_left a b c h = or_left (left_of a b c) (strictly_between a b c) (positive_left a b c h)

pub beside_between : (a b c : Point) → Between a b c → T (beside a b c)
unfolding beside
beside_between a b c h = or_right (left_of a b c) (strictly_between a b c) (of_between a b c h)

pub beside_cases : (a b c : Point) → T (beside a b c) → (pos 0 <ℤ orientation a b c) ⊎ Between a b c
unfolding beside
beside_cases a b c t =
    ⊎_elim (λ l. inl (left_positive a b c l)) (λ l. inr (between_of a b c l))
    (or_cases (left_of a b c) (strictly_between a b c) t)

pub beside_nonneg : (a b c : Point) → T (beside a b c) → pos 0 ≤ℤ orientation a b c
beside_nonneg a b c t = ⊎_elim <ℤ_weaken (λ h. ≡_≤ℤ (sym h.line)) (beside_cases a b c t)

pub beside_zero : (a b c : Point) → T (beside a b c) → orientation a b c ≡ pos 0 → Between a b c
beside_zero a b c t e =
    ⊎_elim (λ (h : pos 0 <ℤ orientation a b c). absurd (<ℤ_≢ h (sym e))) (λ h. h) (beside_cases a b c t)

-- two points beside the edges to each other, from or to a third, would each be between the others
pub not_both_beside : (x y q : Point) → T (beside x q y) → ¬ T (beside y q x)
not_both_beside x y q s t =
    let e : orientation x q y ≡ pos 0 = none in
    not_both_between x y q (beside_zero x q y s e)
    (beside_zero y q x t (sym (orientation_cyclic x y q) ∙ orientation_zero_last x q y e))
  where
    none : orientation x q y ≡ pos 0
    none =
        omega (
          arith,
          order,
          beside_nonneg x q y s,
          beside_nonneg y q x t,
          orientation_cyclic x y q,
          orientation_opposite x q y,
          negℤ_splits (orientation x y q),
        )

pub not_both_beside_to : (x y q : Point) → T (beside q x y) → ¬ T (beside q y x)
not_both_beside_to x y q s t =
    let e : orientation q x y ≡ pos 0 = none in
    not_both_between x y q (between_symmetric q x y (beside_zero q x y s e))
    (between_symmetric q y x (beside_zero q y x t (orientation_zero_last q x y e)))
  where
    none : orientation q x y ≡ pos 0
    none =
        omega (
          arith,
          order,
          beside_nonneg q x y s,
          beside_nonneg q y x t,
          orientation_opposite q x y,
          negℤ_splits (orientation q y x),
        )

-- ---- seen: not left, and not between

pub seen_not_beside : (a b c : Point) → T (sees_edge a b c) → ¬ T (beside a b c)
unfolding sees_edge
seen_not_beside a b c t = T_not (beside a b c) t

pub not_beside_seen : (a b c : Point) → ¬ T (beside a b c) → T (sees_edge a b c)
unfolding sees_edge
not_beside_seen a b c n = not_T (beside a b c) n

pub hidden_beside : (a b c : Point) → ¬ T (sees_edge a b c) → T (beside a b c)
unfolding sees_edge
hidden_beside a b c n = not_not (beside a b c) n

pub seen_nonpos : (a b c : Point) → T (sees_edge a b c) → orientation a b c ≤ℤ pos 0
seen_nonpos a b c t =
    ⊎_elim (λ h. absurd (seen_not_beside a b c t (beside_left a b c h))) (λ h. h)
    (<_or_≥ (pos 0) (orientation a b c))

pub seen_not_between : (a b c : Point) → T (sees_edge a b c) → ¬ Between a b c
seen_not_between a b c t h = seen_not_beside a b c t (beside_between a b c h)

-- ---- the test, by the sign: on the line it is that of opposite sides

module _ (a b c : Point) where
  pub beside_on_line : orientation a b c ≡ pos 0 → opposite a b c ≡ beside a b c
  unfolding beside left_of strictly_between in_line visible_from
  beside_on_line e = rw e

  pub beside_positive : pos 0 <ℤ orientation a b c → true ≡ beside a b c
  beside_positive h = sym (is_true (beside a b c) (beside_left a b c h))

  pub beside_negative : orientation a b c <ℤ pos 0 → false ≡ beside a b c
  beside_negative h = sym (is_false (beside a b c) (λ t. omega (arith, order, beside_nonneg a b c t)))
