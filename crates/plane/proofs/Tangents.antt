-- The tangents, over points, in the order of this page: at a corner l with the corners u after it and v
-- before it, from where the edge from l to u is seen and the edge from v to l is hidden, every point c
-- beside both edges is beside l to q; an outline of two corners; the same at a right corner, by points
-- mirrored in x.
use mathlib.Core.Path.{◌≡◌, sym, ap, ◌∙◌}
use mathlib.Core.Logic.{◌≢◌, ◌⊎◌, inl, inr, ⊎_elim}
use mathlib.Core.Bool.{not, ◌&&◌, ◌||◌}
use native.Mathlib.Omega.{arith}
use lib.Dec.{T}
use lib.IntN.{ℤ, pos, neg_ℤ, ◌+ℤ◌, ◌*ℤ◌}
use lib.Signed.{lt_z, ◌≤ℤ◌, ◌<ℤ◌}
use Rattle.integers.specs.Solver.{con, ◌≐◌, ◌⊕◌, ◌⊖◌, ◌⊗◌, ⊝}
use Rattle.integers.proofs.Solver.{identity}
use Rattle.integers.specs.Order.{order, +ℤ_splits, negℤ_splits, <ℤ_≢, <ℤ_weaken, ≡_≤ℤ, signs}
use Rattle.integers.specs.Sign.{pos_pos, neg_neg, nonneg_nonneg, nonpos_nonpos, sum_nonneg, second_pos_nonneg}
use Rattle.model.specs.declared.Point.{Point}
use Rattle.model.specs.Plane.{at, orientation, left_of, visible_from, in_line, strictly_between, beside, sees_edge}
use Rattle.plane.specs.Between.{dot}
use Rattle.plane.proofs.Orientation.{orientation_expr, orientation_cyclic, orientation_swap, orientation_twice, orientation_exchange}
use Rattle.plane.proofs.Knuth.{orientation_opposite}
use Rattle.plane.proofs.Betweenness.{one_between, beyond_start}
use Rattle.plane.proofs.Betweenness.{Between, orientation_zero_last, between_symmetric, between_further, same_side_left, same_side_right, beside_left, beside_between, beside_cases, beside_nonneg, beside_zero, seen_nonpos, seen_not_beside, seen_not_between}

orientation_end : (a b : Point) → orientation a b b ≡ pos 0
orientation_end a b = orientation_cyclic a b b ∙ orientation_twice b a

-- c is the end of the edge, or beside it
abbrev pub EndOrBeside : Point → Point → Point → Point → Type 0
EndOrBeside e a b c = (c ≡ e) ⊎ T (beside a b c)

-- ---- at a left corner of three or more

-- The edge from v to l is hidden, and q between v and l would be left of l to u, which is seen. So v is
-- left of l to q; and u is not right of it. Then c, within the angle, is not right of it. If c is on
-- it, c is u or between l and u, so u is on it too; and there q is beyond u, being not between l and
-- u, and not before l, from where the edge from v to l is seen. So c is between l and q.
module _ (l u v q c : Point) (turn : pos 0 <ℤ orientation l u v)
    (seen : T (sees_edge l u q)) (hidden : T (beside v l q)) (not_u : q ≢ u)
    (after : EndOrBeside u l u c) (before : EndOrBeside v v l c) where
  v_left : pos 0 <ℤ orientation l q v
  v_left =
      ⊎_elim (λ (h : pos 0 <ℤ orientation v l q). rw orientation_cyclic at h)
      (λ (h : Between v l q).
      absurd
      (seen_not_beside l u q seen
      (beside_left l u q (same_side_left l v q (between_symmetric v l q h) u turn))))
      (beside_cases v l q hidden)

  u_not_left : orientation l u q ≤ℤ pos 0
  u_not_left = seen_nonpos l u q seen

  after_nonneg : pos 0 ≤ℤ orientation l u c
  after_nonneg =
      ⊎_elim
      (λ (e : c ≡ u). ≡_≤ℤ (rw e (sym (orientation_end l u))))
      (beside_nonneg l u c) after

  before_nonpos : orientation l v c ≤ℤ pos 0
  before_nonpos =
      ⊎_elim
      (λ (e : c ≡ v). ≡_≤ℤ (rw e (orientation_end l v)))
      (λ h.
      omega (arith, order, beside_nonneg v l c h, orientation_swap v l c, negℤ_splits (orientation l v c))) before

  exchange : orientation l u v *ℤ orientation l q c ≡ orientation l u q *ℤ orientation l v c +ℤ orientation l u c *ℤ orientation l q v
  exchange = orientation_exchange l u q v c

  not_right : pos 0 ≤ℤ orientation l q c
  not_right =
      second_pos_nonneg turn
      (rw exchange (sum_nonneg (nonpos_nonpos u_not_left before_nonpos) (nonneg_nonneg after_nonneg (<ℤ_weaken v_left))))

  module _ (line : orientation l q c ≡ pos 0) where
    no_sum : orientation l u q *ℤ orientation l v c +ℤ orientation l u c *ℤ orientation l q v ≡ pos 0
    no_sum =
        sym exchange ∙ ap (λ (k : ℤ). orientation l u v *ℤ k) line
        ∙ identity 1 (λ m. m ⊗ con (pos 0) ≐ con (pos 0)) tt (orientation l u v)

    first_sum : pos 0 ≤ℤ (orientation l u q *ℤ orientation l v c)
    first_sum = nonpos_nonpos u_not_left before_nonpos

    second_sum : pos 0 ≤ℤ (orientation l u c *ℤ orientation l q v)
    second_sum = nonneg_nonneg after_nonneg (<ℤ_weaken v_left)

    -- c is on the line of l to u
    on_edge : (c ≡ u) ⊎ Between l u c
    on_edge =
        ⊎_elim inl
        (λ (h : T (beside l u c)).
        ⊎_elim
        (λ (k : pos 0 <ℤ orientation l u c).
        absurd
        (omega (
          arith,
          order,
          no_sum,
          first_sum,
          pos_pos k v_left,
          +ℤ_splits (orientation l u q *ℤ orientation l v c) (orientation l u c *ℤ orientation l q v),
        )))
        inr
        (beside_cases l u c h))
        after

    v_behind : orientation l v u <ℤ pos 0
    v_behind = omega (arith, order, turn, orientation_opposite l v u, negℤ_splits (orientation l u v))

    before_neg : orientation l v c <ℤ pos 0
    before_neg = ⊎_elim (λ (e : c ≡ u). rw e v_behind) (λ h. same_side_right l u c h v v_behind) on_edge

    -- so u is on the line of l to q
    u_on : orientation l u q ≡ pos 0
    u_on =
        ⊎_elim (λ (h : pos 0 <ℤ orientation l u q). absurd (omega (arith, order, u_not_left)))
        (⊎_elim (λ e. e)
        (λ h.
        absurd
        (omega (
          arith,
          order,
          no_sum,
          second_sum,
          neg_neg h before_neg,
          +ℤ_splits (orientation l u q *ℤ orientation l v c) (orientation l u c *ℤ orientation l q v),
        ))))
        (signs (orientation l u q))

    beyond_u : Between l q u
    beyond_u =
        ⊎_elim
        (λ h. absurd (seen_not_between l u q seen (record { line = u_on; within = h })))
        (⊎_elim
        (λ h. record { line = orientation_zero_last l u q u_on; within = h })
        (λ h.
        absurd
        (omega (
          arith,
          order,
          beside_nonneg v l q hidden,
          beyond_start l u v q u_on h (rw (orientation_cyclic v l u) turn),
        ))))
        (one_between l u q
        (λ e. <ℤ_≢ turn (sym (rw e (orientation_twice u v))))
        (λ e. <ℤ_≢ v_left (sym (rw e (orientation_twice l v))))
        not_u u_on)

    between_l_q : Between l q c
    between_l_q =
        ⊎_elim (λ (e : c ≡ u). rw e beyond_u) (between_further l q u c beyond_u) on_edge

  pub tangent_left : T (beside l q c)
  tangent_left =
      ⊎_elim (beside_left l q c)
      (⊎_elim (λ (e : orientation l q c ≡ pos 0). beside_between l q c (between_l_q e))
      (λ h. absurd (omega (arith, order, not_right))))
      (signs (orientation l q c))

-- ---- at a left corner of two

-- q is left of u to l, not between; every other point c is between l and u, so on the side of u
module _ (l u q c : Point) (seen : T (sees_edge l u q)) (hidden : T (beside u l q))
    (after : EndOrBeside u l u c) (before : EndOrBeside u u l c) where
  q_left : pos 0 <ℤ orientation l q u
  q_left =
      ⊎_elim (λ (h : pos 0 <ℤ orientation u l q). rw orientation_cyclic at h)
      (λ h. absurd (seen_not_between l u q seen (between_symmetric u l q h)))
      (beside_cases u l q hidden)

  pub tangent_two : T (beside l q c)
  tangent_two =
      ⊎_elim (λ (e : c ≡ u). rw e (beside_left l q u q_left))
      (λ (h : T (beside l u c)).
      ⊎_elim (λ (e : c ≡ u). rw e (beside_left l q u q_left))
      (λ (k : T (beside u l c)).
      beside_left l q c
      (same_side_left l u c
      (beside_zero l u c h
      (omega (
        arith,
        order,
        beside_nonneg l u c h,
        beside_nonneg u l c k,
        orientation_swap u l c,
        negℤ_splits (orientation l u c),
      )))
      q q_left))
      before)
      after

-- ---- points mirrored in x

abbrev mirrored : Point → Point
mirrored p = at (neg_ℤ p.x) p.y

module _ (a b c : Point) where
  mirrored_orientation : orientation (mirrored a) (mirrored b) (mirrored c) ≡ orientation b a c
  unfolding orientation
  mirrored_orientation =
      identity 6
      (λ ax ay bx by cx cy. orientation_expr (⊝ ax) ay (⊝ bx) by (⊝ cx) cy ≐ orientation_expr bx by ax ay cx cy) tt
      a.x a.y b.x b.y c.x c.y

  mirrored_dot : dot (mirrored a) (mirrored b) (mirrored c) ≡ dot b a c
  mirrored_dot =
      identity 6
      (λ ax ay bx by cx cy.
      (⊝ ax ⊖ ⊝ cx) ⊗ (⊝ bx ⊖ ⊝ cx) ⊕ (ay ⊖ cy) ⊗ (by ⊖ cy) ≐ (bx ⊖ cx) ⊗ (ax ⊖ cx) ⊕ (by ⊖ cy) ⊗ (ay ⊖ cy)) tt
      a.x a.y b.x b.y c.x c.y

  mirrored_beside : beside (mirrored a) (mirrored b) (mirrored c) ≡ beside b a c
  unfolding beside left_of strictly_between in_line visible_from
  mirrored_beside i =
      lt_z (pos 0) (mirrored_orientation i)
      || (not (lt_z (pos 0) (mirrored_orientation i)) && not (lt_z (mirrored_orientation i) (pos 0))) && lt_z (mirrored_dot i) (pos 0)

  mirrored_sees : sees_edge (mirrored a) (mirrored b) (mirrored c) ≡ sees_edge b a c
  unfolding sees_edge
  mirrored_sees = ap not mirrored_beside

mirrored_differs : (a b : Point) → a ≢ b → mirrored a ≢ mirrored b
mirrored_differs a b n e =
    let ex : a.x ≡ b.x =
    omega (arith, order, negℤ_splits a.x, negℤ_splits b.x, ap (λ (p : Point). p.x) e) in
    let ey : a.y ≡ b.y = ap (λ (p : Point). p.y) e in
    n (λ i. at (ex i) (ey i))

mirrored_end : (e a b c : Point) → EndOrBeside e b a c → EndOrBeside (mirrored e) (mirrored a) (mirrored b) (mirrored c)
mirrored_end e a b c = ⊎_elim (λ k. inl (ap mirrored k)) (λ t. inr (rw (mirrored_beside a b c) t))

-- ---- at a right corner: the mirrored points have r for a left one, v after it and u before it

module _ (r u v q c : Point) (seen : T (sees_edge v r q)) (hidden : T (beside r u q))
    (after : EndOrBeside u r u c) (before : EndOrBeside v v r c) where
  pub tangent_right : pos 0 <ℤ orientation r u v → q ≢ v → T (beside q r c)
  tangent_right turn not_v =
      rw mirrored_beside at
      (tangent_left (mirrored r) (mirrored v) (mirrored u) (mirrored q) (mirrored c)
      (rw (mirrored_orientation r v u, orientation_cyclic v r u) turn)
      (rw (mirrored_sees r v q) seen)
      (rw (mirrored_beside u r q) hidden)
      (mirrored_differs q v not_v)
      (mirrored_end v r v c before)
      (mirrored_end u u r c after))

pub tangent_right_two : (r u q c : Point) → T (sees_edge u r q) → T (beside r u q) →
    EndOrBeside u r u c → EndOrBeside u u r c → T (beside q r c)
tangent_right_two r u q c seen hidden after before =
    rw mirrored_beside at
    (tangent_two (mirrored r) (mirrored u) (mirrored q) (mirrored c)
    (rw (mirrored_sees r u q) seen)
    (rw (mirrored_beside u r q) hidden)
    (mirrored_end u r u c before)
    (mirrored_end u u r c after))
