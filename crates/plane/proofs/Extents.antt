-- How much a convex outline encloses, its fan being twice its area, in the order of this page: the fan is not
-- negative (of three corners or more it is positive: Convex); a way that goes down and turns left goes on down; so
-- the outline goes up from a lowest corner, and then down to it; the fan is a sum of strips; with coordinates up to
-- a limit L it is at most 8 L², twice the area of the whole range.
use mathlib.Core.Path.{◌≡◌}
use mathlib.Core.Logic.{◌≢◌, ⊎_elim}
use mathlib.Core.Bool.{not}
use mathlib.Core.List.{List, [], ◌∷◌, ◌++◌, map}
use Prim.Native.Nat.{ℕ, ◌*◌}
use native.Mathlib.Omega.{arith}
use lib.Dec.{T, T_not}
use lib.IntN.{ℤ, pos, ◌+ℤ◌, ◌-ℤ◌, ◌*ℤ◌, *ℤ_comm}
use lib.Signed.{◌<ℤ◌, ◌≤ℤ◌, ≤ℤ_refl}
use Rattle.integers.specs.Order.{order, +ℤ_splits, -ℤ_splits, ≤ℤ_trans, +ℤ_mono_≤, ≤_difference, ≤ℤ_total}
use Rattle.integers.specs.Sign.{nonneg_nonneg, nonpos_nonneg, second_pos_nonneg, *ℤ_mono_≤, sum_nonneg}
use Rattle.integers.specs.Solver.{◌⊕◌, ◌⊖◌, ◌⊗◌, ◌≐◌}
use Rattle.integers.proofs.Solver.{identity}
use Rattle.integers.specs.Range.{Bounded, machine}
use Rattle.finite.specs.Tests.{and_left}
use Rattle.finite.specs.Lists.{elem, distinct}
use Rattle.finite.specs.ListLaws.{elem_head, elem_tail}
use Rattle.finite.specs.Cycles.{Chain, Cycle}
use Rattle.model.specs.declared.Point.{Point}
use Rattle.model.specs.Plane.{orientation}
use Rattle.model.specs.Area.{fan}
use Rattle.plane.proofs.Orientation.{orientation_expr, orientation_cyclic, left_positive}
use Rattle.plane.proofs.Fan.{along, fan_along, fan_fixed, terms_nonneg}
use Rattle.plane.proofs.Convex.{Link, Convex, next_member, corners_strict, not_right, points_round, fan_terms}

-- ---- the sign

module _ {n : ℕ} {P : ℕ → Point} {next prev : ℕ → ℕ} where
  -- not less than nothing, as seen from a corner
  pub fan_nonneg : {s : List ℕ} → Convex n P next prev s → (q : Point) → pos 0 ≤ℤ fan q (map P s)
  unfolding fan
  fan_nonneg {s = []} C q = ≤ℤ_refl (pos 0)
  fan_nonneg {s = c ∷ t} C q =
      rw (fan_fixed (P c) q (map P (c ∷ t)))
      (terms_nonneg (P c) (map P (c ∷ t)) (fan_terms C c (C.below c (elem_head c t))))

-- ---- on down

-- A way from a down to b goes on to c and does not turn right. A point o, not above b, sees the first edge bend
-- left and the second not right. Then it goes on down: the height from c up to b, times a positive number, is a
-- sum of two products of numbers that are not negative.
heights : (o a b c : Point) →
    orientation o a b *ℤ (b.y -ℤ c.y) ≡ (a.y -ℤ b.y) *ℤ orientation o b c +ℤ (b.y -ℤ o.y) *ℤ orientation a b c
unfolding orientation
heights o a b c =
    identity 8
    (λ ox oy ax ay bx by cx cy.
    orientation_expr ox oy ax ay bx by ⊗ (by ⊖ cy)
    ≐ (ay ⊖ by) ⊗ orientation_expr ox oy bx by cx cy ⊕ (by ⊖ oy) ⊗ orientation_expr ax ay bx by cx cy)
    tt
    o.x o.y a.x a.y b.x b.y c.x c.y

-- an edge that does not go up
abbrev Falls : Point → Point → Type 0
Falls a b = b.y ≤ℤ a.y

falls_on : (o a b c : Point) → o.y ≤ℤ b.y →
    pos 0 <ℤ orientation o a b → pos 0 ≤ℤ orientation o b c → pos 0 ≤ℤ orientation a b c →
    Falls a b → Falls b c
falls_on o a b c above first second turn down =
    (≤_difference c.y b.y).1
    (second_pos_nonneg first
    (rw heights
    (sum_nonneg
    (nonneg_nonneg ((≤_difference b.y a.y).0 down) second)
    (nonneg_nonneg ((≤_difference o.y b.y).0 above) turn))))

-- ---- up from a lowest corner, then down to it

-- a path whose edges do not go down, up to a point from which they do not go up
data Unimodal : Point → List Point → Type 0 where
  falling : {a : Point} {s : List Point} → Chain Falls (a ∷ s) → Unimodal a s
  rising : {a b : Point} {s : List Point} → a.y ≤ℤ b.y → Unimodal b s → Unimodal a (b ∷ s)

-- With c lowest the first edge does not go down, nor the last one up. Once an edge falls, to another corner
-- than c, c sees the next one fall too: so do all of them, back to c.
module _
    {n : ℕ} {P : ℕ → Point} {next prev : ℕ → ℕ}
    (c : ℕ) (t : List ℕ) (C : Convex n P next prev (c ∷ t)) (lowest : (a : ℕ) → T (elem a t) → (P c).y ≤ℤ (P a).y) where
  -- no other corner is c
  differs : (a : ℕ) → T (elem a t) → c ≢ a
  unfolding distinct
  differs a m e = T_not (elem c t) (and_left (not (elem c t)) (distinct t) C.all_distinct) (rw e m)

  -- after an edge that falls to another corner than c
  next_falls : (a : ℕ) → T (elem a t) → T (elem (next a) t) →
      Falls (P a) (P (next a)) → Falls (P (next a)) (P (next (next a)))
  next_falls a m k =
      let i = elem_tail a c t m in
      let j = elem_tail (next a) c t k in
      falls_on (P c) (P a) (P (next a)) (P (next (next a))) (lowest (next a) k)
      (rw orientation_cyclic
      (left_positive (P a) (P (next a)) (P c)
      (corners_strict C a c i (elem_head c t) (differs a m) (differs (next a) k))))
      (not_right C c (next a) (C.below c (elem_head c t)) j)
      (not_right C a (next a) (C.below a i) j)

  -- from another corner x on, with the corners u after it, where the edge that leaves x falls
  all_fall : (x : ℕ) (u : List ℕ) → ((a : ℕ) → T (elem a (x ∷ u)) → T (elem a t)) →
      Chain (Link next prev) (x ∷ u ++ c ∷ []) → Falls (P x) (P (next x)) →
      Chain Falls (P x ∷ map P u ++ P c ∷ [])
  unfolding Chain
  all_fall x [] k l h = (rw l.0.0 at h, tt)
  all_fall x (y ∷ u) k l h =
      let m = k x (elem_head x (y ∷ u)) in
      let after : T (elem (next x) t) = rw l.0.0 (k y (elem_tail y x (y ∷ u) (elem_head y u))) in (
        rw l.0.0 at h,
        all_fall y u (λ a i. k a (elem_tail a x (y ∷ u) i)) l.1 (rw l.0.0 at (next_falls x m after h)),
      )

  -- .. and where it may rise
  rise_and_fall : (x : ℕ) (u : List ℕ) → ((a : ℕ) → T (elem a (x ∷ u)) → T (elem a t)) →
      Chain (Link next prev) (x ∷ u ++ c ∷ []) → Unimodal (P x) (map P u ++ P c ∷ [])
  unfolding Chain
  rise_and_fall x [] k l = falling {s = P c ∷ []} (lowest x (k x (elem_head x [])), tt)
  rise_and_fall x (y ∷ u) k l =
      ⊎_elim
      (λ (h : Falls (P x) (P (next x))). falling (all_fall x (y ∷ u) k l h))
      (λ (h : Falls (P (next x)) (P x)).
      rising (rw l.0.0 at h) (rise_and_fall y u (λ a i. k a (elem_tail a x (y ∷ u) i)) l.1))
      (≤ℤ_total (P (next x)).y (P x).y)

-- from c itself
outline_unimodal : {n : ℕ} {P : ℕ → Point} {next prev : ℕ → ℕ} (c : ℕ) (t : List ℕ) →
    Convex n P next prev (c ∷ t) → ((a : ℕ) → T (elem a t) → (P c).y ≤ℤ (P a).y) →
    Unimodal (P c) (map P t ++ P c ∷ [])
unfolding Cycle Chain
outline_unimodal {P} c [] C lowest = falling {s = P c ∷ []} (≤ℤ_refl (P c).y, tt)
outline_unimodal c (y ∷ t) C lowest =
    rising (lowest y (elem_head y t)) (rise_and_fall c (y ∷ t) C lowest y t (λ a m. m) C.round.1)

-- ---- the fan as a sum of strips

-- twice how far the middle of an edge is from the line x = -L
abbrev width : ℕ → Point → Point → ℤ
width L a b = a.x +ℤ b.x +ℤ pos (2 * L)

-- twice the area between an edge and that line, negative where the edge goes down
abbrev strip : ℕ → Point → Point → ℤ
strip L a b = (b.y -ℤ a.y) *ℤ width L a b

-- what an edge's term differs from its strip by comes to nothing round the list
fan_strips : (L : ℕ) (q a : Point) (s : List Point) → fan q (a ∷ s) ≡ along (strip L) a (s ++ a ∷ [])
unfolding orientation
fan_strips L q =
    fan_along q (strip L) (λ p. q.y *ℤ p.x -ℤ width L q p *ℤ p.y)
    (λ a b.
    identity 7
    (λ l qx qy ax ay bx by.
    orientation_expr qx qy ax ay bx by
    ≐ (by ⊖ ay) ⊗ (ax ⊕ bx ⊕ l) ⊕ (qy ⊗ bx ⊖ (qx ⊕ bx ⊕ l) ⊗ by ⊖ (qy ⊗ ax ⊖ (qx ⊕ ax ⊕ l) ⊗ ay)))
    tt
    (pos (2 * L)) q.x q.y a.x a.y b.x b.y)

-- ---- the limit

-- A width is from 0 to 4 L. So a strip is at most 4 L times the height that its edge rises by, and not positive
-- where it falls: all strips from a point on are at most 4 L times the height that is left above it, up to L.
module _ (L : ℕ) where
  -- coordinates up to L
  abbrev Near : Point → Type 0
  Near p = Bounded L p.x × Bounded L p.y

  abbrev BothNear : Point → Point → Type 0
  BothNear a b = Near a × Near b

  abbrev widest : ℤ
  widest = pos (4 * L)

  widest_nonneg : pos 0 ≤ℤ widest
  widest_nonneg = omega (arith, order)

  widths : (a b : Point) → BothNear a b → (pos 0 ≤ℤ width L a b) × (width L a b ≤ℤ widest)
  widths a b h =
      omega (
        arith,
        machine,
        h.0.0,
        h.1.0,
        +ℤ_splits a.x b.x,
        +ℤ_splits (a.x +ℤ b.x) (pos (2 * L)),
      )

  -- the height that is left above a point
  abbrev left_above : Point → ℤ
  left_above a = pos L -ℤ a.y

  heights_left : (a : Point) → Near a → (pos 0 ≤ℤ left_above a) × (left_above a ≤ℤ pos (2 * L))
  heights_left a h = omega (arith, machine, h.1, -ℤ_splits (pos L) a.y)

  strips_falling : (a : Point) (s : List Point) → Chain BothNear (a ∷ s) → Chain Falls (a ∷ s) →
      along (strip L) a s ≤ℤ pos 0
  unfolding along Chain
  strips_falling a [] n f = ≤ℤ_refl (pos 0)
  strips_falling a (b ∷ s) n f =
      let down : (b.y -ℤ a.y) ≤ℤ pos 0 = omega (arith, order, f.0, -ℤ_splits b.y a.y) in
      +ℤ_mono_≤ (nonpos_nonneg down (widths a b n.0).0) (strips_falling b s n.1 f.1)

  strips_limit : {a : Point} {s : List Point} → Unimodal a s → Near a → Chain BothNear (a ∷ s) →
      along (strip L) a s ≤ℤ (left_above a *ℤ widest)
  unfolding along Chain
  strips_limit (falling {a} {s} f) h n =
      ≤ℤ_trans (strips_falling a s n f) (nonneg_nonneg (heights_left a h).0 widest_nonneg)
  strips_limit (rising {a} {b} {s} r u) h n =
      rw
      (← identity 4 (λ l w ay by. (by ⊖ ay) ⊗ w ⊕ (l ⊖ by) ⊗ w ≐ (l ⊖ ay) ⊗ w) tt (pos L) widest a.y b.y)
      (+ℤ_mono_≤
      (*ℤ_mono_≤ ((≤_difference a.y b.y).0 r) (widths a b n.0).1)
      (strips_limit u n.0.1 n.1))

  -- .. and that height is at most 2 L
  whole_range : (a : Point) → Near a → (left_above a *ℤ widest) ≤ℤ pos (8 * (L * L))
  whole_range a h =
      rw *ℤ_comm (≤ℤ_trans (*ℤ_mono_≤ widest_nonneg (heights_left a h).1) (omega (arith, order)))

module _ {n : ℕ} {P : ℕ → Point} {next prev : ℕ → ℕ} where
  -- from a lowest corner c all round
  pub fan_limit : (c : ℕ) (t : List ℕ) → Convex n P next prev (c ∷ t) →
      ((a : ℕ) → T (elem a t) → (P c).y ≤ℤ (P a).y) →
      (L : ℕ) → ((a : ℕ) → T (elem a (c ∷ t)) → Bounded L (P a).x × Bounded L (P a).y) →
      (q : Point) → fan q (map P (c ∷ t)) ≤ℤ pos (8 * (L * L))
  unfolding Cycle
  fan_limit c t C lowest L near q =
      rw (fan_strips L q (P c) (map P t))
      (≤ℤ_trans
      (strips_limit L (outline_unimodal c t C lowest) (near c (elem_head c t))
      (points_round C (BothNear L) (λ a m. (near a m, near (next a) (next_member C a m)))))
      (whole_range L (P c) (near c (elem_head c t))))
