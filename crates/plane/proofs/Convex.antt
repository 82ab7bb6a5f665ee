-- A convex outline, in the order of this page: points numbered below n, and a list of some of them,
-- the corners, round which `next` and `prev` lead, so that all other points lie beside each edge, left
-- of it or on it between its ends; the list may begin at any corner, and is the ring that `next` makes;
-- `next` and `prev` lead from corner to corner and back; corners lie strictly left of each edge but
-- their own; three corners or more enclose something, and no point sees all of their edges (of two:
-- proofs/Beyond).
use mathlib.Core.Path.{◌≡◌, sym, ap, subst, ◌∙◌}
use mathlib.Core.Logic.{◌≢◌, ⊎_elim}
use mathlib.Core.Bool.{Bool, not}
use mathlib.Core.List.{List, [], ◌∷◌, ◌++◌, map}
use Prim.Native.Nat.{ℕ, ◌≤◌, ◌<◌}
use native.Mathlib.Omega.{arith}
use lib.Dec.{T, T_not}
use lib.IntN.{pos}
use lib.ListN.{length, length-append}
use lib.Signed.{◌≤ℤ◌, ◌<ℤ◌}
use Rattle.integers.specs.Order.{order, ≡_≤ℤ}
use Rattle.finite.specs.Tests.{and_left, same_or_not}
use Rattle.finite.specs.Counting.{count_small}
use Rattle.finite.specs.Lists.{elem, distinct, ring}
use Rattle.finite.specs.ListLaws.{elem_head, elem_tail, elem_cut, elem_swap}
use Rattle.finite.specs.Distinct.{length_distinct, distinct_apart, distinct_swap}
use Rattle.finite.specs.Cycles.{Chain, Cycle}
use Rattle.finite.specs.CycleLaws.{cycle_swap, cycle_change, cycle_after, cycle_before, cycle_map, chain_last, ring_of_cycle}
use Rattle.model.specs.declared.Point.{Point}
use Rattle.model.specs.Plane.{orientation, left_of, beside, sees_edge}
use Rattle.model.specs.Area.{fan}
use Rattle.plane.proofs.Orientation.{orientation_cyclic, orientation_twice, left_positive, positive_left}
use Rattle.plane.proofs.Fan.{fan_fixed, fan_pos, fan_nonpos}
use Rattle.plane.proofs.Betweenness.{Between, between_symmetric, between_both_left, between_one_side, beside_between, beside_cases, beside_nonneg, beside_zero, not_both_beside, seen_nonpos}

-- two numbers that cannot differ are the same
pub same_unless : (a b : ℕ) → ¬ (a ≢ b) → a ≡ b
same_unless a b n = ⊎_elim (λ (e : a ≡ b). e) (λ (d : a ≢ b). absurd (n d)) (same_or_not a b)

-- b stands after a, and a before b
abbrev pub Link : (ℕ → ℕ) → (ℕ → ℕ) → ℕ → ℕ → Type 0
Link next prev a b = (next a ≡ b) × (prev b ≡ a)

pub record Convex (n : ℕ) (P : ℕ → Point) (next prev : ℕ → ℕ) (s : List ℕ) : Type 0 where
  pub all_distinct : T (distinct s)
  pub below : (a : ℕ) → T (elem a s) → a < n
  pub two : 2 ≤ length s
  pub round : Cycle (Link next prev) s
  pub others : (a c : ℕ) → T (elem a s) → c < n → c ≢ a → c ≢ next a → T (beside (P a) (P (next a)) (P c))

module _ {n : ℕ} {P : ℕ → Point} {next prev : ℕ → ℕ} where
  -- the list may begin at any corner
  pub convex_swap : (s t : List ℕ) → Convex n P next prev (s ++ t) → Convex n P next prev (t ++ s)
  convex_swap s t C =
      record {
        all_distinct = distinct_swap s t C.all_distinct;
        below = λ a m. C.below a (elem_swap a t s m);
        two = omega (arith, C.two, length-append s t, length-append t s);
        round = cycle_swap (Link next prev) s t C.round;
        others = λ a c m. C.others a c (elem_swap a t s m);
      }

  pub convex_from : {s : List ℕ} → Convex n P next prev s → (a : ℕ) → T (elem a s) →
      (t : List ℕ) × Convex n P next prev (a ∷ t) × (length (a ∷ t) ≡ length s)
  convex_from {s} C a m =
      let k = elem_cut a s m in (
        k.1 ++ k.0,
        convex_swap k.0 (a ∷ k.1) (subst (Convex n P next prev) k.2 C),
        omega (arith, ap length k.2, length-append k.0 (a ∷ k.1), length-append k.1 k.0),
      )

  -- the ring that `next` makes from the first corner is the list (for request #103)
  pub convex_ring : (a : ℕ) (t : List ℕ) → Convex n P next prev (a ∷ t) → ring next a n a ≡ a ∷ t
  convex_ring a t D =
      ring_of_cycle next a t n
      (cycle_change (Link next prev) (λ c d. next c ≡ d) (a ∷ t) (λ c d i j e. e.0) D.round)
      D.all_distinct
      (omega (arith, length_distinct n (a ∷ t) D.all_distinct D.below, count_small n (λ k. elem k (a ∷ t))))

  first_differs : (a : ℕ) (t : List ℕ) → Convex n P next prev (a ∷ t) → next a ≢ a
  unfolding Cycle Chain distinct
  first_differs a [] D e = omega (arith, D.two)
  first_differs a (b ∷ t) D e =
      T_not (elem a (b ∷ t)) (and_left (not (elem a (b ∷ t))) (distinct (b ∷ t)) D.all_distinct)
      (subst (λ (x : ℕ). T (elem x (b ∷ t))) (sym D.round.0.0 ∙ e) (elem_head b t))

  first_between : (a : ℕ) (t : List ℕ) → Convex n P next prev (a ∷ t) → 3 ≤ length (a ∷ t) → next a ≢ prev a
  unfolding Cycle Chain
  first_between a [] D h e = omega arith
  first_between a (b ∷ []) D h e = omega arith
  first_between a (b ∷ d ∷ t) D h e =
      let r = chain_last (Link next prev) d t a D.round.1.1 in
      distinct_apart (a ∷ b ∷ []) (d ∷ t) D.all_distinct b (elem_tail b a (b ∷ []) (elem_head b []))
      (subst (λ (x : ℕ). T (elem x (d ∷ t))) (sym r.2.1 ∙ sym e ∙ D.round.0.0) r.1)

  first_alternates : (a : ℕ) (t : List ℕ) → Convex n P next prev (a ∷ t) → length (a ∷ t) < 3 → next a ≡ prev a
  unfolding Cycle Chain
  first_alternates a [] D h = omega (arith, D.two)
  first_alternates a (b ∷ []) D h = D.round.0.0 ∙ sym D.round.1.0.1
  first_alternates a (b ∷ d ∷ t) D h = omega arith

  module _ {s : List ℕ} (C : Convex n P next prev s) where
    pub next_member : (a : ℕ) → T (elem a s) → T (elem (next a) s)
    next_member a m =
        let r = cycle_after (Link next prev) a s C.round m in rw r.2.0 r.1

    pub prev_member : (a : ℕ) → T (elem a s) → T (elem (prev a) s)
    prev_member a m =
        let r = cycle_before (Link next prev) a s C.round m in rw r.2.1 r.1

    pub prev_next : (a : ℕ) → T (elem a s) → prev (next a) ≡ a
    prev_next a m = let r = cycle_after (Link next prev) a s C.round m in rw r.2.0 r.2.1

    pub next_prev : (a : ℕ) → T (elem a s) → next (prev a) ≡ a
    next_prev a m = let r = cycle_before (Link next prev) a s C.round m in rw r.2.1 r.2.0

    pub next_below : (a : ℕ) → T (elem a s) → next a < n
    next_below a m = C.below (next a) (next_member a m)

    pub prev_below : (a : ℕ) → T (elem a s) → prev a < n
    prev_below a m = C.below (prev a) (prev_member a m)

    -- a corner is not the one after it, nor the one before it; of three or more, these two differ
    pub next_differs : (a : ℕ) → T (elem a s) → next a ≢ a
    next_differs a m = let k = convex_from C a m in first_differs a k.0 k.1

    pub prev_differs : (a : ℕ) → T (elem a s) → prev a ≢ a
    prev_differs a m e = next_differs a m (ap next (sym e) ∙ next_prev a m)

    pub next_not_prev : 3 ≤ length s → (a : ℕ) → T (elem a s) → next a ≢ prev a
    next_not_prev h a m =
        let k = convex_from C a m in
        first_between a k.0 k.1 (omega (arith, k.2))

    -- .. and of two they are the same
    pub next_is_prev : length s < 3 → (a : ℕ) → T (elem a s) → next a ≡ prev a
    next_is_prev h a m =
        let k = convex_from C a m in
        first_alternates a k.0 k.1 (omega (arith, k.2))

    -- the field `others`, of the edge that enters a corner
    pub entering_others : (a c : ℕ) → T (elem a s) → c < n → c ≢ prev a → c ≢ a →
        T (beside (P (prev a)) (P a) (P c))
    entering_others a c m h d e =
        subst (λ (x : ℕ). T (beside (P (prev a)) (P x) (P c))) (next_prev a m)
        (C.others (prev a) c (prev_member a m) h d (λ k. e (k ∙ next_prev a m)))

-- ---- corners are strictly left

-- Else a corner c is between the ends a and b of another edge. Let d be the corner after c. If d is a
-- or b, the other of them is between c and d, against c between a and b. If not, a and b are both
-- beside the edge from c to d, whose line has them on different sides: so both are on it, between c
-- and d, and c is not between them.
module _ {n : ℕ} {P : ℕ → Point} {next prev : ℕ → ℕ} {s : List ℕ} (C : Convex n P next prev s) where
  module _ (a c : ℕ) (m : T (elem a s)) (k : T (elem c s)) (not_a : c ≢ a) (not_b : c ≢ next a) where
    abbrev b : ℕ
    b = next a

    abbrev d : ℕ
    d = next c

    -- a point other than c and d
    from_c : (x : ℕ) → x < n → c ≢ x → d ≢ x → T (beside (P c) (P d) (P x))
    from_c x h e f = C.others c x k h (λ i. e (sym i)) (λ i. f (sym i))

    not_between : ¬ Between (P a) (P b) (P c)
    not_between h =
        ⊎_elim
        (λ (e : d ≡ a).
        not_both_beside (P c) (P b) (P a)
        (subst (λ (x : ℕ). T (beside (P c) (P x) (P b))) e (from_c b (next_below C a m) not_b (λ f. next_differs C a m (sym f ∙ e))))
        (beside_between (P b) (P a) (P c) (between_symmetric (P a) (P b) (P c) h)))
        (λ (e : d ≢ a).
        ⊎_elim
        (λ (f : d ≡ b).
        not_both_beside (P c) (P a) (P b)
        (subst (λ (x : ℕ). T (beside (P c) (P x) (P a))) f (from_c a (C.below a m) not_a e))
        (beside_between (P a) (P b) (P c) h))
        (λ (f : d ≢ b).
        let on_a = from_c a (C.below a m) not_a e in
        let on_b = from_c b (next_below C a m) not_b f in
        between_one_side (P c) (P d) (P a) (P b)
        (beside_zero (P c) (P d) (P a) on_a
        (between_both_left (P a) (P b) (P c) (P d) h (beside_nonneg (P c) (P d) (P a) on_a)
        (beside_nonneg (P c) (P d) (P b) on_b)))
        (beside_zero (P c) (P d) (P b) on_b
        (between_both_left (P b) (P a) (P c) (P d) (between_symmetric (P a) (P b) (P c) h)
        (beside_nonneg (P c) (P d) (P b) on_b) (beside_nonneg (P c) (P d) (P a) on_a)))
        h)
        (same_or_not d b))
        (same_or_not d a)

    pub corners_strict : T (left_of (P a) (P b) (P c))
    corners_strict =
        ⊎_elim (positive_left (P a) (P b) (P c)) (λ h. absurd (not_between h))
        (beside_cases (P a) (P b) (P c) (C.others a c m (C.below c k) not_a not_b))

  -- three or more corners turn strictly left
  pub turns_left : 3 ≤ length s → (a : ℕ) → T (elem a s) → T (left_of (P (prev a)) (P a) (P (next a)))
  turns_left three a m =
      subst (λ (x : ℕ). T (left_of (P (prev a)) (P x) (P (next a)))) (next_prev C a m)
      (corners_strict (prev a) (next a) (prev_member C a m) (next_member C a m) (next_not_prev C three a m)
      (λ e. next_differs C a m (e ∙ next_prev C a m)))

-- ---- the edges that a point sees

-- q sees the edge that leaves a
abbrev pub sees : (ℕ → Point) → (ℕ → ℕ) → Point → ℕ → Bool
sees P next q a = sees_edge (P a) (P (next a)) q

-- ---- three corners or more enclose something, and not all of their edges are visible from a point

-- Seen from a corner no edge bends right and one bends left, so the fan is positive; seen from a point
-- from which all edges are visible none bends left, so it is not. It is one fan.
module _ {n : ℕ} {P : ℕ → Point} {next prev : ℕ → ℕ} {s : List ℕ} (C : Convex n P next prev s) where
  pub not_right : (c a : ℕ) → c < n → T (elem a s) → pos 0 ≤ℤ orientation (P c) (P a) (P (next a))
  not_right c a h m =
      ⊎_elim
      (λ (e : c ≡ a). ≡_≤ℤ (rw e (sym (orientation_twice (P a) (P (next a))))))
      (λ (d : c ≢ a).
      ⊎_elim
      (λ (e : c ≡ next a).
      ≡_≤ℤ
      (rw (e, ← orientation_cyclic (P (next a)) (P (next a)) (P a))
      (sym (orientation_twice (P (next a)) (P a)))))
      (λ (e : c ≢ next a).
      rw orientation_cyclic (beside_nonneg (P a) (P (next a)) (P c) (C.others a c m h d e)))
      (same_or_not c (next a)))
      (same_or_not c a)

  -- what holds of the points of each edge holds round the list of points
  pub points_round : (E : Point → Point → Type 0) → ((a : ℕ) → T (elem a s) → E (P a) (P (next a))) →
      Cycle E (map P s)
  points_round E f =
      cycle_map P E s
      (cycle_change (Link next prev) (λ a b. E (P a) (P b)) s
      (λ a b i j e. subst (λ (c : ℕ). E (P a) (P c)) e.0 (f a i)) C.round)

module _ {n : ℕ} {P : ℕ → Point} {next prev : ℕ → ℕ} where
  -- seen from one of the numbered points no edge bends right, so nothing is subtracted
  pub fan_terms : {s : List ℕ} → Convex n P next prev s → (c : ℕ) → c < n →
      Cycle (λ a b. pos 0 ≤ℤ orientation (P c) a b) (map P s)
  fan_terms C c h = points_round C (λ a b. pos 0 ≤ℤ orientation (P c) a b) (λ a m. not_right C c a h m)

  -- three corners or more enclose something
  pub fan_positive : {s : List ℕ} → Convex n P next prev s → 3 ≤ length s → (q : Point) →
      pos 0 <ℤ fan q (map P s)
  unfolding Cycle Chain
  fan_positive {s = []} C three q = omega (arith, order)
  fan_positive {s = x ∷ []} C three q = omega (arith, order)
  fan_positive {s = x ∷ y ∷ []} C three q = omega (arith, order)
  fan_positive {s = x ∷ y ∷ z ∷ s} C three q =
      rw (fan_fixed (P x) q (map P (x ∷ y ∷ z ∷ s)))
      (fan_pos (P x) (P x) (P y) (P z) (map P s)
      (fan_terms C x (C.below x (elem_head x (y ∷ z ∷ s))))
      (left_positive (P x) (P y) (P z)
      (rw (← C.round.0.1, ← C.round.1.0.0)
      (turns_left C three y (elem_tail y x (y ∷ z ∷ s) (elem_head y (z ∷ s)))))))

module _ {n : ℕ} {P : ℕ → Point} {next prev : ℕ → ℕ} {s : List ℕ} (C : Convex n P next prev s) (q : Point) where
  pub not_all_seen : 3 ≤ length s → ¬ ((a : ℕ) → T (elem a s) → T (sees P next q a))
  not_all_seen three all =
      omega (
        arith,
        order,
        fan_positive C three q,
        fan_nonpos q (map P s)
            (points_round C (λ b c. orientation q b c ≤ℤ pos 0)
            (λ a m. rw orientation_cyclic (seen_nonpos (P a) (P (next a)) q (all a m)))),
      )
