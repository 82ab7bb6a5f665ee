-- Darts and points, in the order of this page: the point of an own dart and of a helper; a dart is one
-- or the other; the other dart of a point; which darts are present; the point link, and that it undoes
-- itself and keeps the present darts, in every map.
use mathlib.Core.Path.{◌≡◌, refl, sym, subst}
use mathlib.Core.Logic.{◌≢◌, ◌⊎◌, inl, inr, ⊎_elim}
use mathlib.Core.Bool.{not, ◌||◌}
use Prim.Native.Nat.{ℕ, ◌%◌, ◌<◌}
use native.Mathlib.Omega.{arith}
use lib.Dec.{T, T_not, ltb, eqb→eq, ltb→lt, lt→ltb}
use borrow.Author.Tests.{ne_eqb, eq-eqb}
use Rattle.finite.specs.Tests.{and_left, and_right, and_both, or_cases, or_left, or_right, decide, is_true, is_false, equal_by, same_or_not}
use Rattle.orbits.proofs.Reach.{Dart}
use Rattle.model.specs.declared.Map.{Map}
use Rattle.model.specs.Maps.{own, helper, owner, is_own, other_dart, has_helper, is_present, point_link, dart_bound}
use Rattle.model.proofs.Shape.{present_below}

-- ---- numbers

pub owner_own : (k : ℕ) → owner (own k) ≡ k
owner_own k = omega arith

pub owner_helper : (k : ℕ) → owner (helper k) ≡ k
owner_helper k = omega arith

pub own_differs : (j k : ℕ) → own j ≢ helper k
own_differs j k = omega arith

pub own_injective : {j k : ℕ} → own j ≡ own k → j ≡ k
own_injective e = omega arith

pub helper_injective : {j k : ℕ} → helper j ≡ helper k → j ≡ k
helper_injective e = omega arith

-- a dart is its point's own dart or its helper
pub own_or_helper : (d : ℕ) → (d ≡ own (owner d)) ⊎ (d ≡ helper (owner d))
own_or_helper d =
    ⊎_elim (λ (e : d % 2 ≡ 0). inl (omega arith)) (λ (e : d % 2 ≢ 0). inr (omega arith)) (same_or_not (d % 2) 0)

pub is_own_own : (k : ℕ) → T (is_own (own k))
is_own_own k = equal_by (own k % 2) 0 (omega arith)

pub own_dart : (d : ℕ) → T (is_own d) → d ≡ own (owner d)
own_dart d t = let e = eqb→eq (d % 2) 0 t in omega arith

pub other_own : (k : ℕ) → other_dart (own k) ≡ helper k
unfolding other_dart
other_own k = rw (eq-eqb (own k % 2) 0 (omega arith)) (omega arith)

pub other_helper : (k : ℕ) → other_dart (helper k) ≡ own k
unfolding other_dart
other_helper k = rw (ne_eqb (helper k % 2) 0 (omega arith)) (omega arith)

-- what holds of every own dart and of every helper holds of every dart
pub each_dart {ℓ} : (Q : ℕ → Type ℓ) → ((k : ℕ) → Q (own k)) → ((k : ℕ) → Q (helper k)) → (d : ℕ) → Q d
each_dart Q f g d =
    ⊎_elim
    (λ (e : d ≡ own (owner d)). subst Q (sym e) (f (owner d)))
    (λ (e : d ≡ helper (owner d)). subst Q (sym e) (g (owner d)))
    (own_or_helper d)

-- ---- present darts

module _ (m : Map) where
  pub present_owner : (d : ℕ) → T (is_present m d) → owner d < m.count
  unfolding is_present
  present_owner d t =
      ltb→lt (owner d) m.count (and_left (ltb (owner d) m.count) (is_own d || has_helper m (owner d)) t)

  pub own_present : (k : ℕ) → k < m.count → T (is_present m (own k))
  unfolding is_present
  own_present k h =
      and_both (ltb (owner (own k)) m.count) (is_own (own k) || has_helper m (owner (own k)))
      (lt→ltb (owner (own k)) m.count (omega arith))
      (or_left (is_own (own k)) (has_helper m (owner (own k))) (is_own_own k))

  pub helper_present : (k : ℕ) → k < m.count → T (has_helper m k) → T (is_present m (helper k))
  unfolding is_present
  helper_present k h t =
      and_both (ltb (owner (helper k)) m.count) (is_own (helper k) || has_helper m (owner (helper k)))
      (lt→ltb (owner (helper k)) m.count (omega arith))
      (or_right (is_own (helper k)) (has_helper m (owner (helper k))) (rw (owner_helper k) t))

  pub present_helper : (k : ℕ) → T (is_present m (helper k)) → T (has_helper m k)
  unfolding is_present
  present_helper k t =
      ⊎_elim
      (λ (o : T (is_own (helper k))). absurd (own_differs (owner (helper k)) k (sym (own_dart (helper k) o))))
      (λ (h : T (has_helper m (owner (helper k)))). rw (owner_helper k) at h)
      (or_cases (is_own (helper k)) (has_helper m (owner (helper k)))
      (and_right (ltb (owner (helper k)) m.count) (is_own (helper k) || has_helper m (owner (helper k))) t))

  -- both darts of a point with a helper
  pub both_present : (d : ℕ) → owner d < m.count → T (has_helper m (owner d)) → T (is_present m d)
  both_present =
      each_dart (λ d. owner d < m.count → T (has_helper m (owner d)) → T (is_present m d))
      (λ k h t. own_present k (omega arith)) (λ k h t. helper_present k (omega arith) (rw (owner_helper k) at t))

  -- what holds of the own dart of each point, and of each helper that there is, holds of the present darts
  pub by_present {ℓ} : (Q : ℕ → Type ℓ) → ((k : ℕ) → k < m.count → Q (own k)) →
      ((k : ℕ) → k < m.count → T (has_helper m k) → Q (helper k)) → (d : ℕ) → T (is_present m d) → Q d
  by_present Q first second =
      each_dart (λ d. T (is_present m d) → Q d)
      (λ k t. first k (omega (arith, present_owner (own k) t)))
      (λ k t. second k (omega (arith, present_owner (helper k) t)) (present_helper k t))

  pub present_dart : (d : ℕ) → T (is_present m d) → Dart (dart_bound m) (is_present m) d
  present_dart d t = record { below = present_below m d t; is_present = t }

  -- ---- the point link

  pub point_own : (k : ℕ) → T (has_helper m k) → point_link m (own k) ≡ helper k
  unfolding point_link
  point_own k t = rw (owner_own k, is_true (has_helper m k) t) (other_own k)

  pub point_helper : (k : ℕ) → T (has_helper m k) → point_link m (helper k) ≡ own k
  unfolding point_link
  point_helper k t = rw (owner_helper k, is_true (has_helper m k) t) (other_helper k)

  pub point_lone : (d : ℕ) → ¬ T (has_helper m (owner d)) → point_link m d ≡ d
  unfolding point_link
  point_lone d none = rw (is_false (has_helper m (owner d)) none)

  -- what holds of the two darts of a point with a helper, and of a dart and itself where there is
  -- none, holds of a dart and its point link
  pub by_point_link {ℓ} : (Q : ℕ → ℕ → Type ℓ) →
      ((k : ℕ) → T (has_helper m k) → Q (own k) (helper k)) →
      ((k : ℕ) → T (has_helper m k) → Q (helper k) (own k)) →
      ((d : ℕ) → ¬ T (has_helper m (owner d)) → Q d d) → (d : ℕ) → Q d (point_link m d)
  by_point_link Q first second alone d =
      ⊎_elim
      (λ (t : T (has_helper m (owner d))).
      each_dart (λ e. T (has_helper m (owner e)) → Q e (point_link m e))
      (λ k h. let g = rw (owner_own k) at h in rw (point_own k g) (first k g))
      (λ k h. let g = rw (owner_helper k) at h in rw (point_helper k g) (second k g)) d t)
      (λ (t : T (not (has_helper m (owner d)))).
      let none = T_not (has_helper m (owner d)) t in rw (point_lone d none) (alone d none))
      (decide (has_helper m (owner d)))

  pub point_twice : (d : ℕ) → point_link m (point_link m d) ≡ d
  point_twice = by_point_link (λ d e. point_link m e ≡ d) point_helper point_own point_lone

  pub point_owner : (d : ℕ) → owner (point_link m d) ≡ owner d
  point_owner =
      by_point_link (λ d e. owner e ≡ owner d) (λ k t. omega arith) (λ k t. omega arith) (λ d t. refl)

  pub point_present : (d : ℕ) → T (is_present m d) → T (is_present m (point_link m d))
  point_present =
      by_point_link (λ d e. T (is_present m d) → T (is_present m e))
      (λ k t p. helper_present k (omega (arith, present_owner (own k) p)) t)
      (λ k t p. own_present k (omega (arith, present_owner (helper k) p))) (λ d t p. p)
