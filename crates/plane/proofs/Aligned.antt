-- Points in line with an edge of an outline, in the order of this page: a point that sees no edge strictly, and is on
-- none, is left of all; a point on an edge is beside all.
use mathlib.Core.Path.{◌≡◌, sym, ap, ◌∙◌}
use mathlib.Core.Logic.{◌≢◌, ◌⊎◌, inl, inr, ⊎_elim}
use mathlib.Core.List.{List}
use Prim.Native.Nat.{ℕ, ◌≤◌, ◌<◌}
use lib.Dec.{T}
use lib.ListN.{length}
use lib.IntN.{pos}
use lib.Signed.{◌≤ℤ◌, ◌<ℤ◌}
use Rattle.integers.specs.Order.{<ℤ_≢, signs}
use Rattle.finite.specs.Tests.{and_both, same_or_not}
use Rattle.finite.specs.Bounded.{lt_or_ge}
use Rattle.finite.specs.Lists.{elem}
use Rattle.model.specs.declared.Point.{Point}
use Rattle.model.specs.Plane.{orientation, left_of, visible_from, in_line, strictly_between, beside}
use Rattle.plane.specs.Between.{opposite}
use Rattle.plane.proofs.Orientation.{orientation_cyclic, orientation_twice, left_positive, positive_left, negative_visible, zero_in_line}
use Rattle.plane.proofs.Betweenness.{Between, between_symmetric, between_left, beside_left, beside_between}
use Rattle.plane.proofs.Betweenness.{one_between, beyond_end, beyond_start}
use Rattle.plane.proofs.Convex.{Convex, next_member, prev_member, prev_next, next_prev, next_differs, next_not_prev, corners_strict, turns_left, not_right}
use Rattle.plane.proofs.Beyond.{next_twice, two_corners}

-- a point that sees no edge of three or more, and is neither a corner nor strictly between the ends of
-- an edge, lies strictly left of every edge: else it were in line with an edge and beyond an end of it
module _ {n : ℕ} {P : ℕ → Point} {next prev : ℕ → ℕ} {s : List ℕ} (C : Convex n P next prev s) (three : 3 ≤ length s)
    (q : Point) (no_corner : (a : ℕ) → T (elem a s) → P a ≢ q)
    (no_edge : (a : ℕ) → T (elem a s) → ¬ T (strictly_between (P a) (P (next a)) q))
    (no_sight : (a : ℕ) → T (elem a s) → ¬ T (visible_from (P a) (P (next a)) q)) where
  module _ (a : ℕ) (m : T (elem a s)) (line : orientation (P a) (P (next a)) q ≡ pos 0) where
    abbrev b : ℕ
    b = next a

    abbrev c : ℕ
    c = next b

    b_on : T (elem b s)
    b_on = next_member C a m

    -- the corner after the next one is another one
    third : c ≢ a
    third e = next_not_prev C three a m (sym (prev_next C b b_on) ∙ ap prev e)

    third_left : pos 0 <ℤ orientation (P a) (P b) (P c)
    third_left =
        left_positive (P a) (P b) (P c) (corners_strict C a c m (next_member C b b_on) third (next_differs C b b_on))

    ends_differ : P a ≢ P b
    ends_differ e = <ℤ_≢ (rw e at third_left) (sym (orientation_twice (P b) (P c)))

    entering : pos 0 <ℤ orientation (P (prev a)) (P a) (P b)
    entering = left_positive (P (prev a)) (P a) (P b) (turns_left C three a m)

    not_in_line : ⊥
    unfolding strictly_between
    not_in_line =
        ⊎_elim
        (λ h.
        no_edge a m
        (and_both (in_line (P a) (P b) q) (opposite (P a) (P b) q) (zero_in_line (P a) (P b) q line) h.lt))
        (⊎_elim
        (λ h. no_sight b b_on (negative_visible (P b) (P c) q (beyond_end (P a) (P b) (P c) q line h third_left)))
        (λ h.
        no_sight (prev a) (prev_member C a m)
        (rw (next_prev C a m)
        (negative_visible (P (prev a)) (P a) q (beyond_start (P a) (P b) (P (prev a)) q line h entering)))))
        (one_between (P a) (P b) q ends_differ (λ e. no_corner a m (sym e)) (λ e. no_corner b b_on (sym e)) line)

  pub left_of_all : (a : ℕ) → T (elem a s) → T (left_of (P a) (P (next a)) q)
  left_of_all a m =
      ⊎_elim (positive_left (P a) (P (next a)) q)
      (⊎_elim
      (λ (e : orientation (P a) (P (next a)) q ≡ pos 0). absurd (not_in_line a m e))
      (λ h. absurd (no_sight a m (negative_visible (P a) (P (next a)) q h))))
      (signs (orientation (P a) (P (next a)) q))

-- ---- a point on an edge is beside every edge

-- Where there are three corners or more, one end of its edge is strictly left of any other edge, and the
-- other end is not right of it.
module _ {n : ℕ} {P : ℕ → Point} {next prev : ℕ → ℕ} {s : List ℕ} (C : Convex n P next prev s) (q : Point)
    (a : ℕ) (m : T (elem a s)) (between : Between (P a) (P (next a)) q) where
  module _ (three : 3 ≤ length s) (c : ℕ) (k : T (elem c s)) (other : c ≢ a) where
    end_nonneg : (x : ℕ) → T (elem x s) → pos 0 ≤ℤ orientation (P c) (P (next c)) (P x)
    end_nonneg x i = rw orientation_cyclic at (not_right C x c (C.below x i) k)

    end_left : (x : ℕ) → T (elem x s) → x ≢ c → x ≢ next c → pos 0 <ℤ orientation (P c) (P (next c)) (P x)
    end_left x i d e = left_positive (P c) (P (next c)) (P x) (corners_strict C c x k i d e)

    one_end_left : (pos 0 <ℤ orientation (P c) (P (next c)) (P a)) ⊎ (pos 0 <ℤ orientation (P c) (P (next c)) (P (next a)))
    one_end_left =
        ⊎_elim
        (λ (e : a ≡ next c).
        inr
        (end_left (next a) (next_member C a m)
        (λ f. next_not_prev C three a m (f ∙ sym (ap prev e ∙ prev_next C c k)))
        (λ f. next_differs C a m (f ∙ sym e))))
        (λ (e : a ≢ next c). inl (end_left a m (λ f. other (sym f)) e))
        (same_or_not a (next c))

    left_of_other : pos 0 <ℤ orientation (P c) (P (next c)) q
    left_of_other =
        between_left (P a) (P (next a)) q (P c) (P (next c)) between (end_nonneg a m)
        (end_nonneg (next a) (next_member C a m)) one_end_left

  pub on_edge_beside : (c : ℕ) → T (elem c s) → T (beside (P c) (P (next c)) q)
  on_edge_beside c k =
      ⊎_elim (λ (e : c ≡ a). rw e (beside_between (P a) (P (next a)) q between))
      (λ (other : c ≢ a).
      ⊎_elim
      (λ (few : length s < 3).
      ⊎_elim (λ (e : c ≡ a). absurd (other e))
      (λ (e : c ≡ next a).
      rw (e, next_twice C q few a m)
      (beside_between (P (next a)) (P a) q (between_symmetric (P a) (P (next a)) q between)))
      (two_corners C q few a c m k))
      (λ (three : 3 ≤ length s). beside_left (P c) (P (next c)) q (left_of_other three c k other))
      (lt_or_ge (length s) 3))
      (same_or_not c a)
