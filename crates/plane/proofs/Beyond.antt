-- An outline of two corners, and a point q in line with them, beyond one of them: just then all edges
-- are visible from q; just one corner has the other between itself and q, the one farther from q; and
-- all other points are between that corner and q.
-- Document 02, #106: "When the whole outline is two corners and the new point is in line beyond one of
-- them, left and right are both the corner farther from the new point, and two edges are visible."
use mathlib.Core.Path.{◌≡◌, refl, sym, ap, subst, ◌∙◌}
use mathlib.Core.Logic.{◌≢◌, ◌⊎◌, inl, inr, ⊎_elim, ◌↔◌}
use mathlib.Core.List.{List}
use Prim.Native.Nat.{ℕ, ◌<◌, ◌≤◌}
use native.Mathlib.Omega.{arith}
use lib.Dec.{T}
use lib.IntN.{pos}
use lib.ListN.{length}
use lib.Signed.{◌<ℤ◌}
use Rattle.integers.specs.Order.{order, negℤ_splits, <ℤ_≢}
use Rattle.finite.specs.Tests.{same_or_not}
use Rattle.finite.specs.Bounded.{lt_or_ge}
use Rattle.finite.specs.Lists.{elem}
use Rattle.finite.specs.CycleLaws.{cycle_holds}
use Rattle.model.specs.declared.Point.{Point}
use Rattle.model.specs.Plane.{orientation, strictly_between, beside, sees_edge}
use Rattle.plane.proofs.Orientation.{orientation_swap}
use Rattle.plane.proofs.Betweenness.{one_between}
use Rattle.plane.proofs.Betweenness.{Between, between_of, of_between, between_symmetric, orientation_zero_swap, orientation_zero_last, not_both_between, between_further, beside_cases, beside_nonneg, beside_zero, seen_nonpos, seen_not_between, not_beside_seen}
use Rattle.plane.proofs.Convex.{Link, Convex, sees, next_member, next_is_prev, prev_next, not_all_seen}

-- q is in line with a and b, and not strictly between them
pub record Beyond (a b q : Point) : Type 0 where
  pub line : orientation a b q ≡ pos 0
  pub outside : ¬ Between a b q

pub beyond_seen : (a b q : Point) → Beyond a b q → T (sees_edge a b q)
beyond_seen a b q h =
    not_beside_seen a b q
    (λ t.
    ⊎_elim (λ (k : pos 0 <ℤ orientation a b q). <ℤ_≢ k (sym h.line)) h.outside (beside_cases a b q t))

pub beyond_symmetric : (a b q : Point) → Beyond a b q → Beyond b a q
beyond_symmetric a b q h =
    record {
      line = orientation_zero_swap a b q h.line;
      outside = λ k. h.outside (between_symmetric b a q k);
    }

-- an edge that is seen from both sides is in line
pub both_seen_beyond : (a b q : Point) → T (sees_edge a b q) → T (sees_edge b a q) → Beyond a b q
both_seen_beyond a b q s t =
    record {
      line =
          omega (
            arith,
            order,
            seen_nonpos a b q s,
            seen_nonpos b a q t,
            orientation_swap b a q,
            negℤ_splits (orientation a b q),
          );
      outside = seen_not_between a b q s;
    }

-- the one farther from q has the other between itself and q
pub beyond_farther : (a b q : Point) → a ≢ b → q ≢ a → q ≢ b → Beyond a b q → Between a q b ⊎ Between b q a
beyond_farther a b q ab qa qb h =
    ⊎_elim
    (λ k. absurd (h.outside (record { line = h.line; within = k })))
    (⊎_elim
    (λ k. inl (record { line = orientation_zero_last a b q h.line; within = k }))
    (λ k. inr (record { line = orientation_zero_last b a q (orientation_zero_swap a b q h.line); within = k })))
    (one_between a b q ab qa qb h.line)

-- ---- round an outline

module _ {n : ℕ} {P : ℕ → Point} {next prev : ℕ → ℕ} {s : List ℕ} (C : Convex n P next prev s) (q : Point) where
  -- of two corners each stands after the other
  pub next_twice : length s < 3 → (a : ℕ) → T (elem a s) → next (next a) ≡ a
  next_twice few a m = next_is_prev C few (next a) (next_member C a m) ∙ prev_next C a m

  pub two_corners : length s < 3 → (a b : ℕ) → T (elem a s) → T (elem b s) → (b ≡ a) ⊎ (b ≡ next a)
  two_corners few a b i j =
      cycle_holds (Link next prev) (λ c. (c ≡ a) ⊎ (c ≡ next a))
      (λ c d e.
      ⊎_elim (λ (k : c ≡ a). inr (sym e.0 ∙ ap next k))
      (λ (k : c ≡ next a). inl (sym e.0 ∙ ap next k ∙ next_twice few a i)))
      a b s C.round i j (inl refl)

  -- all edges are visible just from a point beyond one of two corners
  pub all_visible : length s < 3 → (a : ℕ) → T (elem a s) →
      ((b : ℕ) → T (elem b s) → T (sees P next q b)) ↔ Beyond (P a) (P (next a)) q
  all_visible few a m = (
    λ all.
        both_seen_beyond (P a) (P (next a)) q (all a m)
        (subst (λ (x : ℕ). T (sees_edge (P (next a)) (P x) q)) (next_twice few a m) (all (next a) (next_member C a m))),
    λ h b i.
        ⊎_elim (λ (e : b ≡ a). rw e (beyond_seen (P a) (P (next a)) q h))
        (λ (e : b ≡ next a).
        rw (e, next_twice few a m)
        (beyond_seen (P (next a)) (P a) q (beyond_symmetric (P a) (P (next a)) q h)))
        (two_corners few a b m i),
  )

  pub all_visible_two : ((b : ℕ) → T (elem b s) → T (sees P next q b)) → length s < 3
  all_visible_two all =
      ⊎_elim (λ few. few) (λ (three : 3 ≤ length s). absurd (not_all_seen C q three all)) (lt_or_ge (length s) 3)

  -- there is one corner that has the other between itself and q
  pub farther_corner : length s < 3 → (a : ℕ) → T (elem a s) → P a ≢ P (next a) → q ≢ P a → q ≢ P (next a) →
      Beyond (P a) (P (next a)) q → (f : ℕ) × T (elem f s) × T (strictly_between (P f) q (P (next f)))
  farther_corner few a m ab qa qb h =
      ⊎_elim
      (λ (k : Between (P a) q (P (next a))). (a, m, of_between (P a) q (P (next a)) k))
      (λ (k : Between (P (next a)) q (P a)). (
        next a,
        next_member C a m,
        rw (next_twice few a m) (of_between (P (next a)) q (P a) k),
      ))
      (beyond_farther (P a) (P (next a)) q ab qa qb h)

  pub farther_only : length s < 3 → (f g : ℕ) → T (elem f s) → T (elem g s) →
      T (strictly_between (P f) q (P (next f))) → T (strictly_between (P g) q (P (next g))) → g ≡ f
  farther_only few f g i j s t =
      ⊎_elim (λ e. e)
      (λ (e : g ≡ next f).
      absurd
      (not_both_between (P f) (P (next f)) q (between_of (P f) q (P (next f)) s)
      (between_of (P (next f)) q (P f)
      (subst (λ (x : ℕ). T (strictly_between (P (next f)) q (P x))) (next_twice few f i)
      (subst (λ (x : ℕ). T (strictly_between (P x) q (P (next x)))) e t)))))
      (two_corners few f g i j)

  -- all other points are between the two corners, and so between the farther one and q
  pub others_between : length s < 3 → (a c : ℕ) → T (elem a s) → c < n → c ≢ a → c ≢ next a →
      Between (P a) (P (next a)) (P c)
  others_between few a c m h d e =
      let there = C.others a c m h d e in
      let back =
      subst (λ (x : ℕ). T (beside (P (next a)) (P x) (P c))) (next_twice few a m)
      (C.others (next a) c (next_member C a m) h e (λ k. d (k ∙ next_twice few a m)))
      in
      beside_zero (P a) (P (next a)) (P c) there
      (omega (
        arith,
        order,
        beside_nonneg (P a) (P (next a)) (P c) there,
        beside_nonneg (P (next a)) (P a) (P c) back,
        orientation_swap (P (next a)) (P a) (P c),
        negℤ_splits (orientation (P a) (P (next a)) (P c)),
      ))

  pub farther_tangent : length s < 3 → (f : ℕ) → T (elem f s) → T (strictly_between (P f) q (P (next f))) →
      (c : ℕ) → c < n → c ≢ f → Between (P f) q (P c)
  farther_tangent few f m t c h d =
      let ahead = between_of (P f) q (P (next f)) t in
      ⊎_elim (λ (e : c ≡ next f). rw e ahead)
      (λ (e : c ≢ next f). between_further (P f) q (P (next f)) (P c) ahead (others_between few f c m h d e))
      (same_or_not c (next f))
