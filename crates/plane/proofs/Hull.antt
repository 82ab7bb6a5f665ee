-- The outline is the hull: a to b is an edge of a convex outline if and only if a and b are two of the
-- numbered points and all others lie beside it. So the points alone decide the edges.
use mathlib.Core.Path.{◌≡◌, sym, ap, subst, ◌∙◌}
use mathlib.Core.Logic.{◌≢◌, ⊎_elim, ◌↔◌}
use mathlib.Core.Bool.{not}
use mathlib.Core.List.{List, [], ◌∷◌}
use Prim.Native.Nat.{ℕ, ◌<◌}
use native.Mathlib.Omega.{arith}
use lib.Dec.{T, T_not}
use Rattle.integers.specs.Order.{order, negℤ_splits}
use Rattle.finite.specs.Tests.{decide}
use Rattle.finite.specs.Lists.{elem}
use Rattle.finite.specs.Cycles.{Cycle}
use Rattle.finite.specs.CycleLaws.{cycle_change, chain_ends}
use Rattle.model.specs.declared.Point.{Point}
use Rattle.model.specs.Plane.{orientation, left_of, beside}
use Rattle.plane.proofs.Orientation.{positive_left, left_positive}
use Rattle.plane.proofs.Knuth.{orientation_opposite, cyclic_back, antisymmetry, transitivity}
use Rattle.plane.proofs.Betweenness.{Between, between_symmetric, between_both_left, between_one_side, same_side_not_left, beside_cases, beside_nonneg, beside_zero, not_both_beside, not_both_beside_to}
use Rattle.plane.proofs.Convex.{Link, Convex, same_unless, entering_others, next_member, next_prev, prev_member, next_below, prev_below, next_differs, prev_differs}

-- a and b are two of the points numbered below n, and all others lie beside a to b
pub record Supports (n : ℕ) (P : ℕ → Point) (a b : ℕ) : Type 0 where
  pub from_below : a < n
  pub to_below : b < n
  pub differ : a ≢ b
  pub others : (c : ℕ) → c < n → c ≢ a → c ≢ b → T (beside (P a) (P b) (P c))

-- Neither a nor b is a corner. Then a is on no outline edge from y to z: these are both beside a to b, so
-- both between a and b, and a is not between them. So a is strictly left of each edge. And no corner z is
-- between a and b: the corner y before it, not right of a to b, has z not left of a to y.
module _ {n : ℕ} {P : ℕ → Point} {next prev : ℕ → ℕ} {s : List ℕ} (C : Convex n P next prev s)
    (a b : ℕ) (S : Supports n P a b) (i : ¬ T (elem a s)) (j : ¬ T (elem b s)) where
  corner_beside : (y : ℕ) → T (elem y s) → T (beside (P a) (P b) (P y))
  corner_beside y m = S.others y (C.below y m) (λ e. i (rw e at m)) (λ e. j (rw e at m))

  off_edges : (y : ℕ) → T (elem y s) → ¬ Between (P y) (P (next y)) (P a)
  off_edges y m h =
      let z = next y in
      let on_y = corner_beside y m in
      let on_z = corner_beside z (next_member C y m) in
      between_one_side (P a) (P b) (P y) (P z)
      (beside_zero (P a) (P b) (P y) on_y
      (between_both_left (P y) (P z) (P a) (P b) h (beside_nonneg (P a) (P b) (P y) on_y)
      (beside_nonneg (P a) (P b) (P z) on_z)))
      (beside_zero (P a) (P b) (P z) on_z
      (between_both_left (P z) (P y) (P a) (P b) (between_symmetric (P y) (P z) (P a) h)
      (beside_nonneg (P a) (P b) (P z) on_z) (beside_nonneg (P a) (P b) (P y) on_y)))
      h

  left_of_edges : (y : ℕ) → T (elem y s) → T (left_of (P y) (P (next y)) (P a))
  left_of_edges y m =
      ⊎_elim (positive_left (P y) (P (next y)) (P a)) (λ h. absurd (off_edges y m h))
      (beside_cases (P y) (P (next y)) (P a)
      (C.others y a m S.from_below (λ k. i (rw k m)) (λ k. i (rw k (next_member C y m)))))

  around : (y : ℕ) → T (elem y s) → T (left_of (P a) (P y) (P (next y)))
  around y m = cyclic_back (P y) (P (next y)) (P a) (left_of_edges y m)

  not_on_line : (y : ℕ) → T (elem y s) → ¬ Between (P a) (P b) (P (next y))
  not_on_line y m h =
      omega (
        arith,
        order,
        left_positive (P a) (P y) (P (next y)) (around y m),
        same_side_not_left (P a) (P b) (P (next y)) h (P y)
            (omega (
              arith,
              order,
              beside_nonneg (P a) (P b) (P y) (corner_beside y m),
              orientation_opposite (P a) (P y) (P b),
              negℤ_splits (orientation (P a) (P b) (P y)),
            )),
      )

  corner_left : (z : ℕ) → T (elem z s) → T (left_of (P a) (P b) (P z))
  corner_left z m =
      ⊎_elim (positive_left (P a) (P b) (P z))
      (λ h. absurd (not_on_line (prev z) (prev_member C z m) (rw (next_prev C z m) h)))
      (beside_cases (P a) (P b) (P z) (corner_beside z m))

-- So all corners lie left of a to b, and the outline bends left round a: [a x y] is positive from each
-- corner x to the next, y, and by transitivity from x round to x.
no_corner : {n : ℕ} {P : ℕ → Point} {next prev : ℕ → ℕ} (s : List ℕ) → Convex n P next prev s →
    (a b : ℕ) → Supports n P a b → ¬ T (elem a s) → ¬ T (elem b s) → ⊥
unfolding Cycle
no_corner [] C a b S i j = omega (arith, C.two)
no_corner {n} {P} {next} {prev} (x ∷ s) C a b S i j =
    let ends =
    chain_ends Around pass x s x (cycle_change (Link next prev) Around (x ∷ s) step C.round)
    in
    antisymmetry (P a) (P x) (P x) ends.0 ends.0
  where
    Around : ℕ → ℕ → Type 0
    Around y z = T (left_of (P a) (P y) (P z)) × T (left_of (P a) (P b) (P y)) × T (left_of (P a) (P b) (P z))

    pass : (y z w : ℕ) → Around y z → Around z w → Around y w
    pass y z w f g =
        (transitivity (P y) (P z) (P w) (P b) (P a) f.1 f.2 g.2 f.0 g.0, f.1, g.2)

    step : (y z : ℕ) → T (elem y (x ∷ s)) → T (elem z (x ∷ s)) → Link next prev y z → Around y z
    step y z my mz e = (
      subst (λ (w : ℕ). T (left_of (P a) (P y) (P w))) e.0 (around C a b S i j y my),
      corner_left C a b S i j y my,
      corner_left C a b S i j z mz,
    )

module _ {n : ℕ} {P : ℕ → Point} {next prev : ℕ → ℕ} {s : List ℕ} (C : Convex n P next prev s) where
  pub edge_supports : (a b : ℕ) → T (elem a s) × (next a ≡ b) → Supports n P a b
  edge_supports a b e =
      subst (Supports n P a) e.1
      (record {
        from_below = C.below a e.0;
        to_below = next_below C a e.0;
        differ = λ k. next_differs C a e.0 (sym k);
        others = λ c. C.others a c e.0;
      })

  pub supports_edge : (a b : ℕ) → Supports n P a b → T (elem a s) × (next a ≡ b)
  supports_edge a b S =
      ⊎_elim from_corner
      (λ (i : T (not (elem a s))).
      ⊎_elim to_corner
      (λ (j : T (not (elem b s))). absurd (no_corner s C a b S (T_not (elem a s) i) (T_not (elem b s) j)))
      (decide (elem b s)))
      (decide (elem a s))
    where
      from_corner : T (elem a s) → T (elem a s) × (next a ≡ b)
      from_corner m = (
        m,
        same_unless (next a) b
            (λ d.
            not_both_beside_to (P b) (P (next a)) (P a) (S.others (next a) (next_below C a m) (next_differs C a m) d)
            (C.others a b m S.to_below (λ e. S.differ (sym e)) (λ e. d (sym e)))),
      )

      to_corner : T (elem b s) → T (elem a s) × (next a ≡ b)
      to_corner m =
          let before =
          same_unless (prev b) a
          (λ d.
          not_both_beside (P a) (P (prev b)) (P b) (S.others (prev b) (prev_below C b m) d (prev_differs C b m))
          (entering_others C b a m S.from_below (λ e. d (sym e)) S.differ))
          in
          (rw before at (prev_member C b m), ap next (sym before) ∙ next_prev C b m)

  pub outline_is_hull : (a b : ℕ) → (T (elem a s) × (next a ≡ b)) ↔ Supports n P a b
  outline_is_hull a b = (edge_supports a b, supports_edge a b)
