-- The left and the right corner of what a point q sees, in the order of this page: the two, over any
-- test of the corners; how a search finds them; a test that passes somewhere and fails somewhere has
-- both; every other numbered point is beside the edges from the left corner to q and from q to the right
-- one (tangents); so each is the only one.
-- Document 01: "The left corner is the one whose entering edge is not visible and whose leaving
-- edge is; the right corner the reverse."
use mathlib.Core.Path.{◌≡◌, sym, ap, subst}
use mathlib.Core.Logic.{◌≢◌, inl, inr, ⊎_elim}
use mathlib.Core.Bool.{Bool, not, ◌&&◌}
use mathlib.Core.List.{List}
use Prim.Native.Nat.{ℕ, ◌<◌, ◌≤◌}
use lib.Dec.{T, T_not, not_T}
use lib.ListN.{length}
use Rattle.finite.specs.Tests.{and_left, and_right, and_both, decide, same_or_not}
use Rattle.finite.specs.Bounded.{lt_or_ge}
use Rattle.finite.specs.Lists.{elem, first_in}
use Rattle.finite.specs.FirstPassing.{first_found}
use Rattle.finite.specs.CycleLaws.{cycle_switch}
use Rattle.model.specs.declared.Point.{Point}
use Rattle.model.specs.Plane.{beside, sees_edge}
use Rattle.plane.proofs.Orientation.{left_positive}
use Rattle.plane.proofs.Knuth.{cyclic_symmetry}
use Rattle.plane.proofs.Betweenness.{hidden_beside, not_both_beside, not_both_beside_to}
use Rattle.plane.proofs.Convex.{Link, Convex, sees, same_unless, entering_others, next_prev, next_below, prev_below, next_is_prev, turns_left}
use Rattle.plane.proofs.Tangents.{EndOrBeside, tangent_left, tangent_two, tangent_right, tangent_right_two}

pub record LeftCorner (prev : ℕ → ℕ) (p : ℕ → Bool) (s : List ℕ) (l : ℕ) : Type 0 where
  pub member : T (elem l s)
  pub enters : ¬ T (p (prev l))
  pub leaves : T (p l)

pub record RightCorner (prev : ℕ → ℕ) (p : ℕ → Bool) (s : List ℕ) (r : ℕ) : Type 0 where
  pub member : T (elem r s)
  pub enters : T (p (prev r))
  pub leaves : ¬ T (p r)

pub left_not_right : {prev : ℕ → ℕ} {p : ℕ → Bool} {s : List ℕ} {l r : ℕ} →
    LeftCorner prev p s l → RightCorner prev p s r → l ≢ r
left_not_right {p} L R e = R.leaves (subst (λ (x : ℕ). T (p x)) e L.leaves)

-- the first member that meets the document's test is such a corner, where there is one
module _ {prev : ℕ → ℕ} {p : ℕ → Bool} {s : List ℕ} (d x : ℕ) where
  pub left_corner_first : LeftCorner prev p s x →
      LeftCorner prev p s (first_in (λ a. not (p (prev a)) && p a) d s)
  left_corner_first L =
      let f = first_found (λ a. not (p (prev a)) && p a) d x s L.member
      (and_both (not (p (prev x))) (p x) (not_T (p (prev x)) L.enters) L.leaves) in
      let l = first_in (λ a. not (p (prev a)) && p a) d s in
      record {
        member = f.0;
        enters = T_not (p (prev l)) (and_left (not (p (prev l))) (p l) f.1);
        leaves = and_right (not (p (prev l))) (p l) f.1;
      }

  pub right_corner_first : RightCorner prev p s x →
      RightCorner prev p s (first_in (λ a. p (prev a) && not (p a)) d s)
  right_corner_first R =
      let f = first_found (λ a. p (prev a) && not (p a)) d x s R.member
      (and_both (p (prev x)) (not (p x)) R.enters (not_T (p x) R.leaves)) in
      let r = first_in (λ a. p (prev a) && not (p a)) d s in
      record {
        member = f.0;
        enters = and_left (p (prev r)) (not (p r)) f.1;
        leaves = T_not (p r) (and_right (p (prev r)) (not (p r)) f.1);
      }

-- ---- a test that fails at the corner x and passes at the corner y

module _ {n : ℕ} {P : ℕ → Point} {next prev : ℕ → ℕ} {s : List ℕ} (C : Convex n P next prev s)
    (p : ℕ → Bool) (x y : ℕ) (mx : T (elem x s)) (my : T (elem y s)) (fails : ¬ T (p x)) (passes : T (p y)) where
  pub left_corner_of : (l : ℕ) × LeftCorner prev p s l
  left_corner_of =
      let r = cycle_switch (Link next prev) p s C.round x y mx fails my passes in
      (r.1, record { member = r.3; enters = rw r.4.1 r.5; leaves = r.6 })

  pub right_corner_of : (r : ℕ) × RightCorner prev p s r
  right_corner_of =
      let r =
      cycle_switch (Link next prev) (λ a. not (p a)) s C.round y x my (λ t. T_not (p y) t passes) mx
      (not_T (p x) fails)
      in (
        r.1,
        record {
          member = r.3;
          enters = rw r.4.1 (⊎_elim (λ t. t) (λ t. absurd (r.5 t)) (decide (p r.0)));
          leaves = T_not (p r.1) r.6;
        },
      )

-- ---- the tangents

module _ {n : ℕ} {P : ℕ → Point} {next prev : ℕ → ℕ} {s : List ℕ} (C : Convex n P next prev s) where
  -- every other point is beside the edge that leaves a corner, or its end; and so with the one that enters it
  leaving : (a : ℕ) → T (elem a s) → (c : ℕ) → c < n → c ≢ a → EndOrBeside (P (next a)) (P a) (P (next a)) (P c)
  leaving a m c h d =
      ⊎_elim (λ (e : c ≡ next a). inl (ap P e)) (λ (e : c ≢ next a). inr (C.others a c m h d e))
      (same_or_not c (next a))

  entering : (a : ℕ) → T (elem a s) → (c : ℕ) → c < n → c ≢ a → EndOrBeside (P (prev a)) (P (prev a)) (P a) (P c)
  entering a m c h d =
      ⊎_elim (λ (e : c ≡ prev a). inl (ap P e)) (λ (e : c ≢ prev a). inr (entering_others C a c m h e d))
      (same_or_not c (prev a))

  module _ (q : Point) (fresh : (c : ℕ) → c < n → q ≢ P c) where
    pub left_tangent : (l : ℕ) → LeftCorner prev (sees P next q) s l →
        (c : ℕ) → c < n → c ≢ l → T (beside (P l) q (P c))
    left_tangent l L c h d =
        ⊎_elim
        (λ (few : length s < 3).
        let e = next_is_prev C few l m in
        tangent_two (P l) (P (next l)) q (P c) L.leaves (rw e hidden) (leaving l m c h d)
        (rw e (entering l m c h d)))
        (λ (three : 3 ≤ length s).
        tangent_left (P l) (P (next l)) (P (prev l)) q (P c)
        (left_positive (P l) (P (next l)) (P (prev l))
        (cyclic_symmetry (P (prev l)) (P l) (P (next l)) (turns_left C three l m)))
        L.leaves hidden (fresh (next l) (next_below C l m)) (leaving l m c h d) (entering l m c h d))
        (lt_or_ge (length s) 3)
      where
        m : T (elem l s)
        m = L.member

        hidden : T (beside (P (prev l)) (P l) q)
        hidden =
            subst (λ (x : ℕ). T (beside (P (prev l)) (P x) q)) (next_prev C l m)
            (hidden_beside (P (prev l)) (P (next (prev l))) q L.enters)

    pub right_tangent : (r : ℕ) → RightCorner prev (sees P next q) s r →
        (c : ℕ) → c < n → c ≢ r → T (beside q (P r) (P c))
    right_tangent r R c h d =
        ⊎_elim
        (λ (few : length s < 3).
        let e = next_is_prev C few r m in
        tangent_right_two (P r) (P (next r)) q (P c) (rw e seen) hidden (leaving r m c h d)
        (rw e (entering r m c h d)))
        (λ (three : 3 ≤ length s).
        tangent_right (P r) (P (next r)) (P (prev r)) q (P c) seen hidden (leaving r m c h d) (entering r m c h d)
        (left_positive (P r) (P (next r)) (P (prev r))
        (cyclic_symmetry (P (prev r)) (P r) (P (next r)) (turns_left C three r m)))
        (fresh (prev r) (prev_below C r m)))
        (lt_or_ge (length s) 3)
      where
        m : T (elem r s)
        m = R.member

        seen : T (sees_edge (P (prev r)) (P r) q)
        seen = subst (λ (x : ℕ). T (sees_edge (P (prev r)) (P x) q)) (next_prev C r m) R.enters

        hidden : T (beside (P r) (P (next r)) q)
        hidden = hidden_beside (P r) (P (next r)) q R.leaves

    -- ---- each corner is the only one

    pub left_corner_unique : (x y : ℕ) →
        LeftCorner prev (sees P next q) s x → LeftCorner prev (sees P next q) s y → x ≡ y
    left_corner_unique x y X Y =
        same_unless x y
        (λ d.
        not_both_beside (P x) (P y) q (left_tangent x X y (C.below y Y.member) (λ e. d (sym e)))
        (left_tangent y Y x (C.below x X.member) d))

    pub right_corner_unique : (x y : ℕ) →
        RightCorner prev (sees P next q) s x → RightCorner prev (sees P next q) s y → x ≡ y
    right_corner_unique x y X Y =
        same_unless x y
        (λ d.
        not_both_beside_to (P x) (P y) q (right_tangent x X y (C.below y Y.member) (λ e. d (sym e)))
        (right_tangent y Y x (C.below x X.member) d))

  -- .. and is there where q sees an edge, and some edge is hidden from q
  module _ (q : Point) (x y : ℕ) (i : T (elem x s)) (j : T (elem y s))
      (hidden : ¬ T (sees P next q x)) (seen : T (sees P next q y)) where
    pub left_corner_seen : (l : ℕ) × LeftCorner prev (sees P next q) s l
    left_corner_seen = left_corner_of C (sees P next q) x y i j hidden seen

    pub right_corner_seen : (r : ℕ) × RightCorner prev (sees P next q) s r
    right_corner_seen = right_corner_of C (sees P next q) x y i j hidden seen
