-- Knuth's five axioms of a counterclockwise system ("Axioms and Hulls", 1992) for the strict test
-- `left_of`, in his order and letters: cyclic symmetry, antisymmetry, nondegeneracy, interiority,
-- transitivity; then the dual of the fifth. Three points may be in line here, so the third has one
-- case more.
use mathlib.Core.Path.{◌≡◌, sym, ap, ◌∙◌}
use mathlib.Core.Logic.{◌⊎◌, inl, inr, ⊎_elim}
use native.Mathlib.Omega.{arith}
use lib.Dec.{T}
use lib.IntN.{ℤ, pos, neg_ℤ, ◌+ℤ◌, ◌*ℤ◌}
use lib.Signed.{◌<ℤ◌}
use Rattle.integers.specs.Order.{order, signs, +ℤ_splits, negℤ_splits}
use Rattle.integers.specs.Sign.{pos_pos, neg_pos, second_pos_pos, second_neg_neg}
use Rattle.model.specs.declared.Point.{Point}
use Rattle.model.specs.Plane.{orientation, left_of, in_line}
use Rattle.plane.proofs.Orientation.{orientation_cyclic, orientation_swap, orientation_split, orientation_exchange, left_positive, positive_left, zero_in_line}

-- to swap the last two points reverses the sign
pub orientation_opposite : (p q r : Point) → orientation p q r ≡ neg_ℤ (orientation p r q)
orientation_opposite p q r =
    orientation_cyclic p q r ∙ orientation_swap q r p ∙ ap neg_ℤ (sym (orientation_cyclic p r q))

left_negative : (p q r : Point) → T (left_of p q r) → orientation p r q <ℤ pos 0
left_negative p q r t =
    omega (arith, order, left_positive p q r t, orientation_opposite p q r, negℤ_splits (orientation p r q))

negative_left : (p q r : Point) → orientation p r q <ℤ pos 0 → T (left_of p q r)
negative_left p q r h =
    positive_left p q r (omega (arith, order, orientation_opposite p q r, negℤ_splits (orientation p r q)))

-- ---- the five axioms

pub cyclic_symmetry : (p q r : Point) → T (left_of p q r) → T (left_of q r p)
cyclic_symmetry p q r t = positive_left q r p (rw orientation_cyclic at (left_positive p q r t))

-- the last point may come first
pub cyclic_back : (p q r : Point) → T (left_of p q r) → T (left_of r p q)
cyclic_back p q r t = cyclic_symmetry q r p (cyclic_symmetry p q r t)

pub antisymmetry : (p q r : Point) → T (left_of p q r) → ¬ T (left_of p r q)
antisymmetry p q r t u = omega (arith, order, left_negative p q r t, left_positive p r q u)

pub nondegeneracy : (p q r : Point) → T (left_of p q r) ⊎ T (left_of p r q) ⊎ T (in_line p q r)
nondegeneracy p q r =
    ⊎_elim
    (λ h. inl (positive_left p q r h))
    (⊎_elim (λ e. inr (inr (zero_in_line p q r e))) (λ h. inr (inl (negative_left p r q h))))
    (signs (orientation p q r))

pub interiority : (p q r t : Point) →
    T (left_of t q r) → T (left_of p t r) → T (left_of p q t) → T (left_of p q r)
interiority p q r t a b c =
    positive_left p q r
    (omega (
      arith,
      order,
      orientation_split p q r t,
      +ℤ_splits (orientation t q r +ℤ orientation p t r) (orientation p q t),
      +ℤ_splits (orientation t q r) (orientation p t r),
      left_positive t q r a,
      left_positive p t r b,
      left_positive p q t c,
    ))

-- the products of the exchange: two positive ones have a positive sum, two negative ones a negative
sum_positive : (z w u v : ℤ) → pos 0 <ℤ z → pos 0 <ℤ w → pos 0 <ℤ u → pos 0 <ℤ v → pos 0 <ℤ (z *ℤ w +ℤ u *ℤ v)
sum_positive z w u v a b c d = omega (arith, order, +ℤ_splits (z *ℤ w) (u *ℤ v), pos_pos a b, pos_pos c d)

sum_negative : (z w u v : ℤ) → z <ℤ pos 0 → pos 0 <ℤ w → u <ℤ pos 0 → pos 0 <ℤ v → (z *ℤ w +ℤ u *ℤ v) <ℤ pos 0
sum_negative z w u v a b c d = omega (arith, order, +ℤ_splits (z *ℤ w) (u *ℤ v), neg_pos a b, neg_pos c d)

pub transitivity : (p q r s t : Point) →
    T (left_of t s p) → T (left_of t s q) → T (left_of t s r) →
    T (left_of t p q) → T (left_of t q r) → T (left_of t p r)
transitivity p q r s t a b c d e =
    positive_left t p r
    (second_pos_pos (left_positive t s q b)
    (rw orientation_exchange
    (sum_positive (orientation t s p) (orientation t q r) (orientation t s r) (orientation t p q)
    (left_positive t s p a) (left_positive t q r e) (left_positive t s r c) (left_positive t p q d))))

pub dual_transitivity : (p q r s t : Point) →
    T (left_of s t p) → T (left_of s t q) → T (left_of s t r) →
    T (left_of t p q) → T (left_of t q r) → T (left_of t p r)
dual_transitivity p q r s t a b c d e =
    positive_left t p r
    (second_neg_neg (below q b)
    (rw orientation_exchange
    (sum_negative (orientation t s p) (orientation t q r) (orientation t s r) (orientation t p q)
    (below p a) (left_positive t q r e) (below r c) (left_positive t p q d))))
  where
    below : (x : Point) → T (left_of s t x) → orientation t s x <ℤ pos 0
    below x h =
        omega (arith, order, left_positive s t x h, orientation_swap s t x, negℤ_splits (orientation t s x))
