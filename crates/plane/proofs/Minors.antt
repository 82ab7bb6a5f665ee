-- The determinant with rows (x, y, 1), expanded along its last column: it is the orientation, and what the
-- machine computes on the way to it fits 64 bits.
-- With coordinates up to a limit L a product is at most L², a minor 2 L², the first two minors together 4 L²,
-- and all three 6 L². So everything fits where 6 L² does; L is a variable.
use mathlib.Core.Path.{◌≡◌, ◌∙◌}
use Prim.Native.Nat.{ℕ, zero, suc, ◌+◌, ◌*◌, ◌^◌, ◌≤◌}
use native.Mathlib.Nat.{le-mul_of_pos_right, zero-lt-suc, lt_of_le_of_lt}
use native.Mathlib.Omega.{arith}
use mir.Syntax.{w64}
use mir.Val.{SFits, hbits, to_z, of_z}
use lib.Dec.{T, ltb, ltb→lt, lt→ltb}
use lib.IntN.{ℤ, ◌+ℤ◌, ◌-ℤ◌, ◌*ℤ◌}
use Rattle.integers.specs.Solver.{Expr, ◌≐◌, ◌⊕◌, ◌⊖◌, ◌⊗◌}
use Rattle.integers.proofs.Solver.{identity}
use Rattle.integers.specs.Range.{Bounded, Number, has_bounded, add, sub, mul}
use Rattle.integers.proofs.Range.{read, back, fits}
use Rattle.model.specs.declared.Point.{Point}
use Rattle.model.specs.Plane.{at, orientation}
use Rattle.plane.proofs.Orientation.{orientation_expr}

-- two rows without their last column
abbrev pub minor : Point → Point → ℤ
minor p q = p.x *ℤ q.y -ℤ p.y *ℤ q.x

abbrev minor_expr : (px py qx qy : Expr) → Expr
minor_expr px py qx qy = px ⊗ qy ⊖ py ⊗ qx

-- each 1 of the column with the minor of the other two rows, and the signs +, -, +
pub orientation_expanded : (a b c : Point) → minor b c -ℤ minor a c +ℤ minor a b ≡ orientation a b c
unfolding orientation
orientation_expanded a b c =
    identity 6
    (λ ax ay bx by cx cy.
    minor_expr bx by cx cy ⊖ minor_expr ax ay cx cy ⊕ minor_expr ax ay bx by ≐ orientation_expr ax ay bx by cx cy)
    tt
    a.x a.y b.x b.y c.x c.y

-- ---- the same on the machine, where every number is read back from its bits

abbrev held : ℤ → ℤ
held z = to_z w64 (of_z w64 z)

abbrev held_minor : (px py qx qy : ℤ) → ℤ
held_minor px py qx qy = held (held px *ℤ held qy) -ℤ held (held py *ℤ held qx)

-- a number up to B in absolute value fits
abbrev Room : ℕ → Type 0
Room B = T (ltb B (2 ^ hbits w64))

below_square : (n : ℕ) → n ≤ n * n
below_square zero = omega arith
below_square (suc n) = le-mul_of_pos_right (suc n) (zero-lt-suc n)

module _ (L : ℕ) (room : Room (6 * (L * L))) where
  abbrev two_squares : ℕ
  two_squares = L * L + L * L

  abbrev four_squares : ℕ
  four_squares = two_squares + two_squares

  room_for : (B : ℕ) → B ≤ 6 * (L * L) → Room B
  room_for B h = lt→ltb B (2 ^ hbits w64) (lt_of_le_of_lt h (ltb→lt (6 * (L * L)) (2 ^ hbits w64) room))

  for_coordinate : Room L
  for_coordinate = room_for L (omega (arith, below_square L))

  for_product : Room (L * L)
  for_product = room_for (L * L) (omega arith)

  for_minor : Room two_squares
  for_minor = room_for two_squares (omega arith)

  for_partial : Room four_squares
  for_partial = room_for four_squares (omega arith)

  for_sum : Room (four_squares + two_squares)
  for_sum = room_for (four_squares + two_squares) (omega arith)

  module _ {x y : ℤ} (hx : Bounded L x) (hy : Bounded L y) where
    abbrev product : Number (L * L) (x *ℤ y)
    product = mul (read w64 for_coordinate hx) (read w64 for_coordinate hy)

    pub product_fits : SFits w64 (held x *ℤ held y)
    product_fits = fits w64 for_product product

  module _ {px py qx qy : ℤ} (hpx : Bounded L px) (hpy : Bounded L py) (hqx : Bounded L qx) (hqy : Bounded L qy) where
    abbrev minor_number : Number two_squares (px *ℤ qy -ℤ py *ℤ qx)
    minor_number = sub (back w64 for_product (product hpx hqy)) (back w64 for_product (product hpy hqx))

    pub minor_fits : SFits w64 (held_minor px py qx qy)
    minor_fits = fits w64 for_minor minor_number

    pub minor_bounded : Bounded two_squares (held_minor px py qx qy)
    minor_bounded = has_bounded minor_number

  -- the first two minors, then all three
  module _ {x y : ℤ} (hx : Bounded two_squares x) (hy : Bounded two_squares y) where
    abbrev partial : Number four_squares (x -ℤ y)
    partial = sub (read w64 for_minor hx) (read w64 for_minor hy)

    pub partial_fits : SFits w64 (held x -ℤ held y)
    partial_fits = fits w64 for_partial partial

    pub partial_bounded : Bounded four_squares (held x -ℤ held y)
    partial_bounded = has_bounded partial

  pub sum_fits : {x y : ℤ} → Bounded four_squares x → Bounded two_squares y → SFits w64 (held x +ℤ held y)
  sum_fits hx hy = fits w64 for_sum (add (read w64 for_partial hx) (read w64 for_minor hy))

  module _
      {ax ay bx by cx cy : ℤ}
      (hax : Bounded L ax) (hay : Bounded L ay) (hbx : Bounded L bx) (hby : Bounded L by) (hcx : Bounded L cx) (hcy : Bounded L cy) where
    abbrev sum : Number (four_squares + two_squares) (minor (at bx by) (at cx cy) -ℤ minor (at ax ay) (at cx cy) +ℤ minor (at ax ay) (at bx by))
    sum =
        add
        (back w64 for_partial
        (sub (back w64 for_minor (minor_number hbx hby hcx hcy)) (back w64 for_minor (minor_number hax hay hcx hcy))))
        (back w64 for_minor (minor_number hax hay hbx hby))

    pub sum_is :
        held (held (held (held_minor bx by cx cy) -ℤ held (held_minor ax ay cx cy)) +ℤ held (held_minor ax ay bx by)) ≡ orientation (at ax ay) (at bx by) (at cx cy)
    sum_is = (back w64 for_sum sum).is ∙ orientation_expanded (at ax ay) (at bx by) (at cx cy)
