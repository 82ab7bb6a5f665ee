-- Machine ranges in proofs: what an operation that is in range asks, and what it gives.
-- With hx : Bounded 1000 x and hy : Bounded 1000 y (integers/specs/Range),
--     fits w64 tt (mul (read w64 tt hx) (read w64 tt hy))
-- is the need of  x * y  at an `i64`. In this order: the laws; examples.
use Rattle.std.specs.Prelude.{◌≡◌, ℕ, ◌^◌, T, ltb, ℤ, pos, ◌-ℤ◌, ◌*ℤ◌}
use Rattle.std.proofs.Common.{◌∙◌, to_z-of_z}
use Rattle.std.specs.Int.{Width, w32, w64}
use mir.Val.{SFits, to_z, of_z, hbits}
use Rattle.integers.specs.Range.{Bounded, bounded_fits, Number, has_bounded, exact, literal, sub, mul}

module _ (w : Width) {B : ℕ} (t : T (ltb B (2 ^ hbits w))) where
  -- the need of the operation, or of the cast to w, that gives a
  pub fits : {z : ℤ} (a : Number B z) → SFits w a.has
  fits a = bounded_fits w t (has_bounded a)

  -- a, read back from its bits
  abbrev pub back : {z : ℤ} → Number B z → Number B z
  back a =
      record { has = to_z w (of_z w a.has); is = to_z-of_z (fits a) ∙ a.is; small = a.small }

  -- a parameter, read from its bits
  abbrev pub read : {z : ℤ} → Bounded B z → Number B z
  read h = back (exact h)

-- ---- in use

-- the needs of  (x - y) * 3  at an `i64`, and what it gives
module _ (x y : ℤ) (hx : Bounded 1000 x) (hy : Bounded 1000 y) where
  abbrev difference : Number 2000 (x -ℤ y)
  difference = sub (read w64 tt hx) (read w64 tt hy)

  abbrev triple : Number 6000 ((x -ℤ y) *ℤ pos 3)
  triple = mul (back w64 tt difference) (literal (pos 3))

  need_of_difference : SFits w64 (to_z w64 (of_z w64 x) -ℤ to_z w64 (of_z w64 y))
  need_of_difference = fits w64 tt difference

  need_of_triple : SFits w64 ((back w64 tt difference).has *ℤ pos 3)
  need_of_triple = fits w64 tt triple

  result : to_z w64 (of_z w64 ((back w64 tt difference).has *ℤ pos 3)) ≡ (x -ℤ y) *ℤ pos 3
  result = (back w64 tt triple).is

  need_of_cast : SFits w32 (back w64 tt triple).has
  need_of_cast = fits w32 tt (back w64 tt triple)
