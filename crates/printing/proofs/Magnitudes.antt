-- How a signed number is spelt, by its sign and its magnitude as the machine has them. The library's magnitude
-- serves the least number too.
use mathlib.Core.Path.{◌≡◌, sym, ap, ◌∙◌}
use mathlib.Core.Bool.{Bool, true, false}
use mathlib.Core.List.{◌∷◌}
use Prim.Native.Nat.{ℕ}
use lib.IntN.{ℤ, pos, nat_abs}
use lib.Signed.{lt_z}
use mir.Syntax.{w64}
use mir.Val.{SFits, to_z, of_z}
use mir.Facts.{to_z-of_z}
use Rattle.model.specs.Spelling.{minus, spelt}
use Rattle.printing.proofs.Decimals.{spelt_negative, spelt_plain}

-- the sign that the machine tests is the number's
sign_read : {z : ℤ} {b : Bool} → SFits w64 z → lt_z (to_z w64 (of_z w64 z)) (pos 0) ≡ b →
    lt_z z (pos 0) ≡ b
sign_read {z} f e = sym (ap (λ (y : ℤ). lt_z y (pos 0)) (to_z-of_z f)) ∙ e

module _ {z : ℤ} {m : ℕ} (f : SFits w64 z) (is : m ≡ nat_abs (to_z w64 (of_z w64 z))) where
  magnitude_is : nat_abs z ≡ m
  magnitude_is = sym (is ∙ ap nat_abs (to_z-of_z f))

  pub signed_spelling : lt_z (to_z w64 (of_z w64 z)) (pos 0) ≡ true → spelt z ≡ minus ∷ spelt (pos m)
  signed_spelling e = rw magnitude_is at (spelt_negative z (sign_read f e))

  pub plain_spelling : lt_z (to_z w64 (of_z w64 z)) (pos 0) ≡ false → spelt z ≡ spelt (pos m)
  plain_spelling e = rw magnitude_is at (spelt_plain z (sign_read f e))
