-- `layout::numbers::complement` meets its contract: a coordinate fits 32 bits, and the library gives them in
-- two's complement.
use Rattle.std.proofs.Common.{◌≡◌, refl, rules, ℤ, pos, negsuc, w32, w64}
use Rattle.std.proofs.lemmas.Int.{to_z-of_z}
use mir.Val.{of_z}
use Rattle.model.specs.Saved.{complement}
use Rattle.layout.proofs.numbers.complement.Goals as goal

bits_are : (z : ℤ) → of_z w32 z ≡ complement z
unfolding complement
bits_are (pos n) = refl
bits_are (negsuc n) = refl

pub returns : goal.returns
returns c =
    let z = c.args.z in
    rw (c.cast_unsigned.ensures, to_z-of_z w64 z (search rules), to_z-of_z w32 z (search rules)) (bits_are z)
