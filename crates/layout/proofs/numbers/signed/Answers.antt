-- `layout::numbers::signed` meets its contract: the library reads the bits in two's complement.
use Rattle.std.proofs.Common.{◌≡◌, refl, rules, ℕ, w32, w64}
use Rattle.std.proofs.lemmas.Int.{to_z-of_z}
use mir.Val.{to_z}
use Rattle.model.specs.Saved.{signed}
use Rattle.layout.proofs.numbers.signed.Goals as goal

bits_are : (n : ℕ) → to_z w32 n ≡ signed n
unfolding signed
bits_are n = refl

pub returns : goal.returns
returns c =
    rw (
      to_z-of_z w64 c.from.result (search rules),
      c.from.ensures,
      to_z-of_z w32 c.cast_signed.result (search rules),
      c.cast_signed.ensures,
    ) (bits_are c.args.number)
