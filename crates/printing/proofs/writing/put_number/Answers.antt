-- `printing::writing::put_number` meets its contract: a negative number has a minus before its
-- digits.
use mathlib.Core.Path.{refl}
use mathlib.Core.List.{[], ◌∷◌}
use Rattle.model.specs.Spelling.{minus}
use Rattle.printing.proofs.Magnitudes.{signed_spelling, plain_spelling}
use Rattle.printing.proofs.Overwriting.{room_first, room_second, wrote_then, room_as, wrote_as}
use Rattle.printing.proofs.writing.put_number.Goals as goal

pub put_byte-digits-requires : goal.put_byte-digits-requires
put_byte-digits-requires c =
    room_first (minus ∷ []) _ (room_as (signed_spelling c.ranges.z refl c.if-z-lt0.true)
    c.requires)

pub put_natural-requires : goal.put_natural-requires
put_natural-requires c = room_second c.put_byte-digits.ensures _
    (room_as (signed_spelling c.ranges.z c.unsigned_abs.ensures.value c.if-z-lt0.true) c.requires)

pub put_natural-requires-else-z-lt0 : goal.put_natural-requires-else-z-lt0
put_natural-requires-else-z-lt0 c =
    room_as (plain_spelling c.ranges.z c.unsigned_abs-else-z-lt0.ensures.value c.if-z-lt0.false) c.requires

pub returns-then-z-lt0 : goal.returns-then-z-lt0
returns-then-z-lt0 c = let whole = signed_spelling c.ranges.z c.unsigned_abs.ensures.value c.if-z-lt0.true in
    wrote_as whole (wrote_then c.put_byte-digits.ensures (room_as whole c.requires) c.put_natural.ensures)

pub returns-else-z-lt0 : goal.returns-else-z-lt0
returns-else-z-lt0 c = wrote_as (plain_spelling c.ranges.z c.unsigned_abs-else-z-lt0.ensures.value c.if-z-lt0.false)
    c.put_natural-else-z-lt0.ensures
