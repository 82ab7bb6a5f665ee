-- `saved::writing::note_field` meets its contract: the place is there, so it holds what is noted of the point.
use mathlib.Core.Path.{ap}
use Prim.Native.Nat.{◌+◌, ◌*◌}
use native.Mathlib.Omega.{arith}
use Rattle.finite.specs.ListLaws.{get_d_any}
use Rattle.model.specs.declared.Note.{Note}
use Rattle.model.specs.Maps.{note, no_note}
use Rattle.model.specs.Saved.{packed_note}
use Rattle.saved.proofs.writing.note_field.Goals as goal

pub returns : goal.returns
unfolding packed_note note
returns c =
    ap (λ (n : Note). (n.arrival * 65536 + n.left) * 65536 + n.right)
    (get_d_any c.args.sound.map.now.notes c.args.k _ no_note (omega arith))
