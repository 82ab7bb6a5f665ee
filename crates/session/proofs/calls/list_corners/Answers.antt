-- `session::calls::list_corners` is safe: the length that is answered lies within the lent list.
use mathlib.Core.Path.{sym}
use Rattle.std.proofs.lemmas.List.{length-take-le}
use Rattle.engine.proofs.Entries.{written_within}
use Rattle.session.proofs.calls.list_corners.Goals as goal

pub slice_bounds-tell-end-in-Ok : goal.slice_bounds-tell-end-in-Ok
slice_bounds-tell-end-in-Ok g c = written_within c.in-Ok.ensures

pub slice_bounds-tell-end-in-Ok-2 : goal.slice_bounds-tell-end-in-Ok-2
slice_bounds-tell-end-in-Ok-2 g c = sym (length-take-le _ _ (written_within c.in-Ok.ensures))
