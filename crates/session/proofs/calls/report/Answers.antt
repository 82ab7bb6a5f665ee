-- `session::calls::report` is safe: the length that is answered lies within the lent list.
use mathlib.Core.Path.{sym}
use Rattle.std.proofs.lemmas.List.{length-take-le}
use Rattle.engine.proofs.Entries.{written_within}
use Rattle.session.proofs.calls.report.Goals as goal

pub slice_bounds-write_all-end : goal.slice_bounds-write_all-end
slice_bounds-write_all-end g c = written_within c.in-Ok.ensures

pub slice_bounds-write_all-end-in-Ok : goal.slice_bounds-write_all-end-in-Ok
slice_bounds-write_all-end-in-Ok g c = sym (length-take-le _ _ (written_within c.in-Ok.ensures))
