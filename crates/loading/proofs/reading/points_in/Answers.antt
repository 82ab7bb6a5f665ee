-- `loading::reading::points_in` meets its contract: before the loop every place holds 0, 0, a step fills the place of
-- one point, and after the last step all places are filled.
use mathlib.Core.Path.{sym, ◌∙◌}
use native.Mathlib.Omega.{arith}
use lib.ListN.{length-replicate}
use Rattle.finite.specs.ListLaws.{replicate_at}
use Rattle.finite.specs.Loops.{none_in_front, all_in_front, all_filled}
use Rattle.model.specs.Plane.{origin}
use Rattle.model.specs.Maps.{point_limit}
use Rattle.model.specs.Saved.{point_in_file}
use Rattle.saved.proofs.Tables.{until_from}
use Rattle.loading.proofs.reading.points_in.Goals as goal

pub loop-k-init : goal.loop-k-init
loop-k-init c =
    none_in_front (length-replicate point_limit origin)
    (λ j h l.
    replicate_at point_limit origin j ∙ sym (until_from c.args.count (point_in_file c.args.file.now) (λ i. origin) j h))

pub returns : goal.returns
returns c = all_filled point_limit (all_in_front c.loop-k.k c.loop-k.invariant (omega arith)) (omega arith)
