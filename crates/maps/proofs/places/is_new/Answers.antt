-- `maps::places::is_new` meets its contract: the slice is asked for a point equal to p.
use mathlib.Core.Path.{ap, ◌∙◌}
use mathlib.Core.Bool.{not}
use Rattle.maps.proofs.Equal.{none_same}
use Rattle.maps.proofs.places.is_new.Goals as goal

pub returns : goal.returns
returns c = ap not c.contains.ensures.value ∙ none_same c.args.points.now c.args.p
