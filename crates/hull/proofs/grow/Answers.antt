-- `hull::grow` meets its contract: the number of points decides.
use mathlib.Core.Path.{◌∙◌, ap}
use Rattle.model.specs.declared.Arrival.{Arrival}
use Rattle.model.specs.Arrival.{arrived}
use Rattle.hull.proofs.Cases.{first, second, later}
use Rattle.hull.proofs.grow.Goals as goal

pub returns-then-map-eq0 : goal.returns-then-map-eq0
returns-then-map-eq0 c =
    ap (arrived Arrival.First) c.put_alone.ensures ∙ first c.args.map.now c.args.p c.if-map-eq0.true

pub returns-then-map-eq1 : goal.returns-then-map-eq1
returns-then-map-eq1 c =
    ap (arrived Arrival.Second) c.put_pair.ensures ∙ second c.args.map.now c.args.p c.if-map-eq1.true

pub returns : goal.returns
returns c = c.grow_later.ensures ∙ later c.args.map.now c.args.p c.if-map-eq0.false c.if-map-eq1.false
