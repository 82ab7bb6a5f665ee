-- `corners::query::placed` meets its contract: a step looks at one corner and the edge that leaves it.
use mathlib.Core.Path.{◌≡◌, ◌∙◌}
use mathlib.Core.Bool.{cond}
use lib.Dec.{ltb}
use Rattle.model.specs.declared.Placed.{Placed}
use Rattle.model.specs.Outline.{corners}
use Rattle.model.specs.Placing.{place_among}
use Rattle.maps.proofs.Equal.{derived_same}
use Rattle.corners.proofs.Views.{place_seen, edge_seen, inside_seen, outside_seen}
use Rattle.corners.proofs.Views.{corner_found, corner_looked, at_end}
use Rattle.corners.proofs.query.placed.Goals as goal
use Rattle.corners.proofs.query.placed.Goals.{After-loop-a}

-- what is gone round are the map's corners
are : (c : After-loop-a) → c.as_slice-a-items.result.now ≡ corners c.args.sound.map.now
are c = c.as_slice-a-items.ensures ∙ c.corners_of-list.ensures.members

ended : (c : After-loop-a) →
    place_seen c.args.sound.map.now c.args.p.point c.loop-a.view
    ≡ cond (ltb c.args.sound.map.now.count 2) Placed.NoOutline (place_among c.args.sound.map.now c.args.p.point)
ended c =
    at_end c.args.sound.map.now c.args.p.point (are c) c.loop-a.invariant c.loop-a-test.false c.if-map-lt2.false

pub returns-then-eq : goal.returns-then-eq
returns-then-eq c =
    corner_found c.args.sound.map.now c.args.p.point (c.as_slice-a-items.ensures ∙ c.corners_of-list.ensures.members)
    c.loop-a.invariant c.loop-a-test.true c.point-from.ensures (c.eq.ensures ∙ derived_same _ _) c.if-eq.true
    c.if-map-lt2.false

pub loop-a-preserved : goal.loop-a-preserved
loop-a-preserved c =
    corner_looked c.args.sound.map.now c.args.p.point (c.as_slice-a-items.ensures ∙ c.corners_of-list.ensures.members)
    c.loop-a.invariant c.loop-a-test.true c.point-from.ensures (c.eq.ensures ∙ derived_same _ _) c.if-eq.false
    c.next_corner.ensures c.point-to.ensures c.side_of.ensures c.with-view.ensures

pub returns-in-Some : goal.returns-in-Some
returns-in-Some c =
    edge_seen c.args.sound.map.now c.args.p.point c.loop-a.view c.in-Some.is c.next_corner-in-Some.ensures
    ∙ ended (goal.at.returns-in-Some c).After-loop-a

pub returns-in-None : goal.returns-in-None
returns-in-None c =
    inside_seen c.args.sound.map.now c.args.p.point c.loop-a.view c.in-None.is c.if-view.true
    ∙ ended (goal.at.returns-in-None c).After-loop-a

pub returns-in-None-2 : goal.returns-in-None-2
returns-in-None-2 c =
    outside_seen c.args.sound.map.now c.args.p.point c.loop-a.view c.in-None.is c.if-view.false
    ∙ ended (goal.at.returns-in-None-2 c).After-loop-a
