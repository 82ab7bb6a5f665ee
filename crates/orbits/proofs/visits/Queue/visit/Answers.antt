use Prim.Native.Nat.{◌<◌}
use native.Mathlib.Omega.{arith}
use lib.ListN.{get_or}
use Rattle.orbits.specs.Reach.{here}
use Rattle.orbits.specs.Sets.{dart_limit}
use Rattle.orbits.proofs.Queue.{queue_small, visit_begins, first_below, second_below, visit_step, visit_ends}
use Rattle.orbits.proofs.visits.Queue.visit.Goals as goal
use Rattle.orbits.proofs.visits.Queue.visit.Goals.{In-loop-head}

left : (c : In-loop-head) → c.loop-head.head < dart_limit
left c = omega (arith, c.loop-head-test.true, queue_small c.loop-head.self)

-- both links of the dart at `head`
links_below : (c : In-loop-head) → let a = get_or c.loop-head.self.order c.loop-head.head 0 in
    (get_or c.args.f.now a 0 < dart_limit) × (get_or c.args.g.now a 0 < dart_limit)
links_below c =
    let w = c.requires.within in
    let v = c.loop-head.invariant in
    (first_below w v c.loop-head-test.true, second_below w v c.loop-head-test.true)

pub put-requires : goal.put-requires
put-requires c = c.requires.within.below c.args.d here

pub loop-head-init : goal.loop-head-init
loop-head-init c = visit_begins c.requires c.put.ensures

pub offset_bounds-self-head : goal.offset_bounds-self-head
offset_bounds-self-head c = omega (arith, left (goal.at.offset_bounds-self-head c).In-loop-head)

pub bounds-self-head : goal.bounds-self-head
bounds-self-head c = left (goal.at.bounds-self-head c).In-loop-head

pub put-requires-in-loop-head : goal.put-requires-in-loop-head
put-requires-in-loop-head c = omega (arith, links_below (goal.at.put-requires-in-loop-head c).In-loop-head)

pub put-requires-in-loop-head-2 : goal.put-requires-in-loop-head-2
put-requires-in-loop-head-2 c = omega (arith, links_below (goal.at.put-requires-in-loop-head-2 c).In-loop-head)

pub loop-head-smaller : goal.loop-head-smaller
loop-head-smaller c = omega (arith, left (goal.at.loop-head-smaller c).In-loop-head)

pub loop-head-preserved : goal.loop-head-preserved
loop-head-preserved c =
    visit_step c.requires.within c.loop-head.invariant c.loop-head-test.true c.put-in-loop-head.ensures
    c.put-in-loop-head-2.ensures

pub returns : goal.returns
returns c = visit_ends c.loop-head.invariant c.loop-head-test.false
