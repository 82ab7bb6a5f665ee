use mathlib.Core.Path.{◌∙◌}
use native.Mathlib.Omega.{arith}
use Rattle.std.proofs.lemmas.List.{get_or-take, length-take-le}
use Rattle.orbits.proofs.Queue.{queue_small, queued_none, queued_more}
use Rattle.orbits.proofs.visits.Queue.darts.Goals as goal

pub shared_ref_as_front-d-items : goal.shared_ref_as_front-d-items
shared_ref_as_front-d-items c = queue_small c.args.self.now

pub loop-d-init : goal.loop-d-init
loop-d-init c = c.empty-darts.ensures ∙ queued_none c.args.self.now.order

pub loop-d-preserved : goal.loop-d-preserved
loop-d-preserved c =
    let q = c.args.self.now in
    let whole = length-take-le q.end q.order (omega (arith, queue_small q, q.order_whole)) in
    let read = get_or-take q.end q.order c.loop-d.d-index 0 (omega (arith, whole, c.loop-d-test.true)) in
    c.with_dart-darts.ensures ∙ rw (c.loop-d.invariant, read) (queued_more q.order c.loop-d.d-index)
