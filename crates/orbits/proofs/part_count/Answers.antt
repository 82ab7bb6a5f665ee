use mathlib.Core.Path.{sym, ◌∙◌}
use native.Mathlib.Omega.{arith}
use Rattle.orbits.specs.Links.{test_of}
use Rattle.orbits.proofs.Counts.{counting_none, counting_small, counting_same, counting_skip, counting_ready, counting_part, counting_ends}
use Rattle.orbits.proofs.part_count.Goals as goal
use Rattle.orbits.proofs.part_count.Goals.{then-is_unseen, else-is_unseen}

pub loop-a-init : goal.loop-a-init
loop-a-init c = counting_none c.args.f.now c.args.g.now c.args.n (test_of c.args.present.now) c.empty-queue.ensures

pub visit-requires : goal.visit-requires
visit-requires c =
    counting_ready c.requires c.loop-a.invariant c.loop-a-test.true (sym c.is_unseen.ensures ∙ c.if-is_unseen.true)

pub overflow_add-parts : goal.overflow_add-parts
overflow_add-parts c =
    omega (arith, counting_small c.loop-a.invariant, c.loop-a.invariant.within, c.requires.within)

pub loop-a-preserved : goal.loop-a-preserved
loop-a-preserved c =
    elim c.if-is_unseen.branch [
      | then-is_unseen w ↦
          counting_same w.queue-is w.parts-is
          (counting_part c.requires c.loop-a.invariant c.loop-a-test.true
          (sym c.is_unseen.ensures ∙ w.if-is_unseen.true) w.visit.ensures)
      | else-is_unseen w ↦
          counting_same w.queue-is w.parts-is
          (counting_skip c.requires c.loop-a.invariant c.loop-a-test.true
          (sym c.is_unseen.ensures ∙ w.if-is_unseen.false))
    ]

pub returns : goal.returns
returns c = counting_ends c.loop-a.invariant c.loop-a-test.false
