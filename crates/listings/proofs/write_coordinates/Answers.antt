use Rattle.std.proofs.Common.{arith, rules, get_or, ◌∙◌, w64}
use Rattle.std.proofs.lemmas.Int.{to_z-of_z}
use Rattle.finite.specs.Overwriting.{over_front, none_copied, all_copied}
use Rattle.model.specs.Plane.{origin}
use Rattle.listings.proofs.Listed.{source_length, pair_copied}
use Rattle.listings.proofs.write_coordinates.Goals as goal

pub loop-k-init : goal.loop-k-init
loop-k-init c = none_copied

pub loop-k-preserved : goal.loop-k-preserved
loop-k-preserved c =
    let points = c.args.points.now in
    let k = c.loop-k.k in
    let p = get_or points k origin in
    rw (to_z-of_z w64 p.x (search rules), to_z-of_z w64 p.y (search rules))
    (pair_copied points k c.loop-k.invariant c.loop-k-test.true c.requires)

pub returns : goal.returns
returns c =
    all_copied c.loop-k.invariant (omega (arith, source_length c.args.points.now, c.loop-k-test.false))
    ∙ over_front _ _
