-- `maps::arrays::point_link` meets its contract: the other dart of a point is the next one or the one before.
use mathlib.Core.Path.{◌≡◌, sym, ◌∙◌}
use mathlib.Core.Bool.{true}
use native.Mathlib.Omega.{arith}
use borrow.Author.Tests.{eq-eqb, ne_eqb}
use Prim.Native.Nat.{◌%◌}
use Rattle.model.specs.Maps.{owner, other_dart, has_helper, point_link}
use Rattle.maps.proofs.arrays.point_link.Goals as goal

pub returns-then-d-eq0 : goal.returns-then-d-eq0
unfolding point_link other_dart
returns-then-d-eq0 c =
    let helped : has_helper c.args.map.now (owner c.args.d) ≡ true =
    sym c.has_helper.ensures ∙ c.if-not-has_helper.false in
    rw (helped, eq-eqb (c.args.d % 2) 0 c.if-d-eq0.true) (omega arith)

pub returns-else-d-eq0 : goal.returns-else-d-eq0
unfolding point_link other_dart
returns-else-d-eq0 c =
    let helped : has_helper c.args.map.now (owner c.args.d) ≡ true =
    sym c.has_helper.ensures ∙ c.if-not-has_helper.false in
    rw (helped, ne_eqb (c.args.d % 2) 0 c.if-d-eq0.false) (omega arith)
