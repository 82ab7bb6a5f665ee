-- `linking::splice` meets its contract: what its calls ensure makes it up, and the links that are cut lead to darts.
use mathlib.Core.Path.{refl}
use native.Mathlib.Omega.{arith}
use Rattle.orbits.specs.Sets.{dart_limit}
use Rattle.model.specs.Maps.{own, helper}
use Rattle.linking.proofs.Cutting.{cut_below}
use Rattle.linking.proofs.splice.Goals as goal

pub cut-requires-2 : goal.cut-requires-2
cut-requires-2 c =
    rw c.cut.ensures
    (record {
      below = omega arith;
      partner_below =
          cut_below dart_limit c.args.edge.now c.requires.linked.links_below (own c.args.left)
          (helper c.args.right) (omega arith) (omega arith);
    })

pub returns : goal.returns
returns c = (
  refl,
  rw (c.join-2.ensures, c.join.ensures, c.cut-2.ensures, c.cut.ensures),
)
