-- `soundness::rebuild_in` meets its contract: each point is offered to the map that those before it have built.
use mathlib.Core.Path.{sym, ap, subst, ◌∙◌}
use Prim.Native.Nat.{◌+◌}
use native.Mathlib.Omega.{arith}
use Rattle.std.specs.Prelude.{Option}
use Rattle.finite.specs.Bounded.{table, length_table, get_or_table}
use Rattle.model.specs.declared.Offered.{Offered}
use Rattle.model.specs.Plane.{origin}
use Rattle.model.specs.Maps.{point_in}
use Rattle.admission.specs.Hashes.{with_hash}
use Rattle.admission.proofs.Hashing.{no_hashes_whole}
use Rattle.hull.proofs.Taking.{Taking, none_taken, Asked, one_refused, one_accepted, one_taken}
use Rattle.soundness.specs.Rebuilding.{rebuilt_in}
use Rattle.soundness.proofs.Rebuilding.{rebuilt_whole, rebuilt_part, ok_some, ok_none}
use Rattle.soundness.proofs.rebuild_in.Goals as goal
use Rattle.soundness.proofs.rebuild_in.Goals.{After-admission_hashed}

pub loop-k-init : goal.loop-k-init
loop-k-init c = rw (c.requires, c.empty-hashes.ensures) (none_taken _ no_hashes_whole)

-- an iteration, from what was found for its point
asked : (c : After-admission_hashed) →
    Asked (table c.args.count (point_in c.args.points.now)) c.loop-k.k c.loop-k.map c.loop-k.hashes c.point_in-p.result
    c.admission_hashed.result
asked c =
    let n = c.args.count in
    let P = point_in c.args.points.now in
    record {
      taking = c.loop-k.invariant;
      within = omega (arith, length_table n P);
      point_is = c.point_in-p.ensures ∙ sym (get_or_table n P c.loop-k.k origin (omega arith));
      found = c.admission_hashed.ensures;
    }

pub returns-in_err-accepted : goal.returns-in_err-accepted
returns-in_err-accepted c =
    let refused = ok_none _ (sym c.ok.ensures.value ∙ c.in_err-accepted.was) in
    ap (λ (o : Option Unit). rebuilt_in o c.loop-k.map) c.from_residual.ensures
    ∙ rebuilt_part _ refused.0
    (one_refused (asked (goal.at.returns-in_err-accepted c).After-admission_hashed) refused.0 refused.1)

pub grow-requires : goal.grow-requires
grow-requires c =
    one_accepted (asked (goal.at.grow-requires c).After-admission_hashed)
    (ok_some _ _ (sym c.ok.ensures.value ∙ c.in_ok-accepted.was))

pub loop-k-preserved : goal.loop-k-preserved
loop-k-preserved c =
    let taken =
    one_taken (asked (goal.at.loop-k-preserved c).After-admission_hashed)
    (ok_some _ _ (sym c.ok.ensures.value ∙ c.in_ok-accepted.was)) in
    rw c.put.ensures
    (subst
    (λ (o : Offered).
    Taking (table c.args.count (point_in c.args.points.now)) (c.loop-k.k + 1) o.map
    (with_hash c.loop-k.hashes c.in_ok-accepted.accepted.point))
    (sym c.grow.ensures) taken)

pub returns : goal.returns
returns c =
    rebuilt_whole c.loop-k.invariant (omega (arith, length_table c.args.count (point_in c.args.points.now)))
