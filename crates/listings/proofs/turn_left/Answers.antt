use Rattle.std.proofs.Common.{ap, not, List, arith, length}
use lib.Dec.{leb, leb→le, le→leb}
use Rattle.finite.specs.Tests.{implies_use, implies_by}
use Rattle.finite.specs.Bounded.{all_at, all_by}
use Rattle.finite.specs.Loops.{Tests, one_failed, all_passed}
use Rattle.model.specs.declared.Point.{Point}
use Rattle.listings.specs.Listings.{turn_at, turns_at}
use Rattle.listings.proofs.turn_left.Goals as goal

tests : (cs : List Point) → Tests (turns_at cs) (turn_at cs) 2 (length cs)
unfolding turns_at
tests cs =
    record {
      each = λ t k h l. implies_use (leb 2 k) (turn_at cs k) (all_at (length cs) _ t k l) (le→leb 2 k h);
      whole =
          λ f. all_by (length cs) _ (λ k l. implies_by (leb 2 k) (turn_at cs k) (λ d. f k (leb→le 2 k d) l));
    }

pub returns-then-not-turns_left_to : goal.returns-then-not-turns_left_to
returns-then-not-turns_left_to c =
    one_failed (record { passed = c.loop-k.invariant; found = c.turns_left_to.ensures })
    (tests c.args.corners.points.now) (omega arith) (ap not c.if-not-turns_left_to.true)

pub returns : goal.returns
returns c = all_passed (tests c.args.corners.points.now) c.loop-k.invariant (omega arith)
