use mathlib.Core.Path.{◌≡◌, sym, ap, ◌∙◌}
use mathlib.Core.Logic.{◌≢◌}
use mathlib.Core.List.{List}
use mathlib.Core.Bool.{false, not}
use Prim.Native.Nat.{ℕ}
use native.Mathlib.Omega.{arith}
use borrow.Author.Tests.{ne_eqb}
use lib.ListN.{length}
use Rattle.finite.specs.Loops.{below, one_failed, all_passed}
use Rattle.model.specs.declared.Point.{Point}
use Rattle.model.specs.Plane.{beside}
use Rattle.model.specs.Maps.{point_in}
use Rattle.maps.specs.Places.{aside_in}
use Rattle.maps.proofs.support.is_supporting_edge.Goals as goal

not_aside : (points : List Point) (a b c : ℕ) →
    beside (point_in points a) (point_in points b) (point_in points c) ≡ false → c ≢ a → c ≢ b →
    false ≡ aside_in points a b c
not_aside points a b c out not_a not_b = rw (ne_eqb c a not_a, ne_eqb c b not_b) (sym out)

pub returns-then-c-b : goal.returns-then-c-b
returns-then-c-b c =
    let read = c.loop-c.invariant in
    let out = (λ i. beside (sym read.0 i) (sym read.1 i) (point_in c.args.ranged.points.now c.loop-c.c))
    ∙ sym c.is_beside.ensures ∙ c.if-not-is_beside.true in
    one_failed
    (record {
      passed = read.2;
      found = not_aside c.args.ranged.points.now c.args.a c.args.b c.loop-c.c out c.if-c-a.true c.if-c-b.true;
    })
    (below (length c.args.ranged.points.now) _) (omega arith) (ap not (λ i. false))

pub returns : goal.returns
returns c = all_passed (below (length c.args.ranged.points.now) _) c.loop-c.invariant.2 (omega arith)
