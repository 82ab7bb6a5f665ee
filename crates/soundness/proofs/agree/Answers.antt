-- `soundness::agree` meets its contract: each test is one of the definition's, and stands after those before it.
use mathlib.Core.Path.{◌≡◌, ◌∙◌}
use mathlib.Core.Bool.{Bool, beq, ◌&&◌}
use lib.Dec.{eqb}
use borrow.Author.Tests.{eq-eqb, ne_eqb}
use Rattle.finite.specs.Loops.{both_asked, one_asked}
use Rattle.finite.specs.Lists.{same_by, same_list}
use Rattle.model.specs.declared.Map.{Map}
use Rattle.model.specs.Plane.{same_point}
use Rattle.model.specs.Sound.{agree}
use Rattle.soundness.proofs.Agreeing.{same_points, same_notes}
use Rattle.soundness.proofs.agree.Goals as goal
use Rattle.soundness.proofs.agree.Goals.{Joined-same-2, then-m-n, else-m-n, then-m-n-2, else-m-n-2, then-same, else-same, then-same-2, else-same-2}

module _ (m n : Map) where
  abbrev numbers : Bool
  numbers = eqb m.count n.count && eqb m.reference n.reference

  abbrev points : Bool
  points = same_by same_point m.points n.points

  abbrev helpers : Bool
  helpers = same_by beq m.helpers n.helpers

  abbrev edges : Bool
  edges = same_list m.edge n.edge

-- what is found before the notes are compared
before : (c : Joined-same-2) → c.if-same-2.value ≡ (numbers c.args.m.now c.args.n.now && points c.args.m.now c.args.n.now && helpers c.args.m.now c.args.n.now && edges c.args.m.now c.args.n.now)
before c =
    let m = c.args.m.now in
    let n = c.args.n.now in
    let two : c.if-m-n.value ≡ numbers m n =
    elim c.if-m-n.branch [
      | then-m-n w ↦ rw (eq-eqb _ _ w.if-m-n.true) w.value-is
      | else-m-n w ↦ one_asked _ w.value-is (w.value-is ∙ ne_eqb _ _ w.if-m-n.false)
    ] in
    let three : c.if-m-n-2.value ≡ (numbers m n && points m n) =
    elim c.if-m-n-2.branch [
      | then-m-n-2 w ↦ w.value-is ∙ both_asked two w.if-m-n-2.true (w.same.ensures ∙ same_points _ _)
      | else-m-n-2 w ↦ w.value-is ∙ one_asked (points m n) two w.if-m-n-2.false
    ] in
    let four : c.if-same.value ≡ (numbers m n && points m n && helpers m n) =
    elim c.if-same.branch [
      | then-same w ↦ w.value-is ∙ both_asked three w.if-same.true w.same-then-same.ensures
      | else-same w ↦ w.value-is ∙ one_asked (helpers m n) three w.if-same.false
    ] in
    elim c.if-same-2.branch [
      | then-same-2 w ↦ w.value-is ∙ both_asked four w.if-same-2.true w.same-then-same-2.ensures
      | else-same-2 w ↦ w.value-is ∙ one_asked (edges m n) four w.if-same-2.false
    ]

pub returns-then-same-3 : goal.returns-then-same-3
unfolding agree
returns-then-same-3 c =
    both_asked (before (goal.at.returns-then-same-3 c).Joined-same-2) c.if-same-3.true
    (c.same-then-same-3.ensures ∙ same_notes _ _)

pub returns-else-same-3 : goal.returns-else-same-3
unfolding agree
returns-else-same-3 c =
    one_asked _ (before (goal.at.returns-else-same-3 c).Joined-same-2) c.if-same-3.false
