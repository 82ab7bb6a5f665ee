-- `sight::farther_corner` meets its contract: the outline has two corners, and the test tells which
-- of them is the farther.
use mathlib.Core.Path.{◌≡◌, sym, ap, subst, ◌∙◌}
use mathlib.Core.Bool.{Bool}
use Prim.Native.Nat.{ℕ}
use lib.Dec.{T}
use Rattle.finite.specs.Tests.{of_true}
use Rattle.model.specs.declared.Point.{Point}
use Rattle.model.specs.declared.Map.{Map}
use Rattle.model.specs.Maps.{owner, point}
use Rattle.model.specs.Outline.{next_corner}
use Rattle.plane.specs.Between.{opposite}
use Rattle.maps.proofs.Outline.{outline_first}
use Rattle.sight.proofs.Beyond.{farther_this, farther_next}
use Rattle.sight.proofs.farther_corner.Goals as goal

-- what is tested, of the first corner and the next
module _ (m : Map) (p : Point) (a : ℕ) {ahead : Bool} {b : ℕ} {q r : Point} (next : b ≡ next_corner m a)
    (tested : ahead ≡ opposite q p r) (from : q ≡ point m a) (to : r ≡ point m b) where
  test_is : ahead ≡ opposite (point m a) p (point m (next_corner m a))
  test_is = tested ∙ (λ i. opposite (from i) p (to i)) ∙ ap (λ (c : ℕ). opposite (point m a) p (point m c)) next

pub returns-then-ahead : goal.returns-then-ahead
returns-then-ahead c =
    let o = c.args.outlook.outline in
    farther_this o.accepted o.two c.requires (owner c.args.outlook.map.now.reference)
    (outline_first o.accepted.is_sound o.two)
    (of_true _
    (sym (test_is c.args.outlook.map.now c.args.outlook.point (owner c.args.outlook.map.now.reference) c.next_corner-b.ensures c.are_opposite-ahead.ensures c.point.ensures c.point-2.ensures)
    ∙ c.if-ahead.true))

pub returns-else-ahead : goal.returns-else-ahead
returns-else-ahead c =
    let o = c.args.outlook.outline in
    c.next_corner-b.ensures
    ∙ farther_next o.accepted o.two c.requires (owner c.args.outlook.map.now.reference)
    (outline_first o.accepted.is_sound o.two)
    (λ t.
    subst T
    (sym (test_is c.args.outlook.map.now c.args.outlook.point (owner c.args.outlook.map.now.reference) c.next_corner-b.ensures c.are_opposite-ahead.ensures c.point.ensures c.point-2.ensures)
    ∙ c.if-ahead.false)
    t)
