-- `sight::seen_from` meets its contract: where what is visible turns at two corners, and where
-- nothing is visible, p is not beyond; else it is.
use mathlib.Core.Path.{◌≡◌, sym, ap, ◌∙◌}
use lib.Dec.{T}
use Rattle.model.specs.declared.Point.{Point}
use Rattle.model.specs.declared.Map.{Map}
use Rattle.model.specs.Arrival.{is_beyond}
use Rattle.sight.specs.declared.Seen.{Seen}
use Rattle.sight.specs.Requires.{OutlineFor}
use Rattle.sight.specs.Sight.{turning, seen}
use Rattle.sight.proofs.Beyond.{beyond_by_turning, not_beyond_by_turning, not_beyond_unseen}
use Rattle.sight.proofs.Beyond.{seen_turning, seen_beyond}
use Rattle.sight.proofs.seen_from.Goals as goal

-- what is seen round the outline
module _ {m : Map} {p : Point} (o : OutlineFor m p) (t : Seen) (round_is : t ≡ turning m p) where
  -- nothing is visible
  seen_unseen : t.visible ≡ 0 → t ≡ seen m p
  seen_unseen none =
      round_is
      ∙ seen_turning o.accepted o.two
      (not_beyond_unseen o.accepted o.two (sym (ap (λ (s : Seen). s.visible) round_is) ∙ none))

  -- what is visible turns at two corners
  seen_apart : ¬ (t.left ≡ t.right) → t ≡ seen m p
  seen_apart apart =
      let left = ap (λ (s : Seen). s.left) round_is in
      let right = ap (λ (s : Seen). s.right) round_is in
      round_is
      ∙ seen_turning o.accepted o.two
      (not_beyond_by_turning o.accepted o.two (λ e. apart (left ∙ e ∙ sym right)))

  -- some edge is visible, and that turns nowhere
  found_beyond : ¬ (t.visible ≡ 0) → t.left ≡ t.right → T (is_beyond m p)
  found_beyond some nowhere =
      beyond_by_turning o.accepted o.two
      (λ e. some (ap (λ (s : Seen). s.visible) round_is ∙ e))
      (sym (ap (λ (s : Seen). s.left) round_is) ∙ nowhere ∙ ap (λ (s : Seen). s.right) round_is)

pub returns-then-turning-eq0 : goal.returns-then-turning-eq0
returns-then-turning-eq0 c = seen_unseen c.args.outlook.outline _ c.turning_from-turning.ensures c.if-turning-eq0.true

pub returns-then-turning : goal.returns-then-turning
returns-then-turning c = seen_apart c.args.outlook.outline _ c.turning_from-turning.ensures c.if-turning.true

pub farther_corner-far-requires : goal.farther_corner-far-requires
farther_corner-far-requires c =
    found_beyond c.args.outlook.outline _ c.turning_from-turning.ensures c.if-turning-eq0.false c.if-turning.false

pub returns : goal.returns
returns c =
    let o = c.args.outlook.outline in
    let round_is = c.turning_from-turning.ensures in
    (λ i. record { left = c.farther_corner-far.ensures i; right = c.farther_corner-far.ensures i; visible = (round_is i).visible })
    ∙ seen_beyond o.accepted o.two (found_beyond o _ round_is c.if-turning-eq0.false c.if-turning.false)
