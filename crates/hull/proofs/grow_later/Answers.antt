-- `hull::grow_later` meets its contract: what is seen from the point decides.
use mathlib.Core.Path.{◌≡◌, sym, subst, ◌∙◌, ap}
use native.Mathlib.Omega.{arith}
use Rattle.model.specs.declared.Point.{Point}
use Rattle.model.specs.declared.Map.{Map}
use Rattle.model.specs.declared.Arrival.{Arrival}
use Rattle.model.specs.declared.Offered.{Offered}
use Rattle.model.specs.Arrival.{arrived, spliced}
use Rattle.linking.specs.Requires.{Spliceable}
use Rattle.sight.specs.declared.Seen.{Seen}
use Rattle.sight.proofs.Indices.{spliceable}
use Rattle.hull.proofs.Cases.{inside, outside}
use Rattle.hull.proofs.grow_later.Goals as goal

pub returns-then-seen-eq0 : goal.returns-then-seen-eq0
returns-then-seen-eq0 c =
    let none : c.seen_from-seen.result.visible ≡ 0 = omega arith in
    ap (arrived Arrival.Inside) c.put_alone.ensures
    ∙ inside c.args.map.now c.args.p (sym (ap (λ (t : Seen). t.visible) c.seen_from-seen.ensures) ∙ none)

-- the point may be put between the two corners
pub put_between-requires : goal.put_between-requires
put_between-requires c =
    subst (λ (t : Seen). Spliceable c.args.map.now t.left t.right) (sym c.seen_from-seen.ensures)
    (spliceable c.requires.accepted c.requires.two)

-- an outside arrival, from what is seen
abbrev outcome : Map → Point → Seen → Offered
outcome m p t = arrived (Arrival.Outside t.left t.right t.visible) (spliced m p t.left t.right)

pub returns : goal.returns
returns c =
    let m = c.args.map.now in
    let p = c.args.p in
    let t = c.seen_from-seen.result in
    ap (arrived (Arrival.Outside t.left t.right t.visible)) c.put_between.ensures
    ∙ ap (outcome m p) c.seen_from-seen.ensures
    ∙ outside m p (λ z. absurd (omega (arith, ap (λ (u : Seen). u.visible) c.seen_from-seen.ensures, z)))
