-- `corners::listing::corners_of` meets its contract: an iteration lists one corner.
use mathlib.Core.Path.{◌≡◌, refl, ◌∙◌}
use Prim.Native.Nat.{ℕ}
use native.Mathlib.Nat.{sub-zero}
use native.Mathlib.Omega.{arith}
use lib.ListN.{length-replicate}
use Rattle.model.specs.Maps.{point_limit}
use Rattle.model.specs.Outline.{lowest_corner}
use Rattle.corners.proofs.CornerLoops.{lowest_is, listing_first, listing_last, listing_more, listing_end}
use Rattle.corners.proofs.CornerLoops.{listing_few}
use Rattle.corners.proofs.listing.corners_of.Goals as goal
use Rattle.corners.proofs.listing.corners_of.Goals.{After-lowest_corner-first}

pub returns-then-count-lt2 : goal.returns-then-count-lt2
returns-then-count-lt2 c = listing_few c.if-count-lt2.true refl

-- where the lowest corner was found
lowest : (c : After-lowest_corner-first) → c.lowest_corner-first.result ≡ lowest_corner c.args.sound.map.now
lowest c = c.lowest_corner-first.ensures ∙ lowest_is c.args.sound.shaped c.if-count-lt2.false

pub loop-i-init : goal.loop-i-init
loop-i-init c =
    listing_first c.args.sound.map.now c.lowest_corner-first.result (length-replicate {A = ℕ} point_limit 0)
    (sub-zero _)

pub loop-i-preserved : goal.loop-i-preserved
loop-i-preserved c =
    listing_more c.args.sound.map.now c.lowest_corner-first.result c.loop-i.invariant (omega arith)
    (omega (arith, c.args.sound.shaped.links.fits)) c.next_corner-a.ensures (omega arith) c.if-a-first.false

pub returns : goal.returns
returns c =
    let d = (goal.at.returns c).After-lowest_corner-first in
    listing_end c.args.sound.shaped c.if-count-lt2.false (lowest d) c.loop-i.invariant (omega arith) (omega arith)

pub returns-then-a-first : goal.returns-then-a-first
returns-then-a-first c =
    let d = (goal.at.returns-then-a-first c).After-lowest_corner-first in
    listing_end c.args.sound.shaped c.if-count-lt2.false (lowest d)
    (listing_last c.args.sound.map.now c.lowest_corner-first.result c.loop-i.invariant (omega arith)
    (omega (arith, c.args.sound.shaped.links.fits)) c.next_corner-a.ensures c.if-a-first.true)
    (omega arith) refl
