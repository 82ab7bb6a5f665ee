-- `listings::read_outline` meets its contract: the corners are read, then the room is checked, and then the
-- coordinates are written.
use Rattle.std.proofs.Common.{◌≡◌, sym, ap, ◌∙◌, true, not, ◌||◌, List, ◌≤◌, ◌<◌, arith, length, length-take-le}
use mathlib.Core.Bool.{or-true}
use borrow.Author.Tests.{lt-ltb, le-ltb}
use Rattle.std.proofs.lemmas.Result.{err_from_is_err_and}
use Rattle.finite.specs.Overwriting.{over}
use Rattle.model.specs.declared.Point.{Point}
use Rattle.model.specs.Lent.{is_short}
use Rattle.model.specs.Outlines.{coordinates, corners_spelt, outline_rules}
use Rattle.model.proofs.Lent.{by_refused, by_short, by_written}
use Rattle.polygons.proofs.Held.{zeros_ready}
use Rattle.listings.proofs.Listed.{listing_refused, listing_served, listing_points, listing_length, listing_few}
use Rattle.listings.proofs.read_outline.Goals as goal
use Rattle.listings.proofs.read_outline.Goals.{In_ok-count, then-lent-length-via-then-lent-length, then-lent-length-via-else-lent-length+then-not-room}

pub read_listing-requires : goal.read_listing-requires
read_listing-requires c = zeros_ready

pub returns-in_err-count : goal.returns-in_err-count
returns-in_err-count c =
    let p = err_from_is_err_and c.from_residual.result c.from_residual.ensures.1 in
    rw (p.1, p.2) (by_refused _ _ _ _ (listing_refused c.read_listing.ensures c.in_err-count.was))

-- so many points are in the array
few : (c : In_ok-count) → c.in_ok-count.count ≤ length c.read_listing.new.points
few c = listing_few c.read_listing.ensures c.in_ok-count.was

pub overflow_mul-length : goal.overflow_mul-length
overflow_mul-length c =
    omega (arith, few (goal.at.overflow_mul-length c).In_ok-count, c.read_listing.array_long)

pub returns-then-lent-length : goal.returns-then-lent-length
returns-then-lent-length c =
    let text = c.args.text.now in
    let lent = c.args.lent.now in
    let result = coordinates (corners_spelt text) in
    let size = listing_length c.read_listing.ensures c.in_ok-count.was in
    let short : (is_short result lent || not c.args.room) ≡ true =
    elim c.then-lent-length.branch [
      | then-lent-length-via-then-lent-length w ↦
          let no_room : length lent < length result = omega (arith, size, w.if-lent-length.true) in
          rw (lt-ltb (length lent) (length result) no_room)
      | then-lent-length-via-else-lent-length+then-not-room w ↦
          rw w.if-not-room.true (or-true (is_short result lent))
    ] in
    by_short (outline_rules text) (is_short result lent || not c.args.room) result _
    (listing_served c.read_listing.ensures c.in_ok-count.was) short

pub slice_bounds-points-end : goal.slice_bounds-points-end
slice_bounds-points-end c = few (goal.at.slice_bounds-points-end c).In_ok-count

pub slice_bounds-write_coordinates-end : goal.slice_bounds-write_coordinates-end
slice_bounds-write_coordinates-end c =
    let h = few (goal.at.slice_bounds-write_coordinates-end c).In_ok-count in
    sym (length-take-le c.in_ok-count.count c.read_listing.new.points h)

pub returns : goal.returns
returns c =
    let text = c.args.text.now in
    let lent = c.args.lent.now in
    let result = coordinates (corners_spelt text) in
    let size = listing_length c.read_listing.ensures c.in_ok-count.was in
    let enough : length result ≤ length lent = omega (arith, size, c.if-lent-length.false) in
    by_written (outline_rules text) (is_short result lent || not c.args.room) result _
    (listing_served c.read_listing.ensures c.in_ok-count.was)
    (rw (le-ltb (length lent) (length result) enough, c.if-not-room.false)) size
    (c.write_coordinates.ensures
    ∙ ap (λ (ps : List Point). over (coordinates ps) lent)
    (listing_points c.read_listing.ensures c.in_ok-count.was))
