-- `listings::read_listing` meets its contract: the text's length is looked at, the corners are
-- read, and then they are tested.
use Rattle.std.proofs.Common.{◌≡◌, sym, ◌∙◌, Bool}
use Rattle.std.proofs.lemmas.Result.{err_from_is_err_and}
use Rattle.model.specs.declared.Refusal.{Refusal}
use Rattle.listings.proofs.Listed.{long_read, malformed_read, far_read, places_ranged, unlisted_read, listed_read}
use Rattle.listings.proofs.read_listing.Goals as goal

-- what a test told
told : {r t b : Bool} → r ≡ t → r ≡ b → t ≡ b
told e is = sym e ∙ is

pub returns-then-is_too_long : goal.returns-then-is_too_long
returns-then-is_too_long c = long_read (told c.is_too_long.ensures c.if-is_too_long.true)

pub returns-in_err-count : goal.returns-in_err-count
returns-in_err-count c =
    let none = c.in_err-count.ensures.ok_part in
    let refused : c.in_err-count.field-0.0 ≡ Refusal.BadOutline =
    let found = rw none at c.in_err-count.ensures.value in cc in
    let p = err_from_is_err_and c.from_residual.result c.from_residual.ensures.1 in
    rw (p.1, p.2, refused)
    (malformed_read (told c.is_too_long.ensures c.if-is_too_long.false) c.read_corners.ensures none)

pub returns-then-not-ranged : goal.returns-then-not-ranged
returns-then-not-ranged c =
    far_read (told c.is_too_long.ensures c.if-is_too_long.false) c.read_corners.ensures
    c.in_ok-count.ensures.ok_part c.if-not-ranged.true

pub is_listable-requires : goal.is_listable-requires
is_listable-requires c =
    places_ranged (told c.is_too_long.ensures c.if-is_too_long.false) c.read_corners.ensures
    c.in_ok-count.ensures.ok_part c.if-not-ranged.false

pub returns-then-not-is_listable : goal.returns-then-not-is_listable
returns-then-not-is_listable c =
    unlisted_read (told c.is_too_long.ensures c.if-is_too_long.false) c.read_corners.ensures
    c.in_ok-count.ensures.ok_part c.if-not-ranged.false c.read_corners.array_long
    (told c.is_listable.ensures c.if-not-is_listable.true)

pub returns : goal.returns
returns c =
    listed_read (told c.is_too_long.ensures c.if-is_too_long.false) c.read_corners.ensures
    c.in_ok-count.ensures.ok_part c.if-not-ranged.false c.read_corners.array_long
    (told c.is_listable.ensures c.if-not-is_listable.false)
