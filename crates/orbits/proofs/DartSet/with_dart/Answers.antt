-- `orbits::DartSet::with_dart` answers `with_dart`: the same set past the darts and at a member,
-- and else the set with the bit set by a mask.
use mathlib.Core.Path.{sym, ◌∙◌}
use borrow.Author.Tests.{lt-ltb, le-ltb}
use Rattle.orbits.specs.Sets.{dart_limit}
use Rattle.orbits.proofs.Sets.{with_past, with_member, with_by_mask}
use Rattle.orbits.proofs.DartSet.with_dart.Goals as goal

pub returns-then-d-ge-DART_LIMIT : goal.returns-then-d-ge-DART_LIMIT
returns-then-d-ge-DART_LIMIT c = sym (with_past c.args.self c.args.d c.if-d-ge-DART_LIMIT.true)

pub returns-then-contains : goal.returns-then-contains
returns-then-contains c = let a = c.args in
    let e = sym c.contains.ensures ∙ c.if-contains.true in
    sym (with_member a.self a.d c.if-d-ge-DART_LIMIT.false e)

pub returns-then-self-lt-DART_LIMIT : goal.returns-then-self-lt-DART_LIMIT
returns-then-self-lt-DART_LIMIT c = let a = c.args in
    with_by_mask a.self a.d _ c.if-d-ge-DART_LIMIT.false (sym c.contains.ensures ∙ c.if-contains.false)
    (rw (lt-ltb a.self.size dart_limit c.if-self-lt-DART_LIMIT.true))

pub returns-else-self-lt-DART_LIMIT : goal.returns-else-self-lt-DART_LIMIT
returns-else-self-lt-DART_LIMIT c = let a = c.args in
    with_by_mask a.self a.d _ c.if-d-ge-DART_LIMIT.false (sym c.contains.ensures ∙ c.if-contains.false)
    (rw (le-ltb a.self.size dart_limit c.if-self-lt-DART_LIMIT.false))
