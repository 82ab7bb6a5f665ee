-- `removal::unsplice` meets its contract: what its calls ensure makes it up, and the links lead to darts.
use mathlib.Core.Path.{◌≡◌}
use mathlib.Core.Logic.{◌≢◌}
use mathlib.Core.List.{List}
use Prim.Native.Nat.{ℕ, ◌<◌}
use native.Mathlib.Omega.{arith}
use lib.ListN.{length, get_or}
use Rattle.finite.specs.ListLaws.{get_d_any}
use Rattle.orbits.specs.Sets.{dart_limit}
use Rattle.orbits.specs.Links.{link_of}
use Rattle.model.specs.Maps.{no_dart, own, helper}
use Rattle.linking.proofs.Cutting.{cut_below}
use borrow.Author.Rules.{rules}
use Rattle.removal.specs.Unlinking.{Unspliceable}
use Rattle.removal.proofs.Unlinking.{joined_alone, joined_freed}
use Rattle.removal.proofs.unsplice.Goals as goal

module _ {edge : List ℕ} {k left right : ℕ} (whole : length edge ≡ dart_limit)
    (u : Unspliceable edge k left right) where
  -- the default does not matter within the array, and what stands there is a dart
  partner : (d : ℕ) → d < dart_limit → get_or edge d 0 ≡ link_of edge d
  partner d h = get_d_any edge d 0 d (omega arith)

  partner_below : (d : ℕ) → d < dart_limit → get_or edge d 0 < dart_limit
  partner_below d h = rw (partner d h) (u.links_below d h)

  -- the partners of the helper and of the own dart
  left_partner : get_or edge (helper k) 0 < dart_limit
  left_partner = partner_below (helper k) (omega (arith, u.room))

  right_partner : get_or edge (own k) 0 < dart_limit
  right_partner = partner_below (own k) (omega (arith, u.room))

  -- where darts were freed, all four that are joined are darts
  all_below : left ≢ no_dart →
      (get_or edge (helper k) 0 < dart_limit) × (get_or edge (own k) 0 < dart_limit)
      × (left < dart_limit) × (right < dart_limit)
  all_below n = (left_partner, right_partner, u.left_below n, u.right_below n)

pub cut-requires : goal.cut-requires
cut-requires c =
    let l = left_partner (search rules) c.requires in
    record { below = l; partner_below = c.requires.links_below _ l }

pub cut-requires-2 : goal.cut-requires-2
cut-requires-2 c =
    let e = c.args.edge.now in
    let l = left_partner (search rules) c.requires in
    let r = right_partner (search rules) c.requires in
    rw c.cut.ensures
    (record {
      below = r;
      partner_below = cut_below dart_limit e c.requires.links_below _ _ l r;
    })

pub join-requires : goal.join-requires
join-requires c = (left_partner (search rules) c.requires, right_partner (search rules) c.requires)

pub returns-then-left-eq-NO_DART : goal.returns-then-left-eq-NO_DART
returns-then-left-eq-NO_DART c =
    let k = c.args.k in
    let room = c.requires.room in
    let l = partner (search rules) c.requires (helper k) (omega (arith, room)) in
    let r = partner (search rules) c.requires (own k) (omega (arith, room)) in
    rw (c.join.ensures, c.cut-2.ensures, c.cut.ensures)
    (joined_alone k c.args.left c.args.right c.args.edge.now _ _ l r c.if-left-eq-NO_DART.true)

pub join-requires-2 : goal.join-requires-2
join-requires-2 c =
    let below = all_below (search rules) c.requires c.if-left-eq-NO_DART.false in
    (omega arith, omega arith)

pub join-requires-3 : goal.join-requires-3
join-requires-3 c =
    let below = all_below (search rules) c.requires c.if-left-eq-NO_DART.false in
    (omega arith, omega arith)

pub returns : goal.returns
returns c =
    let k = c.args.k in
    let room = c.requires.room in
    let l = partner (search rules) c.requires (helper k) (omega (arith, room)) in
    let r = partner (search rules) c.requires (own k) (omega (arith, room)) in
    rw (c.join-3.ensures, c.join-2.ensures, c.cut-2.ensures, c.cut.ensures)
    (joined_freed k c.args.left c.args.right c.args.edge.now _ _ l r c.if-left-eq-NO_DART.false)
