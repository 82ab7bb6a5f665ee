-- What the code reads from a sound map and takes for an index lies within the arrays, in the order of
-- this page: edge links; the corners; the left and the right corner.
use mathlib.Core.Path.{◌≡◌, sym, ap, subst}
use mathlib.Core.Logic.{⊎_elim}
use mathlib.Core.Bool.{Bool, true, false, cond}
use mathlib.Core.List.{List, [], ◌∷◌}
use Prim.Native.Nat.{ℕ, ◌≤◌, ◌<◌}
use native.Mathlib.Omega.{arith}
use lib.Dec.{T, T_not}
use lib.ListN.{get_or}
use Rattle.finite.specs.Tests.{decide}
use Rattle.finite.specs.Lists.{elem, first_in}
use Rattle.finite.specs.ListLaws.{elem_head, elem_tail}
use Rattle.finite.specs.ListLaws.{get_d_any}
use Rattle.orbits.specs.Sets.{dart_limit}
use Rattle.model.specs.declared.Point.{Point}
use Rattle.model.specs.declared.Map.{Map}
use Rattle.model.specs.Maps.{point_limit, own, owner, is_present, edge_link}
use Rattle.model.specs.Outline.{next_corner, outline}
use Rattle.model.specs.Shape.{Shaped}
use Rattle.model.specs.Arrival.{turning_left, turning_right, farther, left_corner, right_corner}
use Rattle.model.proofs.Shape.{present_below}
use Rattle.maps.proofs.Outline.{outline_circuit, outline_next}
use Rattle.linking.specs.Requires.{Spliceable}
use Rattle.sight.specs.Requires.{Accepted, OutlineFor}
use Rattle.sight.proofs.Beyond.{by_beyond}

-- ---- edge links

module _ {m : Map} (s : Shaped m) where
  -- the links of a dart are darts
  pub link_below : (d : ℕ) → d < dart_limit → edge_link m d < dart_limit
  link_below d h =
      ⊎_elim
      (λ (t : T (is_present m d)). omega (arith, present_below m (edge_link m d) (s.links.present d t), s.links.fits))
      (λ t. subst (λ (x : ℕ). x < dart_limit) (sym (s.links.absent d (T_not (is_present m d) t))) h)
      (decide (is_present m d))

-- ---- corners

-- a corner has its places: its own dart among the edge links, and its point
module _ {m : Map} {p : Point} (o : OutlineFor m p) (a : ℕ) (on : T (elem a (outline m))) where
  pub corner_below : a < point_limit
  corner_below =
      let s = o.accepted.is_sound in
      omega (arith, (outline_circuit s o.two).below a on, s.links.fits)

  -- the corner after it, as it is read
  pub next_read : owner (get_or m.edge (own a) 0) ≡ next_corner m a
  unfolding next_corner edge_link
  next_read =
      ap owner
      (get_d_any m.edge (own a) 0 (own a) (omega (arith, corner_below, o.accepted.is_sound.links.edge_whole)))

  pub next_on : T (elem (next_corner m a) (outline m))
  next_on = (outline_next o.accepted.is_sound o.two a on).1

-- the first member that passes, or else 0, is below a bound of all
first_below : (n : ℕ) (test : ℕ → Bool) (t : List ℕ) → 0 < n → ((a : ℕ) → T (elem a t) → a < n) →
    first_in test 0 t < n
unfolding first_in
first_below n test [] h below = h
first_below n test (a ∷ t) h below = go (test a) (first_below n test t h (λ x m. below x (elem_tail x a t m)))
  where
    go : (b : Bool) → first_in test 0 t < n → cond b a (first_in test 0 t) < n
    go true l = below a (elem_head a t)
    go false l = l

-- an accepted point may be put between its left and its right corner
pub spliceable : {m : Map} {p : Point} → Accepted m p → 2 ≤ m.count →
    Spliceable m (left_corner m p) (right_corner m p)
unfolding farther turning_left turning_right edge_link
spliceable {m} {p} a two =
    let below = (outline_circuit a.is_sound two).below in
    let corner : (test : ℕ → Bool) → first_in test 0 (outline m) < point_limit =
    λ test. omega (arith, a.room, first_below m.count test (outline m) (omega arith) below) in
    let corners =
    by_beyond a two (λ l r. (l < point_limit) × (r < point_limit)) (λ beyond. (corner _, corner _)) (λ n. (corner _, corner _)) in
    record {
      room = a.room;
      linked =
          record { left_below = corners.0; right_below = corners.1; links_below = link_below a.is_sound };
    }
