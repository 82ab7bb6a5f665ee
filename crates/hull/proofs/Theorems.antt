-- What holds of offers and outlines, each under one name, in the order of this page: an accepted point sees every
-- edge just where it is in line beyond one of two corners, and where it is not and sees some edge there is one left
-- corner and one right; one on an edge arrives as inside, and one beyond with the farther corner; three or more
-- corners turn strictly left; the outline is the hull. What an offer changes is in proofs/Changes:
-- `nothing_else_changes`; that it keeps a map sound, in proofs/Offers: `sound_kept`; demand 3, in proofs/History:
-- `always_balanced`.
use mathlib.Core.Path.{◌≡◌, sym, ap, subst, ◌∙◌}
use mathlib.Core.Logic.{◌≢◌, ◌↔◌}
use Prim.Native.Nat.{ℕ, ◌≤◌}
use native.Mathlib.Omega.{arith}
use lib.Dec.{T}
use lib.ListN.{length}
use Rattle.finite.specs.Tests.{is_true, is_false}
use Rattle.finite.specs.Lists.{elem}
use Rattle.finite.specs.Distinct.{count_in_none}
use Rattle.model.specs.declared.Point.{Point}
use Rattle.model.specs.declared.Map.{Map}
use Rattle.model.specs.declared.Arrival.{Arrival}
use Rattle.model.specs.declared.Offered.{Offered}
use Rattle.model.specs.Plane.{left_of, strictly_between}
use Rattle.model.specs.Maps.{point}
use Rattle.model.specs.Outline.{next_corner, previous_corner, outline, sees, visible_edges}
use Rattle.model.specs.Shape.{Shaped}
use Rattle.model.specs.Arrival.{turning_left, turning_right, is_beyond, farther, left_corner, right_corner, arrive}
use Rattle.plane.proofs.Betweenness.{between_of, seen_not_beside}
use Rattle.plane.proofs.Convex.{next_member, prev_next, turns_left}
use Rattle.plane.proofs.Corners.{LeftCorner, RightCorner, left_corner_unique, right_corner_unique}
use Rattle.plane.proofs.Aligned.{on_edge_beside}
use Rattle.plane.proofs.Hull.{Supports}
use Rattle.plane.proofs.Hull as plane_hull
use Rattle.sight.specs.Requires.{Accepted}
use Rattle.sight.proofs.Beyond.{sound_convex, AllSeen, other_point, all_seen, beyond_visible, all_seen_beyond, left_is, right_is}
use Rattle.hull.proofs.Cases.{later, inside, outside}

-- ---- every edge is visible just from a point in line beyond one of two corners; from any other that sees
-- some edge there is one left corner and one right

module _ {m : Map} {p : Point} (a : Accepted m p) (two : 2 ≤ m.count) where
  pub all_visible : AllSeen m p ↔ T (is_beyond m p)
  all_visible = (all_seen_beyond a two, all_seen a two)

  module _ (not_beyond : ¬ T (is_beyond m p)) (some : visible_edges m p ≢ 0) where
    pub left_corner_only : (c : ℕ) → LeftCorner (previous_corner m) (sees m p) (outline m) c → c ≡ left_corner m p
    unfolding sees left_corner
    left_corner_only c l =
        rw (is_false (is_beyond m p) not_beyond)
        (left_corner_unique (sound_convex a.is_sound two) p (other_point a two) c (turning_left m p) l
        (left_is a two not_beyond some))

    pub right_corner_only : (c : ℕ) → RightCorner (previous_corner m) (sees m p) (outline m) c → c ≡ right_corner m p
    unfolding sees right_corner
    right_corner_only c r =
        rw (is_false (is_beyond m p) not_beyond)
        (right_corner_unique (sound_convex a.is_sound two) p (other_point a two) c (turning_right m p) r
        (right_is a two not_beyond some))

  -- ---- "A point on an edge arrives as inside."

  pub on_edge_inside : (c : ℕ) → T (elem c (outline m)) →
      T (strictly_between (point m c) (point m (next_corner m c)) p) → (arrive m p).arrival ≡ Arrival.Inside
  unfolding visible_edges sees
  on_edge_inside c on t =
      let at_c = between_of (point m c) (point m (next_corner m c)) p t in
      let none : visible_edges m p ≡ 0 =
      count_in_none (sees m p) (outline m)
      (λ d k seen.
      seen_not_beside (point m d) (point m (next_corner m d)) p seen
      (on_edge_beside (sound_convex a.is_sound two) p c on at_c d k)) in
      ap (λ (o : Offered). o.arrival) (sym (inside m p none ∙ later m p (omega arith) (omega arith)))

  -- ---- "left and right are both the corner farther from the new point, and two edges are visible"; the other
  -- corner lies between that one and the point: `farther_ahead`

  pub beyond_outside : T (is_beyond m p) →
      (arrive m p).arrival ≡ Arrival.Outside (farther m p) (farther m p) 2
  unfolding left_corner right_corner
  beyond_outside beyond =
      let two_seen = beyond_visible a two beyond in
      ap (λ (o : Offered). o.arrival)
      (sym (outside m p (omega (arith, two_seen)) ∙ later m p (omega arith) (omega arith)))
      ∙ rw (is_true (is_beyond m p) beyond, two_seen)

-- ---- "three or more corners still turn strictly left"

pub corners_turn_left : {m : Map} → Shaped m → 2 ≤ m.count → 3 ≤ length (outline m) →
    (c : ℕ) → T (elem c (outline m)) →
    T (left_of (point m c) (point m (next_corner m c)) (point m (next_corner m (next_corner m c))))
corners_turn_left {m} s two three c on =
    let shape = sound_convex s two in
    subst (λ (x : ℕ). T (left_of (point m x) (point m (next_corner m c)) (point m (next_corner m (next_corner m c)))))
    (prev_next shape c on) (turns_left shape three (next_corner m c) (next_member shape c on))

-- ---- the outline is the hull: (a, b) is an outline edge if and only if a and b are different points of
-- the map and every other point lies beside it, left of it or on it between its ends

pub outline_is_hull : {m : Map} → Shaped m → 2 ≤ m.count → (a b : ℕ) →
    (T (elem a (outline m)) × (next_corner m a ≡ b)) ↔ Supports m.count (point m) a b
outline_is_hull s two = plane_hull.outline_is_hull (sound_convex s two)
