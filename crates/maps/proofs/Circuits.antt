-- Circuits, in the order of this page: a list of points round which edges lead, each point's own dart
-- linked with the next one's helper; the corner after and before a member; a circuit rotated; the
-- corners from its first member, so the outline, are the circuit; its darts are just what is reached
-- from any of them, and no link fixes one.
-- The links undo themselves and keep the present darts (`Linked`); the map need not be sound.
use mathlib.Core.Path.{◌≡◌, sym, ap, subst, ◌∙◌}
use mathlib.Core.Logic.{◌≢◌, ◌↔◌}
use mathlib.Core.List.{List, [], ◌∷◌, ◌++◌, append-nil}
use Prim.Native.Nat.{ℕ, ◌≤◌, ◌<◌}
use native.Mathlib.Omega.{arith}
use lib.Dec.{T}
use lib.ListN.{length}
use borrow.Author.Tests.{le-ltb}
use Rattle.finite.specs.Counting.{count_small}
use Rattle.finite.specs.Lists.{elem, distinct}
use Rattle.finite.specs.ListLaws.{elem_swap}
use Rattle.finite.specs.Distinct.{length_distinct, distinct_swap}
use Rattle.finite.specs.Cycles.{Cycle, cycle_rotate}
use Rattle.finite.specs.CycleLaws.{cycle_change, cycle_after, cycle_before, cycle_holds, ring_of_cycle}
use Rattle.orbits.specs.Reach.{Reach, here}
use Rattle.orbits.specs.Classes.{is_closed}
use Rattle.orbits.proofs.Reach.{reach_trans, reach_sym, by_first_link, by_second_link}
use Rattle.orbits.proofs.Permutations.{involution_permutes, part_holds}
use Rattle.orbits.proofs.Classes.{closed_iff}
use Rattle.orbits.proofs.ClosedWalks.{ClosedPart}
use Rattle.model.specs.declared.Map.{Map}
use Rattle.model.specs.Maps.{own, helper, owner, has_helper, edge_link, point_link, dart_bound}
use Rattle.model.specs.Outline.{next_corner, previous_corner, corners_from, outline}
use Rattle.maps.proofs.Darts.{owner_own, owner_helper, own_differs, each_dart, both_present, present_dart, point_own, point_helper, point_owner}
use Rattle.maps.proofs.Links.{Linked, links, DartOf, point_involutes, edge_involutes, links_keep, links_symmetric}

-- an edge from corner a to corner b "links a's own dart with b's helper"
abbrev pub Edge : Map → ℕ → ℕ → Type 0
Edge m a b = edge_link m (own a) ≡ helper b

pub edge_next : (m : Map) (a b : ℕ) → Edge m a b → next_corner m a ≡ b
unfolding next_corner
edge_next m a b e = ap owner e ∙ owner_helper b

pub edge_back : {m : Map} → Linked m → (a b : ℕ) → Edge m a b → edge_link m (helper b) ≡ own a
edge_back {m} l a b e = ap (edge_link m) (sym e) ∙ l.undone (own a)

pub edge_previous : {m : Map} → Linked m → (a b : ℕ) → Edge m a b → previous_corner m b ≡ a
unfolding previous_corner
edge_previous l a b e = ap owner (edge_back l a b e) ∙ owner_own a

-- points with helpers, no two the same, round which edges lead
pub record Circuit (m : Map) (s : List ℕ) : Type 0 where
  pub all_distinct : T (distinct s)
  pub below : (a : ℕ) → T (elem a s) → a < m.count
  pub helped : (a : ℕ) → T (elem a s) → T (has_helper m a)
  pub edges : Cycle (Edge m) s

-- a circuit may begin at any of its members
pub circuit_rotate : {m : Map} (s t : List ℕ) → Circuit m (s ++ t) → Circuit m (t ++ s)
circuit_rotate {m} s t c =
    record {
      all_distinct = distinct_swap s t c.all_distinct;
      below = λ a h. c.below a (elem_swap a t s h);
      helped = λ a h. c.helped a (elem_swap a t s h);
      edges = rotated s t c.edges;
    }
  where
    rotated : (s t : List ℕ) → Cycle (Edge m) (s ++ t) → Cycle (Edge m) (t ++ s)
    rotated s [] e = rw append-nil at e
    rotated s (x ∷ t) e = cycle_rotate (Edge m) s x t e

module _ {m : Map} {s : List ℕ} (c : Circuit m s) where
  pub circuit_next : (a : ℕ) → T (elem a s) → Edge m a (next_corner m a) × T (elem (next_corner m a) s)
  circuit_next a h =
      let n = cycle_after (Edge m) a s c.edges h in
      rw (edge_next m a n.0 n.2) (n.2, n.1)

  circuit_length : length s ≤ m.count
  circuit_length =
      omega (arith, length_distinct m.count s c.all_distinct c.below, count_small m.count (λ k. elem k s))

  pub circuit_dart : (d : ℕ) → T (elem (owner d) s) → DartOf m d
  circuit_dart d h = present_dart m d (both_present m d (c.below (owner d) h) (c.helped (owner d) h))

-- ---- the outline

pub circuit_corners : {m : Map} (a : ℕ) (t : List ℕ) → Circuit m (a ∷ t) → corners_from m a ≡ a ∷ t
unfolding corners_from
circuit_corners {m} a t c =
    ring_of_cycle (next_corner m) a t m.count
    (cycle_change (Edge m) (λ x y. next_corner m x ≡ y) (a ∷ t) (λ x y h k e. edge_next m x y e) c.edges) c.all_distinct
    (circuit_length c)

pub circuit_outline : {m : Map} (a : ℕ) (t : List ℕ) → Circuit m (a ∷ t) → 2 ≤ m.count →
    owner m.reference ≡ a → outline m ≡ a ∷ t
unfolding outline
circuit_outline {m} a t c two e = rw (le-ltb m.count 2 two, e) (circuit_corners a t c)

-- ---- the darts of a circuit

module _ {m : Map} (l : Linked m) {s : List ℕ} (c : Circuit m s) where
  pub circuit_previous : (a : ℕ) → T (elem a s) →
      (edge_link m (helper a) ≡ own (previous_corner m a)) × T (elem (previous_corner m a) s)
  circuit_previous a h =
      let p = cycle_before (Edge m) a s c.edges h in
      rw (edge_previous l p.0 a p.2) (edge_back l p.0 a p.2, p.1)

  -- next and previous corner undo each other round the circuit
  pub circuit_both_ways : Cycle (λ a b. (next_corner m a ≡ b) × (previous_corner m b ≡ a)) s
  circuit_both_ways =
      cycle_change (Edge m) (λ a b. (next_corner m a ≡ b) × (previous_corner m b ≡ a)) s
      (λ a b h k e. (edge_next m a b e, edge_previous l a b e)) c.edges

  edge_stays : (d : ℕ) → T (elem (owner d) s) → T (elem (owner (edge_link m d)) s)
  edge_stays =
      each_dart (λ d. T (elem (owner d) s) → T (elem (owner (edge_link m d)) s))
      (λ k h.
      let n = circuit_next c k (rw (owner_own k) at h) in
      rw (n.0, owner_helper (next_corner m k)) n.1)
      (λ k h.
      let p = circuit_previous k (rw (owner_helper k) at h) in
      rw (p.0, owner_own (previous_corner m k)) p.1)

  -- what is reached from a dart of the circuit lies on it
  pub circuit_stays : {d e : ℕ} → Reach (links m) d e → T (elem (owner d) s) → T (elem (owner e) s)
  circuit_stays {d} r h =
      part_holds (involution_permutes (edge_involutes l)) (involution_permutes (point_involutes m))
      (λ x. T (elem (owner x) s)) (circuit_dart c d h) (λ x k q. edge_stays x q) (λ x k q. rw (point_owner m x) q) r h

  reach_own : (a b : ℕ) → T (elem a s) → T (elem b s) → Reach (links m) (own a) (own b)
  reach_own a b h k =
      (cycle_holds (Edge m) (λ x. T (elem x s) × Reach (links m) (own a) (own x))
      (λ x y e q.
      let n = circuit_next c x q.0 in
      let on : T (elem y s) = rw (edge_next m x y e) at n.1 in (
        on,
        subst (Reach (links m) (own a)) (ap (point_link m) e ∙ point_helper m y (c.helped y on))
            (reach_trans q.1
            (reach_trans (by_first_link (edge_link m) (point_link m) (own x))
            (by_second_link (edge_link m) (point_link m) (edge_link m (own x))))),
      ))
      a b s c.edges h k (h, here)).1

  own_reach : (d : ℕ) → T (elem (owner d) s) → Reach (links m) (own (owner d)) d
  own_reach =
      each_dart (λ d. T (elem (owner d) s) → Reach (links m) (own (owner d)) d)
      (λ k h. rw (owner_own k) here)
      (λ k h.
      rw (owner_helper k)
      (subst (Reach (links m) (own k)) (point_own m k (c.helped k (rw (owner_helper k) at h)))
      (by_second_link (edge_link m) (point_link m) (own k))))

  -- and all of the circuit is reached from it
  pub circuit_reach : (d e : ℕ) → T (elem (owner d) s) → T (elem (owner e) s) → Reach (links m) d e
  circuit_reach d e h k =
      reach_trans
      (reach_sym (links_symmetric l) (circuit_dart c (own (owner d)) (rw (owner_own (owner d)) h)) (own_reach d h))
      (reach_trans (reach_own (owner d) (owner e) h k) (own_reach e k))

  -- a dart is reached from a dart of the circuit just where its point is a member
  pub circuit_iff : (d e : ℕ) → T (elem (owner d) s) → Reach (links m) d e ↔ T (elem (owner e) s)
  circuit_iff d e h = (λ r. circuit_stays r h, λ k. circuit_reach d e h k)

  -- no link fixes a dart of the circuit
  circuit_moves : (d : ℕ) → T (elem (owner d) s) → (edge_link m d ≢ d) × (point_link m d ≢ d)
  circuit_moves =
      each_dart (λ d. T (elem (owner d) s) → (edge_link m d ≢ d) × (point_link m d ≢ d))
      (λ k h.
      let on = rw (owner_own k) at h in (
        λ e. own_differs k (next_corner m k) (sym e ∙ (circuit_next c k on).0),
        λ e. own_differs k k (sym e ∙ point_own m k (c.helped k on)),
      ))
      (λ k h.
      let on = rw (owner_helper k) at h in (
        λ e. own_differs (previous_corner m k) k (sym (circuit_previous k on).0 ∙ e),
        λ e. own_differs k k (sym (point_helper m k (c.helped k on)) ∙ e),
      ))

  pub circuit_closed_part : (d : ℕ) → T (elem (owner d) s) → ClosedPart (edge_link m) (point_link m) d
  circuit_closed_part d h e r = circuit_moves e (circuit_stays r h)

  pub circuit_closed : (d : ℕ) → T (elem (owner d) s) →
      T (is_closed (edge_link m) (point_link m) (dart_bound m) d)
  circuit_closed d h = (closed_iff (links_keep l) (circuit_dart c d h)).1 (circuit_closed_part d h)
