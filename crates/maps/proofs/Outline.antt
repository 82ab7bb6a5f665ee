-- The outline of a sound map with two points or more: it begins with the reference's point, is a
-- circuit of two corners or more, its darts are just what is reached from the reference, and every
-- present dart whose part is closed is among them.
-- No link fixes a dart of the reference's part. So from an own dart of it the edge link leads to a
-- helper, and the point link on to the own dart of the next corner: `next_corner` leads from the points whose
-- own darts are reached to such points, no two to the same. So it comes back, and `ring` runs
-- through all of them.
use mathlib.Core.Path.{◌≡◌, refl, sym, ap, subst, ◌∙◌}
use mathlib.Core.Logic.{◌≢◌, ◌↔◌, ⊎_elim}
use mathlib.Core.Bool.{Bool}
use mathlib.Core.List.{List, [], ◌∷◌, ◌++◌}
use Prim.Native.Nat.{ℕ, ◌≤◌, ◌<◌}
use native.Mathlib.Omega.{arith}
use lib.Dec.{T}
use lib.ListN.{length}
use borrow.Author.Tests.{lt-ltb}
use Rattle.finite.specs.Bounded.{lt_or_ge}
use Rattle.finite.specs.Lists.{elem}
use Rattle.finite.specs.ListLaws.{elem_head, elem_one}
use Rattle.finite.specs.Cycles.{Cycle}
use Rattle.finite.specs.CycleLaws.{cycle_change}
use Rattle.orbits.specs.Reach.{Reach, here, reaches}
use Rattle.orbits.specs.Classes.{is_closed}
use Rattle.orbits.proofs.Reach.{Dart, reach_trans, reaches_sound, reaches_complete, by_first_link, by_second_link}
use Rattle.orbits.proofs.Permutations.{Permutes}
use Rattle.orbits.proofs.Classes.{closed_iff}
use Rattle.orbits.proofs.Rings.{Ringed, orbit_ringed, ringed_darts}
use Rattle.orbits.proofs.ClosedWalks.{ClosedPart, OneClosed, one_closed_at}
use Rattle.model.specs.declared.Map.{Map}
use Rattle.model.specs.Maps.{own, helper, owner, is_present, edge_link, point_link, dart_bound}
use Rattle.model.specs.Outline.{next_corner, previous_corner, outline}
use Rattle.model.specs.Shape.{Shaped}
use Rattle.maps.proofs.Darts.{owner_own, own_dart, own_injective, present_owner, present_dart, point_helper}
use Rattle.maps.proofs.Links.{Linked, sound_linked, links, DartOf, links_keep, links_symmetric, edge_injective, moved_own, moved_own_owned, next_owned, next_another}
use Rattle.maps.proofs.Circuits.{Edge, Circuit, circuit_next, circuit_previous, circuit_both_ways, circuit_rotate, circuit_outline, circuit_iff, circuit_dart, circuit_closed_part}

-- there is an outline only with two points or more
pub outline_two : (m : Map) (a : ℕ) → T (elem a (outline m)) → 2 ≤ m.count
unfolding outline elem
outline_two m a h =
    ⊎_elim (λ (few : m.count < 2). absurd (rw (lt-ltb m.count 2 few) at h)) (λ l. l)
    (lt_or_ge m.count 2)

-- a list from whose members f leads to other members has two
two_or_more : (f : ℕ → ℕ) (x : ℕ) (t : List ℕ) → T (elem x t) →
    ((a : ℕ) → T (elem a t) → T (elem (f a) t) × (f a ≢ a)) → 2 ≤ length t
unfolding elem
two_or_more f x [] h on = absurd h
two_or_more f x (a ∷ []) h on = let n = on a (elem_head a []) in absurd (n.1 (elem_one (f a) a n.0))
two_or_more f x (a ∷ b ∷ t) h on = omega arith

module _ {m : Map} (s : Shaped m) (two : 2 ≤ m.count) where
  linked : Linked m
  linked = sound_linked s

  -- ---- the part of the reference

  pub reference_dart : DartOf m m.reference
  reference_dart = present_dart m m.reference (s.outlined two).reference_present

  pub reference_is_own : m.reference ≡ own (owner m.reference)
  reference_is_own = own_dart m.reference (s.outlined two).reference_own

  pub reference_part : ClosedPart (edge_link m) (point_link m) m.reference
  reference_part = (closed_iff (links_keep linked) reference_dart).0 (s.outlined two).reference_closed

  -- the test that the own dart of k is reached from the reference
  on : ℕ → Bool
  on k = reaches (links m) (dart_bound m) m.reference (own k)

  reach_of : (k : ℕ) → T (on k) → Reach (links m) m.reference (own k)
  unfolding on
  reach_of k t = reaches_sound (links m) (dart_bound m) m.reference (own k) t

  on_by : (k : ℕ) → Reach (links m) m.reference (own k) → T (on k)
  unfolding on
  on_by k r = reaches_complete (links_keep linked) reference_dart r

  moves : (k : ℕ) → T (on k) → edge_link m (own k) ≢ own k
  moves k t = (reference_part (own k) (reach_of k t)).0

  -- edge link and then point link lead to the own dart of the next corner
  next_on : (k : ℕ) → T (on k) → T (on (next_corner m k))
  next_on k t =
      on_by (next_corner m k)
      (subst (Reach (links m) m.reference)
      (ap (point_link m) (moved_own s k (moves k t)) ∙ point_helper m (next_corner m k) (next_owned s k (moves k t)))
      (reach_trans (reach_of k t)
      (reach_trans (by_first_link (edge_link m) (point_link m) (own k))
      (by_second_link (edge_link m) (point_link m) (edge_link m (own k))))))

  next_permutes : Permutes m.count on (next_corner m)
  next_permutes =
      record {
        stays = λ {d = a} h.
            record {
              below = s.links.owned (next_corner m a) (next_owned s a (moves a h.is_present));
              is_present = next_on a h.is_present;
            };
        injective = λ {c = a} {d = b} h k e.
            own_injective
            (edge_injective linked
            (moved_own s a (moves a h.is_present) ∙
            (ap helper e ∙ sym (moved_own s b (moves b k.is_present)))));
      }

  first_on : Dart m.count on (owner m.reference)
  first_on =
      record {
        below = present_owner m m.reference (s.outlined two).reference_present;
        is_present = on_by (owner m.reference) (subst (Reach (links m) m.reference) reference_is_own here);
      }

  ringed_circuit : (t : List ℕ) → Ringed (next_corner m) (owner m.reference) t →
      Circuit m (owner m.reference ∷ t)
  ringed_circuit t r =
      record {
        all_distinct = r.all_distinct;
        below = λ a h. (at a h).below;
        helped = λ a h. moved_own_owned s a (moves a (at a h).is_present);
        edges =
            cycle_change (λ x y. next_corner m x ≡ y) (Edge m) (owner m.reference ∷ t)
            (λ x y h k e. moved_own s x (moves x (at x h).is_present) ∙ ap helper e) r.cycle;
      }
    where
      at : (a : ℕ) → T (elem a (owner m.reference ∷ t)) → Dart m.count on a
      at = ringed_darts next_permutes first_on r

  -- ---- the outline

  found : (t : List ℕ) × (outline m ≡ owner m.reference ∷ t) × Circuit m (owner m.reference ∷ t)
  found =
      let r = orbit_ringed next_permutes first_on in
      let c = ringed_circuit r.0 r.1 in
      (r.0, circuit_outline (owner m.reference) r.0 c two refl, c)

  -- it begins with the reference's point
  pub outline_begins : (t : List ℕ) × (outline m ≡ owner m.reference ∷ t)
  outline_begins = (found.0, found.1)

  pub outline_first : T (elem (owner m.reference) (outline m))
  outline_first = rw found.1 (elem_head (owner m.reference) found.0)

  -- no corner stands twice, each is a point with a helper, and edges lead round
  pub outline_circuit : Circuit m (outline m)
  outline_circuit = rw found.1 found.2

  -- so they do in the outline rotated
  pub outline_rotated : (s t u : List ℕ) → outline m ≡ s ++ t → t ++ s ≡ u → Circuit m u
  outline_rotated s t u e i = subst (Circuit m) i (circuit_rotate s t (subst (Circuit m) e outline_circuit))

  pub outline_both_ways : Cycle (λ a b. (next_corner m a ≡ b) × (previous_corner m b ≡ a)) (outline m)
  outline_both_ways = circuit_both_ways linked outline_circuit

  pub outline_next : (a : ℕ) → T (elem a (outline m)) →
      (edge_link m (own a) ≡ helper (next_corner m a)) × T (elem (next_corner m a) (outline m))
  outline_next = circuit_next outline_circuit

  pub outline_previous : (a : ℕ) → T (elem a (outline m)) →
      (edge_link m (helper a) ≡ own (previous_corner m a)) × T (elem (previous_corner m a) (outline m))
  outline_previous = circuit_previous linked outline_circuit

  -- its darts are just what is reached from the reference: those of the corners
  pub outline_reach : (d : ℕ) → Reach (links m) m.reference d ↔ T (elem (owner d) (outline m))
  outline_reach d = circuit_iff linked outline_circuit m.reference d outline_first

  -- "The corners are the points whose own darts lie on it."
  pub corners_on_it : (k : ℕ) → T (elem k (outline m)) ↔ Reach (links m) m.reference (own k)
  corners_on_it k = (
    λ h. (outline_reach (own k)).1 (rw (owner_own k) h),
    λ r. rw (owner_own k) at ((outline_reach (own k)).0 r),
  )

  pub next_differs : (a : ℕ) → T (elem a (outline m)) → next_corner m a ≢ a
  next_differs a h = next_another s a (reference_part (own a) ((corners_on_it a).0 h)).0

  -- two corners or more
  pub outline_long : 2 ≤ length (outline m)
  outline_long =
      two_or_more (next_corner m) (owner m.reference) (outline m) outline_first
      (λ a h. ((outline_next a h).1, next_differs a h))

  -- no other part is closed
  pub reference_closed_alone : OneClosed (dart_bound m) (is_present m) (edge_link m) (point_link m) m.reference
  reference_closed_alone = one_closed_at (links_symmetric linked) (s.outlined two).one_walk reference_dart reference_part

  pub closed_reached : (d : ℕ) → T (is_present m d) → T (is_closed (edge_link m) (point_link m) (dart_bound m) d) →
      Reach (links m) m.reference d
  closed_reached d h t =
      let dart = present_dart m d h in
      reference_closed_alone.every d dart ((closed_iff (links_keep linked) dart).0 t)

  -- so the members of every circuit are corners
  pub circuit_on_outline : (t : List ℕ) → Circuit m t → (a : ℕ) → T (elem a t) → T (elem a (outline m))
  circuit_on_outline t c a h =
      let on : T (elem (owner (own a)) t) = rw (owner_own a) h in
      (corners_on_it a).1
      (reference_closed_alone.every (own a) (circuit_dart c (own a) on) (circuit_closed_part linked c (own a) on))
