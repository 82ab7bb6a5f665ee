-- A shaped map with any corner's own dart for its reference is shaped: document 01 asks of the reference that it
-- is an own dart on the outline, and does not say which one.
use mathlib.Core.Path.{◌≡◌, refl}
use mathlib.Core.List.{List, ◌∷◌, ◌++◌}
use Prim.Native.Nat.{ℕ, ◌≤◌}
use lib.Dec.{T}
use Rattle.finite.specs.Lists.{elem}
use Rattle.finite.specs.ListLaws.{elem_head, elem_cut, elem_swap}
use Rattle.orbits.proofs.ClosedWalks.{ClosedPart}
use Rattle.model.specs.declared.Map.{Map}
use Rattle.model.specs.Maps.{own, owner, point, has_helper, is_present, edge_link, point_link, note}
use Rattle.model.specs.Outline.{next_corner, outline}
use Rattle.model.specs.Shape.{ShapedPoints, ShapedLinks, ShapedNotes, AllBeside, Shaped}
use Rattle.maps.proofs.Darts.{owner_own, is_own_own}
use Rattle.maps.proofs.Links.{DartOf}
use Rattle.maps.proofs.Circuits.{Circuit, circuit_outline}
use Rattle.maps.proofs.Outline.{outline_two, outline_rotated, outline_reach, reference_closed_alone}
use Rattle.maps.proofs.Soundness.{sound_with_outline}

-- the map with the own dart of point a for its reference
abbrev pub referring : Map → ℕ → Map
referring m a =
    record {
      points = m.points;
      helpers = m.helpers;
      edge = m.edge;
      notes = m.notes;
      count = m.count;
      reference = own a;
    }

module _ {m : Map} (s : Shaped m) (a : ℕ) (on : T (elem a (outline m))) where
  two : 2 ≤ m.count
  two = outline_two m a on

  cut : (u : List ℕ) × (v : List ℕ) × (outline m ≡ u ++ a ∷ v)
  cut = elem_cut a (outline m) on

  -- the outline from a on
  abbrev rest : List ℕ
  rest = cut.1 ++ cut.0

  circuit : Circuit (referring m a) (a ∷ rest)
  unfolding edge_link has_helper
  circuit =
      let c = outline_rotated s two cut.0 (a ∷ cut.1) (a ∷ rest) cut.2 refl in
      record { all_distinct = c.all_distinct; below = c.below; helped = c.helped; edges = c.edges }

  -- its members are the corners
  there : (b : ℕ) → T (elem b (outline m)) → T (elem b (a ∷ rest))
  there b h = elem_swap b cut.0 (a ∷ cut.1) (rw cut.2 at h)

  back : (b : ℕ) → T (elem b (a ∷ rest)) → T (elem b (outline m))
  back b h = rw cut.2 (elem_swap b (a ∷ cut.1) cut.0 h)

  every : (d : ℕ) → DartOf (referring m a) d →
      ClosedPart (edge_link (referring m a)) (point_link (referring m a)) d → T (elem (owner d) (a ∷ rest))
  unfolding is_present has_helper edge_link point_link
  every d h c = there (owner d) ((outline_reach s two d).0 ((reference_closed_alone s two).every d h c))

  others : AllBeside (referring m a) (a ∷ rest)
  unfolding point next_corner edge_link
  others b c h = (s.outlined two).others b c (back b h)

  points : ShapedPoints (referring m a)
  unfolding point
  points =
      let p = s.points in
      record {
        points_whole = p.points_whole;
        ranged = p.ranged;
        distinct = p.distinct;
        vacant = p.vacant;
      }

  links : ShapedLinks (referring m a)
  unfolding has_helper is_present edge_link
  links =
      let l = s.links in
      record {
        helpers_whole = l.helpers_whole;
        edge_whole = l.edge_whole;
        fits = l.fits;
        owned = l.owned;
        absent = l.absent;
        present = l.present;
        undone = l.undone;
        crossing = l.crossing;
        leaving = l.leaving;
        lone = l.lone;
      }

  notes : ShapedNotes (referring m a)
  unfolding note
  notes =
      let n = s.notes in
      record {
        notes_whole = n.notes_whole;
        fitting = n.fitting;
        unnoted = n.unnoted;
      }

  pub referring_shaped : Shaped (referring m a)
  referring_shaped =
      sound_with_outline points links notes two (a ∷ rest) circuit
      (circuit_outline a rest circuit two (owner_own a)) (is_own_own a) (rw (owner_own a) (elem_head a rest)) every
      others
