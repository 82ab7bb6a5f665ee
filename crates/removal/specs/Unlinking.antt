-- The arrays of a map without its last point, as the code makes them from what is noted of that point, in
-- the order of this page: the reference before it; the edge links before it; the map. That this is the map
-- before the last point is proofs/Undone.
use Rattle.std.specs.Prelude.{◌≢◌, Bool, cond, ◌||◌, List, ℕ, zero, suc, ◌<◌, eqb, set}
use Rattle.orbits.specs.Sets.{dart_limit}
use Rattle.orbits.specs.Links.{link_of}
use Rattle.model.specs.declared.Note.{Note}
use Rattle.model.specs.declared.Map.{Map}
use Rattle.model.specs.Plane.{origin}
use Rattle.model.specs.Maps.{point_limit, no_dart, own, helper, note_in, no_note}
use Rattle.model.specs.Arrival.{second_kind, outside_kind, cut, join}
use Rattle.model.specs.Removal.{last}

-- an arrival that moves the reference to its own dart
abbrev pub is_corner : ℕ → Bool
is_corner kind = eqb kind second_kind || eqb kind outside_kind

-- the own dart of the last of the first k points that arrived so
unfoldable pub latest : List Note → ℕ → ℕ
latest notes zero = no_dart
latest notes (suc k) = cond (is_corner (note_in notes k).arrival) (own k) (latest notes k)

-- the edge links before point k came between two corners and freed these darts: its own two are fixed, and
-- the partners that they had are joined with the freed darts again, or, where it freed none, with each
-- other
unfoldable pub unspliced : ℕ → ℕ → ℕ → List ℕ → List ℕ
unspliced k left right edge =
    let l = link_of edge (helper k) in
    let r = link_of edge (own k) in
    let parted = cut r (cut l edge) in
    cond (eqb left no_dart) (join l r parted) (join r right (join l left parted))

-- the map without its last point, with these helpers, edge links and reference
unfoldable pub without_last : Map → List Bool → List ℕ → ℕ → Map
without_last m helpers edge reference =
    record {
      points = set m.points (last m) origin;
      helpers = helpers;
      edge = edge;
      notes = set m.notes (last m) no_note;
      count = last m;
      reference = reference;
    }

-- edge links that lead to darts, and the darts that point k freed, or none
pub record Unspliceable (edge : List ℕ) (k left right : ℕ) : Type 0 where
  pub room : k < point_limit
  pub links_below : (d : ℕ) → d < dart_limit → link_of edge d < dart_limit
  pub left_below : left ≢ no_dart → left < dart_limit
  pub right_below : left ≢ no_dart → right < dart_limit
