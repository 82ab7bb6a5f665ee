-- What is true of a map that offers build, in the order of this page: of its points, its links, its notes and
-- its outline; `Shaped` is all of it. Document 01, "A sound map", sentence by sentence. That every sound map is
-- shaped is `sound_shaped` of hull/proofs/Sound.
-- Two sentences hold by construction: the point link is made from the helpers, so it joins 2k and 2k + 1
-- where the helper is present, fixes 2k else, and taken twice comes back; and dart 2k is present for every
-- point k by the definition of present darts.
use Rattle.std.specs.Prelude.{◌≡◌, ◌≢◌, List, ℕ, ◌%◌, ◌≤◌, ◌<◌, T, length}
use Rattle.finite.specs.Lists.{elem}
use Rattle.orbits.specs.Sets.{dart_limit}
use Rattle.orbits.specs.Classes.{is_closed, closed_walks}
use Rattle.model.specs.declared.Note.{Note}
use Rattle.model.specs.declared.Map.{Map}
use Rattle.model.specs.Plane.{origin, in_range, beside}
use Rattle.model.specs.Maps.{point_limit, no_dart, own, owner, is_own, point, has_helper, is_present, edge_link, point_link, note, no_note, dart_bound}
use Rattle.model.specs.Outline.{next_corner, outline}

-- the points
pub record ShapedPoints (m : Map) : Type 0 where
  pub points_whole : length m.points ≡ point_limit
  pub ranged : (k : ℕ) → k < m.count → T (in_range (point m k))
  pub distinct : (j k : ℕ) → j < k → k < m.count → point m j ≢ point m k
  pub vacant : (k : ℕ) → m.count ≤ k → point m k ≡ origin

-- the helpers and the links
pub record ShapedLinks (m : Map) : Type 0 where
  pub helpers_whole : length m.helpers ≡ point_limit
  pub edge_whole : length m.edge ≡ dart_limit
  pub fits : m.count ≤ point_limit
  pub owned : (k : ℕ) → T (has_helper m k) → k < m.count
  pub absent : (d : ℕ) → ¬ T (is_present m d) → edge_link m d ≡ d
  pub present : (d : ℕ) → T (is_present m d) → T (is_present m (edge_link m d))
  pub undone : (d : ℕ) → edge_link m (edge_link m d) ≡ d
  pub crossing : (d : ℕ) → edge_link m d ≢ d → d % 2 ≢ edge_link m d % 2
  pub leaving : (d : ℕ) → edge_link m d ≢ d → owner d ≢ owner (edge_link m d)
  pub lone : (k : ℕ) → ¬ T (has_helper m k) → edge_link m (own k) ≡ own k

-- what can be noted of a point
pub record Fitting (n : Note) : Type 0 where
  pub arrival_small : n.arrival ≤ 3
  pub left_small : n.left ≤ no_dart
  pub right_small : n.right ≤ no_dart

-- the notes
pub record ShapedNotes (m : Map) : Type 0 where
  pub notes_whole : length m.notes ≡ point_limit
  pub fitting : (k : ℕ) → Fitting (note m k)
  pub unnoted : (k : ℕ) → m.count ≤ k → note m k ≡ no_note

-- every other point lies beside each edge that leaves a corner of the list
abbrev pub AllBeside : Map → List ℕ → Type 0
AllBeside m s =
    (a c : ℕ) → T (elem a s) → c < m.count → c ≢ a → c ≢ next_corner m a →
    T (beside (point m a) (point m (next_corner m a)) (point m c))

-- the outline of two points or more
pub record ShapedOutline (m : Map) : Type 0 where
  pub one_walk : closed_walks (edge_link m) (point_link m) (dart_bound m) (is_present m) ≡ 1
  pub reference_own : T (is_own m.reference)
  pub reference_present : T (is_present m m.reference)
  pub reference_closed : T (is_closed (edge_link m) (point_link m) (dart_bound m) m.reference)
  pub others : AllBeside m (outline m)

-- fewer points
pub record Bare (m : Map) : Type 0 where
  pub no_helper : (k : ℕ) → ¬ T (has_helper m k)
  pub unreferenced : m.reference ≡ no_dart

pub record Shaped (m : Map) : Type 0 where
  pub points : ShapedPoints m
  pub links : ShapedLinks m
  pub notes : ShapedNotes m
  pub outlined : 2 ≤ m.count → ShapedOutline m
  pub bare : m.count < 2 → Bare m
