-- Reading a map, in the order of this page: the links that lead to each kind of orbit; the counts;
-- the orbit of a dart; the walk from a dart; a walker. Each call with its rules and its value.
-- Document 01, "Reading a map". Parts are the field's connected components.
use Rattle.std.specs.Prelude.{not, List, [], ◌∷◌, ℕ}
use Rattle.finite.specs.Bounded.{count}
use Rattle.std.specs.declared.result.Result.{Result}
use Rattle.orbits.specs.declared.DartSet.{DartSet}
use Rattle.orbits.specs.declared.Walk.{Walk}
use Rattle.orbits.specs.declared.Walker.{Walker}
use Rattle.orbits.specs.Reach.{by_one, by_two, reaches}
use Rattle.orbits.specs.Classes.{classes}
use Rattle.orbits.specs.Walks.{walk, walker_at}
use Rattle.orbits.specs.Sets.{set_of}
use Rattle.model.specs.declared.Refusal.{Refusal}
use Rattle.model.specs.declared.Map.{Map}
use Rattle.model.specs.declared.Kind.{Kind}
use Rattle.model.specs.declared.Counts.{Counts}
use Rattle.model.specs.declared.Link.{Link}
use Rattle.model.specs.Refusals.{Rule, ◌when◌}
use Rattle.model.specs.Answers.{Call, answer_of, orbit_answer, counted_answer, walked_answer, moved_answer}
use Rattle.model.specs.Maps.{is_present, edge_link, point_link, face_link, dart_bound}
use Rattle.model.specs.Sound.{sound}

-- "Edges and vertices are orbits of the edge and the point link. Faces are orbits of "edge link,
-- then point link". Connected parts are reached by both links."
unfoldable pub links_of : Map → Kind → ℕ → List ℕ
links_of m Kind.Edge = by_one (edge_link m)
links_of m Kind.Vertex = by_one (point_link m)
links_of m Kind.Face = by_one (face_link m)
links_of m Kind.Part = by_two (edge_link m) (point_link m)

-- the number of orbits of a kind
unfoldable pub number_of : Map → Kind → ℕ
number_of m kind = classes (links_of m kind) (dart_bound m) (is_present m)

unfoldable pub darts : Map → ℕ
darts m = count (dart_bound m) (is_present m)

unfoldable pub counts : Map → Counts
counts m =
    record {
      darts = darts m;
      vertices = number_of m Kind.Vertex;
      edges = number_of m Kind.Edge;
      faces = number_of m Kind.Face;
      parts = number_of m Kind.Part;
    }

-- a map that is not sound is refused by every call that reads one
abbrev pub unsound : Map → Rule
unsound m = Refusal.NotSound when not (sound m)

-- "dart absent or above 1,023"
abbrev pub absent : Map → ℕ → Rule
absent m d = Refusal.NoDart when not (is_present m d)

-- what every call asks that takes a map and a dart
abbrev pub dart_rules : Map → ℕ → List Rule
dart_rules m d = unsound m ∷ absent m d ∷ []

abbrev pub counts_call : Map → Call Counts
counts_call m =
    record {
      meaning = counted_answer;
      rules = unsound m ∷ [];
      value = counts m;
    }

unfoldable pub counted : Map → Result Counts Refusal
counted m = answer_of (counts_call m)

-- the darts of an orbit as a set
abbrev pub orbit_set : Map → Kind → ℕ → DartSet
orbit_set m kind d = set_of (reaches (links_of m kind) (dart_bound m) d)

abbrev pub orbit_call : Map → Kind → ℕ → Call DartSet
orbit_call m kind d =
    record {
      meaning = orbit_answer;
      rules = dart_rules m d;
      value = orbit_set m kind d;
    }

unfoldable pub orbit_of : Map → Kind → ℕ → Result DartSet Refusal
orbit_of m kind d = answer_of (orbit_call m kind d)

abbrev pub walk_call : Map → ℕ → Call Walk
walk_call m d =
    record {
      meaning = walked_answer;
      rules = dart_rules m d;
      value = walk (edge_link m) (point_link m) (darts m) d;
    }

unfoldable pub walked : Map → ℕ → Result Walk Refusal
walked m d = answer_of (walk_call m d)

-- where a walker comes that is moved by a link, or by none
abbrev pub along : Link → Map → ℕ → ℕ
along Link.None m d = d
along Link.Edge m d = edge_link m d
along Link.Point m d = point_link m d

-- "A walker can be moved by one link and shows the dart it has reached." Moved by none, it is only
-- started; one that stands at an absent dart is refused.
abbrev pub walker_call : Map → Link → ℕ → Call Walker
walker_call m link d =
    record {
      meaning = moved_answer;
      rules = dart_rules m d;
      value = walker_at (along link m d);
    }
