-- Two sound maps that agree at every place are the same map: arrays of the declared length are fixed by
-- what stands at each place.
use mathlib.Core.Path.{◌≡◌, sym, ◌∙◌}
use mathlib.Core.Bool.{false}
use mathlib.Core.List.{List}
use Prim.Native.Nat.{ℕ}
use native.Mathlib.Omega.{arith}
use lib.ListN.{length}
use lib.Seq.{ext_get_or}
use Rattle.finite.specs.ListLaws.{get_d_any}
use Rattle.orbits.specs.Links.{link_of}
use Rattle.model.specs.declared.Map.{Map}
use Rattle.model.specs.Plane.{origin}
use Rattle.model.specs.Maps.{no_note, point, has_helper, edge_link, note}
use Rattle.model.specs.Shape.{Shaped}

-- lists of links that lead alike are the same
pub same_links : (s t : List ℕ) → length s ≡ length t → ((d : ℕ) → link_of s d ≡ link_of t d) → s ≡ t
same_links s t e alike =
    ext_get_or 0 s t e (λ d h. get_d_any s d 0 d h ∙ (alike d ∙ get_d_any t d d 0 (omega arith)))

-- maps with equal fields are equal
pub same_fields : {m n : Map} → m.points ≡ n.points → m.helpers ≡ n.helpers → m.edge ≡ n.edge → m.notes ≡ n.notes →
    m.count ≡ n.count → m.reference ≡ n.reference → m ≡ n
same_fields p h e a c r =
    λ i.
    record { points = p i; helpers = h i; edge = e i; notes = a i; count = c i; reference = r i }

pub same_map : {m n : Map} → Shaped m → Shaped n → m.count ≡ n.count → ((k : ℕ) → point m k ≡ point n k) →
    ((k : ℕ) → has_helper m k ≡ has_helper n k) → ((d : ℕ) → edge_link m d ≡ edge_link n d) →
    ((k : ℕ) → note m k ≡ note n k) → m.reference ≡ n.reference → m ≡ n
unfolding point has_helper edge_link note
same_map {m} {n} s t count placed helped linked noted reference =
    same_fields
    (ext_get_or origin m.points n.points (s.points.points_whole ∙ sym t.points.points_whole) (λ k h. placed k))
    (ext_get_or false m.helpers n.helpers (s.links.helpers_whole ∙ sym t.links.helpers_whole) (λ k h. helped k))
    (same_links m.edge n.edge (s.links.edge_whole ∙ sym t.links.edge_whole) linked)
    (ext_get_or no_note m.notes n.notes (s.notes.notes_whole ∙ sym t.notes.notes_whole) (λ k h. noted k))
    count reference
