-- `maps::traversal::orbit_of` meets its contract: for each kind the lists that are read hold the links of
-- that kind, so that what is reached along them is the orbit.
use mathlib.Core.Path.{◌≡◌, refl, sym, ap, ◌∙◌}
use mathlib.Core.List.{List}
use Prim.Native.Nat.{ℕ}
use native.Mathlib.Omega.{arith}
use Rattle.finite.specs.Bounded.{table}
use Rattle.orbits.specs.Sets.{dart_limit}
use Rattle.orbits.specs.Reach.{by_one, by_two}
use Rattle.orbits.specs.Links.{Composed, link_of}
use Rattle.model.specs.declared.Kind.{Kind}
use Rattle.model.specs.declared.Map.{Map}
use Rattle.model.specs.Maps.{edge_link, point_link, face_link}
use Rattle.model.specs.Reading.{links_of, orbit_set}
use Rattle.model.specs.Shape.{Shaped}
use Rattle.maps.proofs.Tables.{links_held, links_whole, composable}
use Rattle.maps.proofs.Orbits.{read_stays, read_orbit}
use Rattle.maps.proofs.traversal.orbit_of.Goals as goal

-- the point links as the code has them
module _ (map : Map) (sound : Shaped map) {point : List ℕ} (points_are : point ≡ table dart_limit (point_link map)) where
  point_leads : link_of point ≡ point_link map
  point_leads = links_held map sound.links.helpers_whole points_are

  vertices : by_one (link_of point) ≡ links_of map Kind.Vertex
  unfolding links_of
  vertices = ap by_one point_leads

  parts : by_two (link_of map.edge) (link_of point) ≡ links_of map Kind.Part
  unfolding links_of edge_link
  parts = ap (by_two (edge_link map)) point_leads

  -- .. and the links of the faces that it makes of them
  faces : {face : List ℕ} → Composed map.edge point face → by_one (link_of face) ≡ links_of map Kind.Face
  unfolding links_of face_link edge_link
  faces made = ap by_one (made.leads ∙ (λ i d. point_leads i (edge_link map d)))

edges : (map : Map) → by_one (link_of map.edge) ≡ links_of map Kind.Edge
unfolding links_of edge_link
edges map = refl

pub overflow_mul-n : goal.overflow_mul-n
overflow_mul-n c = omega (arith, c.args.sound.shaped.links.fits)

pub compose-requires : goal.compose-requires
compose-requires c = composable c.args.sound.map.now c.args.sound.shaped (links_whole c.args.sound.map.now c.point_links-point.ensures)

pub orbit-requires : goal.orbit-requires
orbit-requires c =
    let s = c.args.sound.shaped in
    (s.links.edge_whole, read_stays s Kind.Edge _ (edges c.args.sound.map.now) _ c.requires)

pub orbit-requires-in-Vertex : goal.orbit-requires-in-Vertex
orbit-requires-in-Vertex c =
    let s = c.args.sound.shaped in
    let e = c.point_links-point.ensures in
    (links_whole c.args.sound.map.now e, read_stays s Kind.Vertex _ (vertices c.args.sound.map.now s e) _ c.requires)

pub orbit-requires-in-Face : goal.orbit-requires-in-Face
orbit-requires-in-Face c =
    let s = c.args.sound.shaped in
    let e = c.point_links-point.ensures in
    (c.compose.ensures.whole, read_stays s Kind.Face _ (faces c.args.sound.map.now s e c.compose.ensures) _ c.requires)

pub part-requires : goal.part-requires
part-requires c =
    let s = c.args.sound.shaped in
    let e = c.point_links-point.ensures in
    record {
      first_whole = s.links.edge_whole;
      second_whole = links_whole c.args.sound.map.now e;
      below = read_stays s Kind.Part _ (parts c.args.sound.map.now s e) _ c.requires;
    }

-- what is read, for the kind that was told
told_orbit : (map : Map) (d : ℕ) {told kind : Kind} → told ≡ kind →
    orbit_set map kind d ≡ orbit_set map told d
told_orbit map d e = ap (λ (k : Kind). orbit_set map k d) (sym e)

pub returns-in-Edge : goal.returns-in-Edge
returns-in-Edge c =
    c.orbit.ensures
    ∙ read_orbit c.args.sound.shaped Kind.Edge _ (edges c.args.sound.map.now) _ c.requires
    ∙ told_orbit c.args.sound.map.now c.args.d c.in-Edge.is

pub returns-in-Vertex : goal.returns-in-Vertex
returns-in-Vertex c =
    c.orbit-in-Vertex.ensures
    ∙ read_orbit c.args.sound.shaped Kind.Vertex _ (vertices c.args.sound.map.now c.args.sound.shaped c.point_links-point.ensures) _
    c.requires
    ∙ told_orbit c.args.sound.map.now c.args.d c.in-Vertex.is

pub returns-in-Face : goal.returns-in-Face
returns-in-Face c =
    c.orbit-in-Face.ensures
    ∙ read_orbit c.args.sound.shaped Kind.Face _
    (faces c.args.sound.map.now c.args.sound.shaped c.point_links-point.ensures c.compose.ensures) _ c.requires
    ∙ told_orbit c.args.sound.map.now c.args.d c.in-Face.is

pub returns-in-Part : goal.returns-in-Part
returns-in-Part c =
    c.part.ensures
    ∙ read_orbit c.args.sound.shaped Kind.Part _ (parts c.args.sound.map.now c.args.sound.shaped c.point_links-point.ensures) _
    c.requires
    ∙ told_orbit c.args.sound.map.now c.args.d c.in-Part.is
