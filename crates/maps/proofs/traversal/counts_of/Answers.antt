-- `maps::traversal::counts_of` meets its contract: the lists that the code fills hold the links and the
-- present darts, and permute these, so that each number of orbits is that of the definition; the number of
-- parts follows from the others, since they balance.
use mathlib.Core.Path.{◌≡◌, sym, ap, subst, ◌∙◌}
use mathlib.Core.Bool.{Bool, ◌&&◌}
use mathlib.Core.List.{List}
use Prim.Native.Nat.{ℕ, ◌+◌, ◌-◌, ◌/◌, ◌≤◌}
use native.Mathlib.Omega.{arith}
use Rattle.finite.specs.Bounded.{table}
use Rattle.finite.specs.Counting.{count_small}
use Rattle.orbits.specs.Reach.{by_one}
use Rattle.orbits.specs.Sets.{dart_limit}
use Rattle.orbits.specs.Classes.{is_least, classes}
use Rattle.orbits.specs.Links.{Composed, Permuted, link_of, test_of}
use Rattle.orbits.proofs.Links.{permuted_first, permuted_second, permuted_composed}
use Rattle.model.specs.declared.Kind.{Kind}
use Rattle.model.specs.declared.Map.{Map}
use Rattle.model.specs.Maps.{is_present, edge_link, point_link, face_link, dart_bound}
use Rattle.model.specs.Reading.{links_of, number_of, darts, counts}
use Rattle.model.specs.Shape.{Shaped}
use Rattle.maps.proofs.Links.{sound_linked, edge_involutes, counts_balance}
use Rattle.maps.proofs.Tables.{links_held, links_whole, present_table, composable, tables_permuted}
use Rattle.maps.proofs.traversal.counts_of.Goals as goal
use Rattle.maps.proofs.traversal.counts_of.Goals.{After-orbit_count-faces}

-- the lists as the code fills them: the point links, the links of the faces, the present darts
module _ (m : Map) (sound : Shaped m) {point face : List ℕ} {present : List Bool}
    (points_are : point ≡ table dart_limit (point_link m)) (points : link_of point ≡ point_link m)
    (composed : Composed m.edge point face)
    (presence_is : present ≡ table dart_limit (is_present m)) where
  faces : link_of face ≡ face_link m
  unfolding face_link edge_link
  faces = composed.leads ∙ (λ i d. points i (edge_link m d))

  presence : test_of present ≡ is_present m
  presence = ap test_of presence_is ∙ present_table m sound.links.fits

  permuted : Permuted (dart_bound m) (test_of present) m.edge point
  permuted =
      subst (λ (p : List Bool). Permuted (dart_bound m) (test_of p) m.edge point)
      (sym presence_is)
      (subst (λ (g : List ℕ). Permuted (dart_bound m) (test_of (table dart_limit (is_present m))) m.edge g)
      (sym points_are)
      (tables_permuted m sound.links.helpers_whole sound.links.edge_whole sound.links.fits
      (edge_involutes (sound_linked sound))))

  vertices_are : classes (by_one (link_of point)) (dart_bound m) (test_of present) ≡ number_of m Kind.Vertex
  unfolding number_of links_of
  vertices_are = λ i. classes (by_one (points i)) (dart_bound m) (presence i)

  edges_are : classes (by_one (link_of m.edge)) (dart_bound m) (test_of present) ≡ number_of m Kind.Edge
  unfolding number_of links_of edge_link
  edges_are = λ i. classes (by_one (edge_link m)) (dart_bound m) (presence i)

  faces_are : classes (by_one (link_of face)) (dart_bound m) (test_of present) ≡ number_of m Kind.Face
  unfolding number_of links_of
  faces_are = λ i. classes (by_one (faces i)) (dart_bound m) (presence i)

-- of each kind there are at most as many as places
few : {m : Map} → Shaped m → (kind : Kind) → number_of m kind ≤ dart_limit
unfolding number_of classes
few {m} sound kind =
    omega (
      arith,
      count_small (dart_bound m) (λ a. is_present m a && is_least (links_of m kind) (dart_bound m) a),
      sound.links.fits,
    )

pub overflow_mul-n : goal.overflow_mul-n
overflow_mul-n c = omega (arith, c.args.sound.shaped.links.fits)

pub compose-requires : goal.compose-requires
compose-requires c = composable c.args.sound.map.now c.args.sound.shaped (links_whole c.args.sound.map.now c.point_links-point.ensures)

pub orbit_count-vertices-requires : goal.orbit_count-vertices-requires
orbit_count-vertices-requires c =
    permuted_second
    (permuted c.args.sound.map.now c.args.sound.shaped c.point_links-point.ensures
    (links_held c.args.sound.map.now c.args.sound.shaped.links.helpers_whole c.point_links-point.ensures) c.compose.ensures c.present_darts-present.ensures)

pub orbit_count-edges-requires : goal.orbit_count-edges-requires
orbit_count-edges-requires c =
    permuted_first
    (permuted c.args.sound.map.now c.args.sound.shaped c.point_links-point.ensures
    (links_held c.args.sound.map.now c.args.sound.shaped.links.helpers_whole c.point_links-point.ensures) c.compose.ensures c.present_darts-present.ensures)

pub overflow_mul-n-4 : goal.overflow_mul-n-4
overflow_mul-n-4 c = omega (arith, c.args.sound.shaped.links.fits)

pub orbit_count-faces-requires : goal.orbit_count-faces-requires
orbit_count-faces-requires c =
    permuted_composed
    (permuted c.args.sound.map.now c.args.sound.shaped c.point_links-point.ensures
    (links_held c.args.sound.map.now c.args.sound.shaped.links.helpers_whole c.point_links-point.ensures) c.compose.ensures c.present_darts-present.ensures)
    c.compose.ensures

-- the numbers that are counted
module _ (c : After-orbit_count-faces) where
  darts_counted : c.dart_count-darts.result ≡ darts c.args.sound.map.now
  darts_counted = c.dart_count-darts.ensures

  vertices_counted : c.orbit_count-vertices.result ≡ number_of c.args.sound.map.now Kind.Vertex
  vertices_counted =
      c.orbit_count-vertices.ensures
      ∙ vertices_are c.args.sound.map.now c.args.sound.shaped c.point_links-point.ensures
      (links_held c.args.sound.map.now c.args.sound.shaped.links.helpers_whole c.point_links-point.ensures) c.compose.ensures
      c.present_darts-present.ensures

  edges_counted : c.orbit_count-edges.result ≡ number_of c.args.sound.map.now Kind.Edge
  edges_counted =
      c.orbit_count-edges.ensures
      ∙ edges_are c.args.sound.map.now c.args.sound.shaped c.point_links-point.ensures
      (links_held c.args.sound.map.now c.args.sound.shaped.links.helpers_whole c.point_links-point.ensures) c.compose.ensures
      c.present_darts-present.ensures

  faces_counted : c.orbit_count-faces.result ≡ number_of c.args.sound.map.now Kind.Face
  faces_counted =
      c.orbit_count-faces.ensures
      ∙ faces_are c.args.sound.map.now c.args.sound.shaped c.point_links-point.ensures
      (links_held c.args.sound.map.now c.args.sound.shaped.links.helpers_whole c.point_links-point.ensures) c.compose.ensures
      c.present_darts-present.ensures

pub overflow_add-result : goal.overflow_add-result
overflow_add-result c =
    record {
      fits =
          omega (
            arith,
            vertices_counted c,
            edges_counted c,
            few c.args.sound.shaped Kind.Vertex,
            few c.args.sound.shaped
                Kind.Edge,
          );
    }

pub overflow_add-result-2 : goal.overflow_add-result-2
overflow_add-result-2 c =
    record {
      fits =
          omega (
            arith,
            vertices_counted c,
            edges_counted c,
            faces_counted c,
            few c.args.sound.shaped Kind.Vertex,
            few c.args.sound.shaped Kind.Edge,
            few c.args.sound.shaped Kind.Face,
          );
    }

pub overflow_sub-result : goal.overflow_sub-result
overflow_sub-result c =
    omega (
      arith,
      darts_counted c,
      vertices_counted c,
      edges_counted c,
      faces_counted c,
      counts_balance c.args.sound.shaped,
    )

pub returns : goal.returns
unfolding counts
returns c =
    let vertices = vertices_counted c in
    let edges = edges_counted c in
    let around = faces_counted c in
    let present = darts_counted c in
    let parts :
    (c.orbit_count-vertices.result + c.orbit_count-edges.result + c.orbit_count-faces.result
    - c.dart_count-darts.result) / 2 ≡ number_of c.args.sound.map.now Kind.Part =
    omega (arith, counts_balance c.args.sound.shaped) in
    λ i. record {
      darts = present i;
      vertices = vertices i;
      edges = edges i;
      faces = around i;
      parts =
          parts i;
    }
