-- Orbits of the present darts of a sound map, of every kind, in the order of this page: links lead both
-- ways; an orbit's members are the darts reached, all present, and its size is their number; a fixed dart
-- is an edge orbit of one; the orbits of one kind part the present darts: each dart lies in its own orbit,
-- and two orbits are the same or have no dart in common. Then what the code reads: lists that hold the
-- links give the same orbits.
-- Document 01, "Reading a map".
use mathlib.Core.Path.{◌≡◌, sym, subst, ◌∙◌}
use mathlib.Core.Logic.{◌↔◌, ◌⊎◌, inl, inr, ⊎_elim}
use mathlib.Core.List.{List}
use Prim.Native.Nat.{ℕ, ◌≤◌, ◌<◌}
use native.Mathlib.Omega.{arith}
use lib.Dec.{T, eqb, eqb→eq}
use Rattle.finite.specs.Bounded.{count, lt_or_ge}
use Rattle.finite.specs.Tests.{same_test, equal_by}
use Rattle.finite.specs.Counting.{count_same}
use Rattle.orbits.specs.Reach.{Reach, here, reaches, StaysBelow}
use Rattle.orbits.specs.Sets.{dart_limit, set_of, has}
use Rattle.orbits.specs.Links.{Permutes}
use Rattle.orbits.proofs.Reach.{Symmetric, reach_dart, reach_trans, reach_sym, reaches_sound, reaches_complete, decide_reach, keeps_stays}
use Rattle.orbits.proofs.Permutations.{involution_permutes, compose_permutes, orbit_symmetric, fixed_reach}
use Rattle.orbits.proofs.Sets.{has_set_of, has_past, set_of_same, set_of_size}
use Rattle.orbits.proofs.Parts.{reached_set_bound}
use Rattle.model.specs.declared.Kind.{Kind}
use Rattle.model.specs.declared.Map.{Map}
use Rattle.model.specs.Maps.{is_present, edge_link, point_link, face_link, dart_bound}
use Rattle.model.specs.Shape.{Shaped}
use Rattle.model.specs.Reading.{links_of, orbit_set}
use Rattle.maps.proofs.Darts.{present_dart}
use Rattle.maps.proofs.Links.{DartOf, sound_linked, edge_involutes, point_involutes, links_symmetric}

module _ {m : Map} (s : Shaped m) where
  edge_permutes : Permutes (dart_bound m) (is_present m) (edge_link m)
  edge_permutes = involution_permutes (edge_involutes (sound_linked s))

  point_permutes : Permutes (dart_bound m) (is_present m) (point_link m)
  point_permutes = involution_permutes (point_involutes m)

  face_permutes : Permutes (dart_bound m) (is_present m) (face_link m)
  unfolding face_link
  face_permutes = compose_permutes edge_permutes point_permutes

  -- the links of every kind lead from present darts to present darts, and back
  pub kind_symmetric : (kind : Kind) → Symmetric (dart_bound m) (is_present m) (links_of m kind)
  unfolding links_of
  kind_symmetric Kind.Edge = orbit_symmetric edge_permutes
  kind_symmetric Kind.Vertex = orbit_symmetric point_permutes
  kind_symmetric Kind.Face = orbit_symmetric face_permutes
  kind_symmetric Kind.Part = links_symmetric (sound_linked s)

  bound_fits : dart_bound m ≤ dart_limit
  bound_fits = omega (arith, s.links.fits)

  -- ---- the orbit of a present dart

  module _ (kind : Kind) (d : ℕ) (there : T (is_present m d)) where
    at : DartOf m d
    at = present_dart m d there

    -- its members are the darts reached ..
    pub orbit_members : (e : ℕ) → T (has (orbit_set m kind d) e) ↔ Reach (links_of m kind) d e
    orbit_members e = (
      λ t.
          ⊎_elim
          (λ (l : e < dart_limit).
          reaches_sound (links_of m kind) (dart_bound m) d e
          (subst T (has_set_of (reaches (links_of m kind) (dart_bound m) d) e l) t))
          (λ (l : dart_limit ≤ e). absurd (subst T (has_past (orbit_set m kind d) e l) t))
          (lt_or_ge e dart_limit),
      λ r.
          let l : e < dart_limit = omega (arith, (reach_dart (kind_symmetric kind).keeps at r).below, bound_fits) in
          subst T (sym (has_set_of (reaches (links_of m kind) (dart_bound m) d) e l))
          (reaches_complete (kind_symmetric kind).keeps at r),
    )

    -- .. which are present
    pub orbit_present : (e : ℕ) → T (has (orbit_set m kind d) e) → T (is_present m e)
    orbit_present e t = (reach_dart (kind_symmetric kind).keeps at ((orbit_members e).0 t)).is_present

    -- its size is the number of its members
    pub orbit_size : (orbit_set m kind d).size ≡ count dart_limit (has (orbit_set m kind d))
    orbit_size =
        set_of_size (reaches (links_of m kind) (dart_bound m) d)
        ∙ count_same dart_limit (reaches (links_of m kind) (dart_bound m) d) (has (orbit_set m kind d))
        (λ e l. sym (has_set_of (reaches (links_of m kind) (dart_bound m) d) e l))

    -- a dart lies in its own orbit
    pub orbit_own : T (has (orbit_set m kind d) d)
    orbit_own = (orbit_members d).1 here

  -- "A fixed dart is an edge orbit of one"
  pub fixed_edge_alone : (d : ℕ) → T (is_present m d) → edge_link m d ≡ d →
      orbit_set m Kind.Edge d ≡ set_of (eqb d)
  unfolding links_of
  fixed_edge_alone d is_there fixed =
      set_of_same (reaches (links_of m Kind.Edge) (dart_bound m) d) (eqb d)
      (λ e l.
      same_test (reaches (links_of m Kind.Edge) (dart_bound m) d e) (eqb d e)
      (λ t.
      equal_by d e
      (fixed_reach (edge_link m) d e fixed (reaches_sound (links_of m Kind.Edge) (dart_bound m) d e t)))
      (λ t.
      reaches_complete (kind_symmetric Kind.Edge).keeps (present_dart m d is_there)
      (subst (Reach (links_of m Kind.Edge) d) (eqb→eq d e t) here)))

  -- ---- the orbits of one kind

  module _ (kind : Kind) where
    -- a dart has the orbit of every member of its orbit
    pub orbit_shared : (d e : ℕ) → T (is_present m d) → T (has (orbit_set m kind d) e) →
        orbit_set m kind d ≡ orbit_set m kind e
    orbit_shared d e there t =
        let at = present_dart m d there in
        let r = (orbit_members kind d there e).0 t in
        let both = kind_symmetric kind in
        let other = reach_dart both.keeps at r in
        set_of_same (reaches (links_of m kind) (dart_bound m) d) (reaches (links_of m kind) (dart_bound m) e)
        (λ x l.
        same_test (reaches (links_of m kind) (dart_bound m) d x) (reaches (links_of m kind) (dart_bound m) e x)
        (λ u.
        reaches_complete both.keeps other
        (reach_trans (reach_sym both at r) (reaches_sound (links_of m kind) (dart_bound m) d x u)))
        (λ u.
        reaches_complete both.keeps at
        (reach_trans r (reaches_sound (links_of m kind) (dart_bound m) e x u))))

    -- two orbits are the same, or have no dart in common
    pub orbits_same_or_disjoint : (d e : ℕ) → T (is_present m d) → T (is_present m e) →
        (orbit_set m kind d ≡ orbit_set m kind e) ⊎
        ((x : ℕ) → T (has (orbit_set m kind d) x) → ¬ T (has (orbit_set m kind e) x))
    orbits_same_or_disjoint d e there also =
        ⊎_elim
        (λ (r : Reach (links_of m kind) d e).
        inl (orbit_shared d e there ((orbit_members kind d there e).1 r)))
        (λ (none : ¬ Reach (links_of m kind) d e).
        inr
        (λ x t u.
        none
        (reach_trans ((orbit_members kind d there x).0 t)
        (reach_sym (kind_symmetric kind) (present_dart m e also) ((orbit_members kind e also x).0 u)))))
        (decide_reach (kind_symmetric kind).keeps e (present_dart m d there))

    -- ---- what the code reads

    -- lists that hold the links, as numbers for all darts
    module _ (next : ℕ → List ℕ) (same : next ≡ links_of m kind) (d : ℕ) (there : T (is_present m d)) where
      pub read_stays : StaysBelow dart_limit next d
      read_stays =
          subst (λ (links : ℕ → List ℕ). StaysBelow dart_limit links d) (sym same)
          (keeps_stays (kind_symmetric kind).keeps (present_dart m d there) bound_fits)

      pub read_orbit : set_of (reaches next dart_limit d) ≡ orbit_set m kind d
      read_orbit =
          (λ i. set_of (reaches (same i) dart_limit d))
          ∙ reached_set_bound (kind_symmetric kind).keeps (present_dart m d there) bound_fits
