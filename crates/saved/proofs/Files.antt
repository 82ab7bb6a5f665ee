-- The saved form both ways, in either version, in the order of this page: what a shaped map holds fits
-- its fields; what is read in the file of a shaped map; that file is in form and its map is the map
-- (`saved_in_form`, `map_back`); a reader of another version refuses it (`old_reader_7`); the bytes of the
-- map of a file in form are the file (`file_back`), and its points are the map's.
-- Document 01, demand 2: "a saved map reads back as itself, and an accepted file is the only file
-- that its map writes", and document 02, request 107.
use mathlib.Core.Path.{◌≡◌, refl, sym, ap, ap₂, ◌∙◌}
use mathlib.Core.Logic.{◌≢◌, ⊎_elim}
use mathlib.Core.Bool.{false, not}
use mathlib.Core.List.{List, ◌++◌}
use Prim.Native.Nat.{ℕ, ◌+◌, ◌*◌, ◌/◌, ◌%◌, ◌^◌, ◌≤◌, ◌<◌}
use native.Mathlib.Nat.{add-zero}
use native.Mathlib.Omega.{arith}
use borrow.Author.Tests.{eq-eqb, ne_eqb}
use lib.Dec.{T, eqb, T_not}
use lib.IntN.{nat_abs}
use lib.ListN.{length, get_or, take, drop}
use lib.Seq.{take-add, take-length}
use Rattle.finite.specs.Tests.{decide, is_false, same_or_not}
use Rattle.finite.specs.Bounded.{one_if, table, lt_or_ge}
use Rattle.finite.specs.Counting.{one_if_small, one_if_is}
use Rattle.finite.specs.ListLaws.{get_d_any}
use Rattle.orbits.specs.Sets.{dart_limit}
use Rattle.model.specs.declared.Point.{Point}
use Rattle.model.specs.declared.Map.{Map}
use Rattle.model.specs.Plane.{coordinate_limit, at, origin}
use Rattle.model.specs.Maps.{point_limit, no_note, own, point_in, point, has_helper, is_present, edge_link, note}
use Rattle.model.specs.Maps.{empty_map, map_points}
use Rattle.model.specs.Building.{built}
use Rattle.model.specs.Shape.{Fitting, Shaped}
use Rattle.model.specs.Saved.{version, old_version, Bytes, big_endian, number_at, complement, signed, field}
use Rattle.model.specs.Saved.{version_place, count_place, reference_place, header_length, coordinates_place}
use Rattle.model.specs.Saved.{helpers_place, links_place, notes_place, notes_length, saved_length, following}
use Rattle.model.specs.Saved.{coordinate, header, packed_note, notes_in, saved_in, saved, count_in_file}
use Rattle.model.specs.Saved.{coordinate_in_file, helper_in_file, link_in_file, arrival_in_file, left_in_file}
use Rattle.model.specs.Saved.{right_in_file, file_in_form_of, file_in_form, point_in_file, note_in_file, places_in_file}
use Rattle.model.specs.Saved.{helpers_in_file, links_in_file, notes_in_file, points_in_file, built_in_file, by_version, map_in}
use Rattle.model.proofs.Shape.{place_ranged, present_below}
use Rattle.plane.proofs.Bounds.{x_near, y_near}
use Rattle.layout.proofs.Digits.{number_small, complement_small, signed_complement}
use Rattle.layout.proofs.Digits.{complement_signed, bytes_back}
use Rattle.layout.proofs.Blocks.{block_same, block_back}
use Rattle.layout.proofs.Notes.{arrival_group, left_group, right_group, groups_read}
use Rattle.layout.proofs.Form.{IsVersion, version_small, in_form, Form, form_holds, form_by}
use Rattle.saved.specs.Fields.{noted_in}
use Rattle.saved.proofs.Tables.{until_table, until_at}
use Rattle.saved.proofs.Places.{noted_length, noted_all, noted_below, notes_block, length_saved_in}
use Rattle.saved.proofs.Places.{length_read, version_read, count_read, reference_read, coordinate_read}
use Rattle.saved.proofs.Places.{helper_read, link_read, note_read}

-- ---- what a shaped map holds fits its fields

module _ {m : Map} (s : Shaped m) where
  pub coordinate_small : (i : ℕ) → nat_abs (coordinate m i) ≤ coordinate_limit
  unfolding coordinate
  coordinate_small i =
      ⊎_elim
      (λ (e : i % 2 ≡ 0).
      rw (eq-eqb (i % 2) 0 e) (x_near (point m (i / 2)) (place_ranged s (i / 2))).bound)
      (λ e. rw (ne_eqb (i % 2) 0 e) (y_near (point m (i / 2)) (place_ranged s (i / 2))).bound)
      (same_or_not (i % 2) 0)

  link_small : (d : ℕ) → d < own m.count → edge_link m d < 256 ^ 2
  link_small d l =
      let f = s.links.fits in
      ⊎_elim
      (λ (t : T (is_present m d)).
      let b = present_below m (edge_link m d) (s.links.present d t) in omega arith)
      (λ (t : T (not (is_present m d))).
      let e = s.links.absent d (T_not (is_present m d) t) in omega arith)
      (decide (is_present m d))

  reference_small : m.reference < 256 ^ 2
  reference_small =
      let f = s.links.fits in
      ⊎_elim
      (λ (l : m.count < 2). let e = (s.bare l).unreferenced in omega arith)
      (λ (l : 2 ≤ m.count).
      let b = present_below m m.reference (s.outlined l).reference_present in omega arith)
      (lt_or_ge m.count 2)

-- ---- the file of a shaped map is in form, and its map is the map

x_coordinate : (m : Map) (k : ℕ) → coordinate m (2 * k) ≡ (point m k).x
unfolding coordinate
x_coordinate m k =
    let e : 2 * k / 2 ≡ k = omega arith in
    rw (eq-eqb (2 * k % 2) 0 (omega arith), e)

y_coordinate : (m : Map) (k : ℕ) → coordinate m (2 * k + 1) ≡ (point m k).y
unfolding coordinate
y_coordinate m k =
    let e : (2 * k + 1) / 2 ≡ k = omega arith in
    rw (ne_eqb ((2 * k + 1) % 2) 0 (λ z. omega arith), e)

module _ {v : ℕ} (is : IsVersion v) {m : Map} (s : Shaped m) where
  abbrev file : List ℕ
  file = saved_in v m

  count_back : count_in_file file ≡ m.count
  count_back = count_read v m s.links.fits

  version_back : number_at file version_place 1 ≡ v
  version_back = version_read v m (version_small is)

  helper_back : (k : ℕ) → k < m.count → helper_in_file file (count_in_file file) k ≡ one_if (has_helper m k)
  helper_back k l =
      ap (λ (n : ℕ). field file (helpers_place n) 1 k) count_back
      ∙ helper_read v m k l (omega (arith, one_if_small (has_helper m k)))

  link_back : (d : ℕ) → d < own m.count → link_in_file file (count_in_file file) d ≡ edge_link m d
  link_back d l =
      ap (λ (n : ℕ). field file (links_place n) 2 d) count_back ∙ link_read v m d l (link_small s d l)

  coordinate_back : (i : ℕ) → i < 2 * m.count → coordinate_in_file file i ≡ coordinate m i
  coordinate_back i l =
      let b = coordinate_small s i in
      ap signed (coordinate_read v m i l (complement_small (coordinate m i) (omega arith)))
      ∙ signed_complement (coordinate m i) (omega arith)

  -- what is noted of a point, where the version has notes
  module _ (new : v ≢ old_version) (k : ℕ) (l : k < m.count) where
    abbrev fit : Fitting (note m k)
    fit = s.notes.fitting k

    part_back : (j d : ℕ) → j + d ≤ 5 →
        number_at file (notes_place (count_in_file file) + 5 * k + j) d
        ≡ number_at (big_endian 5 (packed_note m k)) j d
    part_back j d h =
        ap (λ (n : ℕ). number_at file (notes_place n + 5 * k + j) d) count_back
        ∙ note_read v m k j d (omega (arith, noted_all v m.count new)) h

    arrival_back : arrival_in_file file (count_in_file file) k ≡ (note m k).arrival
    unfolding packed_note
    arrival_back =
        ap (λ (a : ℕ). number_at file a 1) (sym (add-zero (notes_place (count_in_file file) + 5 * k)))
        ∙ part_back 0 1 (omega arith)
        ∙ arrival_group (note m k).arrival (note m k).left (note m k).right
        (omega (arith, fit.arrival_small)) (omega (arith, fit.left_small)) (omega (arith, fit.right_small))

    left_back : left_in_file file (count_in_file file) k ≡ (note m k).left
    unfolding packed_note
    left_back =
        part_back 1 2 (omega arith)
        ∙ left_group (note m k).arrival (note m k).left (note m k).right
        (omega (arith, fit.left_small)) (omega (arith, fit.right_small))

    right_back : right_in_file file (count_in_file file) k ≡ (note m k).right
    unfolding packed_note
    right_back =
        part_back 3 2 (omega arith)
        ∙ right_group (note m k).arrival (note m k).left (note m k).right
        (omega (arith, fit.left_small)) (omega (arith, fit.right_small))

  pub saved_in_form_of : T (file_in_form_of v file)
  saved_in_form_of =
      let f = s.links.fits in
      let c = count_back in
      form_by v file
      (record {
        few = omega arith;
        whole = length_saved_in v m ∙ ap (saved_length v) (sym c);
        length_right = length_read v m f ∙ ap (following v) (sym c);
        version_right = version_back;
        helpers_right =
            λ k h. omega (arith, helper_back k (omega arith), one_if_small (has_helper m k));
        arrivals_right =
            λ e k h. omega (arith, arrival_back e k (omega arith), (s.notes.fitting k).arrival_small);
      })

  pub saved_in_form : T (file_in_form file)
  saved_in_form = in_form is file saved_in_form_of

  -- the points
  point_back : (k : ℕ) → k < m.count → point_in_file file k ≡ point m k
  point_back k l =
      let x = coordinate_back (2 * k) (omega arith) ∙ x_coordinate m k in
      let y = coordinate_back (2 * k + 1) (omega arith) ∙ y_coordinate m k in
      λ i. at (x i) (y i)

  places_back : places_in_file file (count_in_file file) ≡ m.points
  unfolding point
  places_back =
      let c = count_back in
      until_table origin m.points s.points.points_whole (count_in_file file) (point_in_file file) (λ k. origin)
      (λ k i l. point_back k (omega arith))
      (λ k i l. sym (s.points.vacant k (omega arith)))

  pub points_back : points_in_file file ≡ map_points m
  unfolding point
  points_back = λ i. table (count_back i) (point_in (places_back i))

  helpers_back : helpers_in_file file (count_in_file file) ≡ m.helpers
  unfolding has_helper
  helpers_back =
      let c = count_back in
      until_table false m.helpers s.links.helpers_whole (count_in_file file)
      (λ k. eqb (helper_in_file file (count_in_file file) k) 1)
      (λ k. false)
      (λ k i l. ap (λ (b : ℕ). eqb b 1) (helper_back k (omega arith)) ∙ one_if_is (has_helper m k))
      (λ k i l. sym (is_false (has_helper m k) (λ h. omega (arith, s.links.owned k h))))

  links_back : links_in_file file (count_in_file file) ≡ m.edge
  unfolding edge_link
  links_back =
      let c = count_back in
      let w = s.links.edge_whole in
      until_table 0 m.edge w (own (count_in_file file)) (link_in_file file (count_in_file file)) (λ d. d)
      (λ d i l. link_back d (omega arith) ∙ get_d_any m.edge d d 0 (omega arith))
      (λ d i l.
      sym (s.links.absent d (λ t. omega (arith, present_below m d t)))
      ∙ get_d_any m.edge d d 0 (omega arith))

  -- the notes, where the version has some
  note_back : v ≢ old_version → (k : ℕ) → k < m.count → note_in_file file (count_in_file file) k ≡ note m k
  note_back e k l =
      let arrival = arrival_back e k l in
      let left = left_back e k l in
      let right = right_back e k l in
      λ i. record { arrival = arrival i; left = left i; right = right i }

  notes_back : v ≢ old_version → notes_in_file file (count_in_file file) ≡ m.notes
  unfolding note
  notes_back e =
      let c = count_back in
      until_table no_note m.notes s.notes.notes_whole (count_in_file file)
      (note_in_file file (count_in_file file)) (λ k. no_note)
      (λ k i l. note_back e k (omega arith))
      (λ k i l. sym (s.notes.unnoted k (omega arith)))

  -- the old version has none: there the map must be the one that its points build
  module _ (builds : v ≡ old_version → m ≡ built empty_map (map_points m)) where
    -- the notes, read or rebuilt
    noted_back : by_version file (built_in_file file).notes (notes_in_file file (count_in_file file)) ≡ m.notes
    noted_back =
        ⊎_elim
        (λ (e : v ≡ old_version).
        rw (eq-eqb (number_at file version_place 1) old_version (version_back ∙ e))
        (ap (λ (n : Map). n.notes) (ap (built empty_map) points_back ∙ sym (builds e))))
        (λ (e : v ≢ old_version).
        rw (ne_eqb (number_at file version_place 1) old_version (λ o. e (sym version_back ∙ o))) (notes_back e))
        (same_or_not v old_version)

    pub map_back : map_in file ≡ m
    unfolding map_in
    map_back =
        λ i.
        record {
          points = places_back i;
          helpers = helpers_back i;
          edge = links_back i;
          notes = noted_back i;
          count = count_back i;
          reference = reference_read v m (reference_small s) i;
        }

-- ---- no reader takes a file of another version for one of its own

pub other_reader_7 : (v w : ℕ) → v < 256 → v ≢ w → (m : Map) → ¬ T (file_in_form_of w (saved_in v m))
other_reader_7 v w small e m t = e (sym (version_read v m small) ∙ (form_holds w (saved_in v m) t).version_right)

-- the reader of version 1 refuses what is saved now
pub old_reader_7 : (m : Map) → ¬ T (file_in_form_of old_version (saved m))
old_reader_7 = other_reader_7 version old_version (omega arith) (λ e. omega arith)

-- ---- the bytes of the map of a file in form are the file

-- the first a bytes, and b bytes after them
joined : (s : List ℕ) (a b c : ℕ) → a + b ≡ c → take a s ++ take b (drop a s) ≡ take c s
joined s a b c e = sym (take-add a b s) ∙ ap (λ (j : ℕ). take j s) e

bit_is : (b : ℕ) → b ≤ 1 → one_if (eqb b 1) ≡ b
unfolding one_if
bit_is b l =
    ⊎_elim (λ (e : b ≡ 1). rw (eq-eqb b 1 e) (sym e)) (λ e. rw (ne_eqb b 1 e) (omega arith))
    (same_or_not b 1)

module _ {v : ℕ} {s : List ℕ} (b : Bytes s) (f : Form v s) where
  place_held : (k : ℕ) → k < count_in_file s →
      get_or (places_in_file s (count_in_file s)) k origin ≡ point_in_file s k
  place_held k l = until_at point_limit (count_in_file s) (point_in_file s) (λ j. origin) k origin f.few l

  coordinate_is : (i : ℕ) → i < 2 * count_in_file s →
      coordinate (map_in s) i ≡ coordinate_in_file s i
  unfolding coordinate point map_in
  coordinate_is i l =
      let k : i / 2 < count_in_file s = omega arith in
      ⊎_elim
      (λ (e : i % 2 ≡ 0).
      let h : 2 * (i / 2) ≡ i = omega arith in
      rw (eq-eqb (i % 2) 0 e) (ap (λ (p : Point). p.x) (place_held (i / 2) k) ∙ ap (coordinate_in_file s) h))
      (λ (e : i % 2 ≢ 0).
      let h : 2 * (i / 2) + 1 ≡ i = omega arith in
      rw (ne_eqb (i % 2) 0 e) (ap (λ (p : Point). p.y) (place_held (i / 2) k) ∙ ap (coordinate_in_file s) h))
      (same_or_not (i % 2) 0)

  coordinate_written : (i : ℕ) → i < 2 * count_in_file s →
      complement (coordinate (map_in s) i) ≡ field s coordinates_place 4 i
  coordinate_written i l =
      ap complement (coordinate_is i l)
      ∙ complement_signed (field s coordinates_place 4 i)
      (number_small b (coordinates_place + 4 * i) 4)

  helper_written : (k : ℕ) → k < count_in_file s →
      one_if (has_helper (map_in s) k) ≡ helper_in_file s (count_in_file s) k
  unfolding has_helper map_in
  helper_written k l =
      ap one_if
      (until_at point_limit (count_in_file s) (λ j. eqb (helper_in_file s (count_in_file s) j) 1)
      (λ j. false) k false f.few l)
      ∙ bit_is (helper_in_file s (count_in_file s) k) (f.helpers_right k l)

  link_written : (d : ℕ) → d < 2 * count_in_file s →
      edge_link (map_in s) d ≡ link_in_file s (count_in_file s) d
  unfolding edge_link map_in
  link_written d l =
      until_at dart_limit (own (count_in_file s)) (link_in_file s (count_in_file s)) (λ e. e) d d
      (omega (arith, f.few)) l

  -- what is noted of a point, where the version has notes
  note_written : (k : ℕ) → k < noted_in v (count_in_file s) →
      packed_note (map_in s) k ≡ field s (notes_place (count_in_file s)) 5 k
  unfolding packed_note note map_in
  note_written k h =
      let n = count_in_file s in
      let below = noted_below v n k h in
      let l = below.1 in
      rw (
        ne_eqb (number_at s version_place 1) old_version (λ o. below.0 (sym f.version_right ∙ o)),
        until_at point_limit n (note_in_file s n) (λ j. no_note) k no_note f.few l,
      )
      (sym (groups_read s (notes_place n + 5 * k)))

  notes_written :
      notes_in v (map_in s) ≡ take (notes_length v (count_in_file s)) (drop (notes_place (count_in_file s)) s)
  unfolding map_in
  notes_written =
      let w = f.whole in
      let n = count_in_file s in
      let length_is = noted_length v n in
      notes_block v (map_in s)
      ∙ (block_same (noted_in v n) 5 _ _ note_written
      ∙ block_back b (notes_place n) (noted_in v n) 5 (omega arith)
      ∙ ap (λ (j : ℕ). take j (drop (notes_place n) s)) (sym length_is))

  header_written : header v (count_in_file s) (number_at s reference_place 2) ≡ take header_length s
  unfolding header
  header_written =
      let w = f.whole in
      ap₂ ◌++◌
      (ap₂ ◌++◌
      (ap₂ ◌++◌ (ap (big_endian 4) (sym f.length_right) ∙ bytes_back b 0 4 (omega arith))
      (ap (big_endian 1) (sym f.version_right) ∙ bytes_back b version_place 1 (omega arith))
      ∙ joined s version_place 1 count_place refl)
      (bytes_back b count_place 2 (omega arith))
      ∙ joined s count_place 2 reference_place refl)
      (bytes_back b reference_place 2 (omega arith))
      ∙ joined s reference_place 2 header_length refl

  pub file_back : saved_in v (map_in s) ≡ s
  unfolding saved_in map_in
  file_back =
      let w = f.whole in
      let n = count_in_file s in
      ap₂ ◌++◌
      (ap₂ ◌++◌
      (ap₂ ◌++◌
      (ap₂ ◌++◌ header_written
      (block_same (2 * n) 4 _ _ coordinate_written
      ∙ block_back b coordinates_place (2 * n) 4 (omega arith))
      ∙ joined s header_length (4 * (2 * n)) (helpers_place n) (omega arith))
      (block_same n 1 _ _ helper_written ∙ block_back b (helpers_place n) n 1 (omega arith))
      ∙ joined s (helpers_place n) (1 * n) (links_place n) (omega arith))
      (block_same (2 * n) 2 _ _ link_written ∙ block_back b (links_place n) (2 * n) 2 (omega arith))
      ∙ joined s (links_place n) (2 * (2 * n)) (notes_place n) (omega arith))
      notes_written
      ∙ joined s (notes_place n) (notes_length v n) (length s) (sym w)
      ∙ take-length s

-- the points of a file are those of its map
pub points_in : (s : List ℕ) → points_in_file s ≡ map_points (map_in s)
unfolding map_in point
points_in s = refl
