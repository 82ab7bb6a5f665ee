-- What is read in the file of a map: the length, the version, the number of points, the reference
-- and each field of each block are the map's, where they fit their bytes, in any version, and so are the notes,
-- where the version has some. Document 01, "Saved form", and document 02, request 107.
use mathlib.Core.Path.{◌≡◌, refl, sym, ap, subst, ◌∙◌}
use mathlib.Core.Logic.{◌≢◌, ⊎_elim}
use mathlib.Core.List.{List, [], ◌++◌, flatten, append_assoc, append-nil}
use Prim.Native.Nat.{ℕ, ◌+◌, ◌*◌, ◌^◌, ◌≤◌, ◌<◌}
use native.Mathlib.Omega.{arith}
use borrow.Author.Tests.{eq-eqb, ne_eqb}
use lib.ListN.{length, length-append}
use Rattle.finite.specs.Tests.{same_or_not}
use Rattle.finite.specs.Bounded.{one_if, table, table_onto}
use Rattle.model.specs.declared.Map.{Map}
use Rattle.model.specs.Maps.{point_limit, has_helper, edge_link}
use Rattle.model.specs.Saved.{version, old_version, big_endian, number_at, complement, block, field}
use Rattle.model.specs.Saved.{version_place, count_place, reference_place, header_length}
use Rattle.model.specs.Saved.{coordinates_place, helpers_place, links_place, notes_place, notes_length}
use Rattle.model.specs.Saved.{saved_length, following, coordinate, header, packed_note, notes_in}
use Rattle.model.specs.Saved.{saved_in, saved, count_in_file}
use Rattle.saved.specs.Fields.{unnoted, noted_in}
use Rattle.layout.proofs.Form.{notes_short}
use Rattle.layout.proofs.Blocks.{length_block, number_placed, block_part, block_placed}

-- of how many points a version has notes
pub noted_length : (v n : ℕ) → notes_length v n ≡ 5 * noted_in v n
unfolding notes_length
noted_length v n =
    ⊎_elim (λ (e : v ≡ old_version). rw (eq-eqb v old_version e))
    (λ (e : v ≢ old_version). rw (ne_eqb v old_version e))
    (same_or_not v old_version)

pub noted_all : (v n : ℕ) → v ≢ old_version → noted_in v n ≡ n
noted_all v n e = rw (ne_eqb v old_version e)

pub noted_most : (v n : ℕ) → noted_in v n ≤ n
noted_most v n =
    ⊎_elim (λ (e : v ≡ old_version). rw (eq-eqb v old_version e) (omega arith))
    (λ (e : v ≢ old_version). rw (ne_eqb v old_version e) (omega arith))
    (same_or_not v old_version)

pub noted_below : (v n k : ℕ) → k < noted_in v n → (v ≢ old_version) × (k < n)
noted_below v n k l =
    ⊎_elim
    (λ (e : v ≡ old_version). let z = rw (eq-eqb v old_version e) at l in absurd (omega arith))
    (λ (e : v ≢ old_version). (e, rw (ne_eqb v old_version e) at l))
    (same_or_not v old_version)

module _ (v : ℕ) (m : Map) where
  abbrev n : ℕ
  n = m.count

  abbrev lengths : List ℕ
  lengths = big_endian 4 (following v n)

  abbrev versions : List ℕ
  versions = big_endian 1 v

  abbrev counts : List ℕ
  counts = big_endian 2 n

  abbrev references : List ℕ
  references = big_endian 2 m.reference

  abbrev coordinates : List ℕ
  coordinates = block (2 * n) 4 (λ i. complement (coordinate m i))

  abbrev helpers : List ℕ
  helpers = block n 1 (λ k. one_if (has_helper m k))

  abbrev links : List ℕ
  links = block (2 * n) 2 (edge_link m)

  abbrev notes : List ℕ
  notes = notes_in v m

  -- they are a block of as many as the version has notes of
  pub notes_block : notes ≡ block (noted_in v n) 5 (packed_note m)
  unfolding notes_in block table table_onto flatten
  notes_block =
      ⊎_elim (λ (e : v ≡ old_version). rw (eq-eqb v old_version e))
      (λ (e : v ≢ old_version). rw (ne_eqb v old_version e))
      (same_or_not v old_version)

  length_notes : length notes ≡ notes_length v n
  length_notes =
      ap length notes_block ∙ length_block (noted_in v n) 5 (packed_note m) ∙ sym (noted_length v n)

  pub length_header : length (header v n m.reference) ≡ header_length
  unfolding header big_endian
  length_header = refl

  pub length_unnoted : length (unnoted v m) ≡ notes_place n
  unfolding unnoted
  length_unnoted =
      simp length-append
      (omega (
        arith,
        length_header,
        length_block (2 * n) 4 (λ i. complement (coordinate m i)),
        length_block n 1 (λ k. one_if (has_helper m k)),
        length_block (2 * n) 2 (edge_link m),
      ))

  pub length_saved_in : length (saved_in v m) ≡ saved_length v n
  unfolding saved_in unnoted
  length_saved_in = length-append (unnoted v m) notes ∙ omega (arith, length_unnoted, length_notes)

  pub length_read : n ≤ point_limit → number_at (saved_in v m) 0 4 ≡ following v n
  unfolding saved_in header
  length_read l =
      subst (λ (s : List ℕ). number_at s 0 4 ≡ following v n)
      (simp append_assoc)
      (number_placed [] (versions
      ++ (counts ++ (references ++ (coordinates ++ (helpers ++ (links ++ notes)))))) 0 4 (following v n) refl
      (omega (arith, notes_short v n)))

  pub version_read : v < 256 → number_at (saved_in v m) version_place 1 ≡ v
  unfolding saved_in header big_endian
  version_read l =
      subst (λ (s : List ℕ). number_at s version_place 1 ≡ v)
      (simp append_assoc)
      (number_placed lengths (counts ++ (references ++ (coordinates ++ (helpers ++ (links ++ notes)))))
      version_place 1 v refl (omega arith))

  pub count_read : n ≤ point_limit → count_in_file (saved_in v m) ≡ n
  unfolding saved_in header big_endian
  count_read l =
      subst (λ (s : List ℕ). count_in_file s ≡ n)
      (simp append_assoc)
      (number_placed (lengths ++ versions) (references ++ (coordinates ++ (helpers ++ (links ++ notes))))
      count_place 2 n refl (omega arith))

  pub reference_read : m.reference < 256 ^ 2 →
      number_at (saved_in v m) reference_place 2 ≡ m.reference
  unfolding saved_in header big_endian
  reference_read l =
      subst (λ (s : List ℕ). number_at s reference_place 2 ≡ m.reference)
      (simp append_assoc)
      (number_placed (lengths ++ versions ++ counts) (coordinates ++ (helpers ++ (links ++ notes)))
      reference_place 2 m.reference refl l)

  pub coordinate_read : (i : ℕ) → i < 2 * n → complement (coordinate m i) < 256 ^ 4 →
      field (saved_in v m) coordinates_place 4 i ≡ complement (coordinate m i)
  unfolding saved_in
  coordinate_read i l h =
      subst (λ (s : List ℕ). field s coordinates_place 4 i ≡ complement (coordinate m i))
      (simp append_assoc)
      (block_placed (header v n m.reference) (helpers ++ (links ++ notes)) coordinates_place (2 * n) 4
      (λ j. complement (coordinate m j)) length_header i l h)

  pub helper_read : (k : ℕ) → k < n → one_if (has_helper m k) < 256 ^ 1 →
      field (saved_in v m) (helpers_place n) 1 k ≡ one_if (has_helper m k)
  unfolding saved_in
  helper_read k l h =
      subst (λ (s : List ℕ). field s (helpers_place n) 1 k ≡ one_if (has_helper m k))
      (simp append_assoc)
      (block_placed (header v n m.reference ++ coordinates) (links ++ notes) (helpers_place n) n 1
      (λ j. one_if (has_helper m j))
      (length-append (header v n m.reference) coordinates ∙ omega
      (arith, length_header, length_block (2 * n) 4 (λ i. complement (coordinate m i))))
      k l h)

  pub link_read : (d : ℕ) → d < 2 * n → edge_link m d < 256 ^ 2 →
      field (saved_in v m) (links_place n) 2 d ≡ edge_link m d
  unfolding saved_in
  link_read d l h =
      subst (λ (s : List ℕ). field s (links_place n) 2 d ≡ edge_link m d)
      (simp append_assoc)
      (block_placed (header v n m.reference ++ coordinates ++ helpers) notes (links_place n)
      (2 * n) 2 (edge_link m)
      (simp length-append (omega (
        arith,
        length_header,
        length_block (2 * n) 4 (λ i. complement (coordinate m i)),
        length_block n 1 (λ k. one_if (has_helper m k)),
      )))
      d l h)

  -- the d bytes from byte j on of what is noted of point k
  pub note_read : (k j d : ℕ) → k < noted_in v n → j + d ≤ 5 →
      number_at (saved_in v m) (notes_place n + 5 * k + j) d ≡ number_at (big_endian 5 (packed_note m k)) j d
  unfolding saved_in unnoted
  note_read k j d l h =
      subst
      (λ (s : List ℕ).
      number_at s (notes_place n + 5 * k + j) d ≡ number_at (big_endian 5 (packed_note m k)) j d)
      (simp (append_assoc, append-nil, notes_block))
      (block_part (unnoted v m) [] (notes_place n) (noted_in v n) 5 (packed_note m) length_unnoted
      k j d l h)

-- in the version that is saved
pub length_saved : (m : Map) → length (saved m) ≡ saved_length version m.count
length_saved = length_saved_in version
