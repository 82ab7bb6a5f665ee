-- The saved form, in the order of this page: bytes; numbers in bytes and back; blocks of fields;
-- the layout; the bytes of a map; a file in form; the map of a file; loading and saving. What is
-- written and what is in form are said of any version, and used at the two that there are.
-- Document 01, "Saved form": "Big-endian: 4 bytes, the length of all that follows; version byte 1;
-- 2 bytes, the number of points n; 2 bytes reference; n pairs x, y in 4 bytes each, two's
-- complement; n helper bytes, 0 or 1; 2n edge links of 2 bytes. The whole is 9 + 13 × n bytes."
-- Document 02, request 107: "Version 2 writes these after the edge links, n groups of 1, 2 and 2 bytes .. A
-- version 2 file is 9 + 18 × n bytes. Version 1 files are still read, their records rebuilt".
use Rattle.std.specs.Prelude.{Bool, false, not, cond, ◌&&◌, ◌||◌, ℕ, zero, suc, ◌+◌, ◌-◌, ◌*◌, ◌/◌, ◌%◌, ◌^◌, ◌<◌, ltb, leb, eqb, ℤ, pos, negsuc, length, get_or}
use Rattle.std.specs.declared.result.Result.{Result}
use mathlib.Core.List.{List, [], ◌∷◌, ◌++◌, flatten}
use Rattle.finite.specs.Bounded.{one_if, all, table}
use Rattle.orbits.specs.Sets.{dart_limit}
use Rattle.model.specs.declared.Refusal.{Refusal}
use Rattle.model.specs.declared.Point.{Point}
use Rattle.model.specs.declared.Note.{Note}
use Rattle.model.specs.declared.Map.{Map}
use Rattle.model.specs.Refusals.{◌when◌}
use Rattle.model.specs.Answers.{Call, answer_of, outcome_answer}
use Rattle.model.specs.Plane.{at, origin}
use Rattle.model.specs.Maps.{point_limit, no_note, own, point_in, point, has_helper, edge_link, note, empty_map}
use Rattle.model.specs.Building.{built}
use Rattle.model.specs.Reading.{unsound}

-- "Saving writes version 2", and "Version 1 files are still read"
abbrev pub version : ℕ
version = 2

abbrev pub old_version : ℕ
old_version = 1

-- a list of bytes: past its end stands 0, a byte too
pub record Bytes (s : List ℕ) : Type 0 where
  pub small : (i : ℕ) → get_or s i 0 < 256

-- the last w bytes of v, highest first
unfoldable pub big_endian : ℕ → ℕ → List ℕ
big_endian zero v = []
big_endian (suc w) v = v / 256 ^ w % 256 ∷ big_endian w v

-- the number in the w bytes from a place on
unfoldable pub number_at : List ℕ → ℕ → ℕ → ℕ
number_at s at zero = 0
number_at s at (suc w) = number_at s at w * 256 + get_or s (at + w) 0

-- two's complement in 4 bytes, and back
unfoldable pub complement : ℤ → ℕ
complement (pos n) = n
complement (negsuc n) = 2 ^ 32 - suc n

unfoldable pub signed : ℕ → ℤ
signed n = cond (ltb n (2 ^ 31)) (pos n) (negsuc (2 ^ 32 - suc n))

-- a block of k fields of w bytes each: f i stands in field i
unfoldable pub block : ℕ → ℕ → (ℕ → ℕ) → List ℕ
block k w f = flatten (table k (λ i. big_endian w (f i)))

-- field i of the block of fields of w bytes that begins at a place
abbrev pub field : List ℕ → ℕ → ℕ → ℕ → ℕ
field s at w i = number_at s (at + w * i) w

-- where the numbers of the header stand, and how long it is: "4 bytes, the length of all that
-- follows; version byte 1; 2 bytes, the number of points n; 2 bytes reference"
abbrev pub version_place : ℕ
version_place = 4

abbrev pub count_place : ℕ
count_place = 5

abbrev pub reference_place : ℕ
reference_place = 7

abbrev pub header_length : ℕ
header_length = 9

-- where the blocks begin in a file of n points: "n pairs x, y in 4 bytes each; n helper bytes; 2n
-- edge links of 2 bytes", and in version 2 what is noted of the points
abbrev pub coordinates_place : ℕ
coordinates_place = header_length

abbrev pub helpers_place : ℕ → ℕ
helpers_place n = header_length + 8 * n

abbrev pub links_place : ℕ → ℕ
links_place n = header_length + 9 * n

abbrev pub notes_place : ℕ → ℕ
notes_place n = header_length + 13 * n

-- "n groups of 1, 2 and 2 bytes", which version 1 does not have
unfoldable pub notes_length : ℕ → ℕ → ℕ
notes_length v n = cond (eqb v old_version) 0 (5 * n)

-- "9 + 13 × n bytes" in version 1, "9 + 18 × n bytes" in version 2
abbrev pub saved_length : ℕ → ℕ → ℕ
saved_length v n = notes_place n + notes_length v n

-- the length of all that follows the length
abbrev pub following : ℕ → ℕ → ℕ
following v n = saved_length v n - version_place

-- coordinate 2k is x of point k, coordinate 2k + 1 its y
unfoldable pub coordinate : Map → ℕ → ℤ
coordinate m i = cond (eqb (i % 2) 0) (point m (i / 2)).x (point m (i / 2)).y

-- the header in version v of a map of n points with reference r
unfoldable pub header : ℕ → ℕ → ℕ → List ℕ
header v n r = big_endian 4 (following v n) ++ big_endian 1 v ++ big_endian 2 n ++ big_endian 2 r

-- what is noted of point k, as one number of 5 bytes: those of its arrival, 1, and of its freed darts, 2 and 2
-- (`note_groups` of layout/proofs/Notes)
unfoldable pub packed_note : Map → ℕ → ℕ
packed_note m k = ((note m k).arrival * 256 ^ 2 + (note m k).left) * 256 ^ 2 + (note m k).right

-- "Version 2 writes these after the edge links"
unfoldable pub notes_in : ℕ → Map → List ℕ
notes_in v m = cond (eqb v old_version) [] (block m.count 5 (packed_note m))

-- the bytes of a map in version v
unfoldable pub saved_in : ℕ → Map → List ℕ
saved_in v m =
    let n = m.count in
    header v n m.reference ++ block (2 * n) 4 (λ i. complement (coordinate m i))
    ++ block n 1 (λ k. one_if (has_helper m k))
    ++ block (2 * n) 2 (edge_link m)
    ++ notes_in v m

-- the bytes of a map
abbrev pub saved : Map → List ℕ
saved = saved_in version

-- "2 bytes, the number of points n"
abbrev pub count_in_file : List ℕ → ℕ
count_in_file s = number_at s count_place 2

-- what stands in a file of n points: coordinate i, the helper byte of point k, the edge link of
-- dart d, and what is noted of point k
abbrev pub coordinate_in_file : List ℕ → ℕ → ℤ
coordinate_in_file s i = signed (field s coordinates_place 4 i)

abbrev pub helper_in_file : List ℕ → ℕ → ℕ → ℕ
helper_in_file s n k = field s (helpers_place n) 1 k

abbrev pub link_in_file : List ℕ → ℕ → ℕ → ℕ
link_in_file s n d = field s (links_place n) 2 d

abbrev pub arrival_in_file : List ℕ → ℕ → ℕ → ℕ
arrival_in_file s n k = number_at s (notes_place n + 5 * k) 1

abbrev pub left_in_file : List ℕ → ℕ → ℕ → ℕ
left_in_file s n k = number_at s (notes_place n + 5 * k + 1) 2

abbrev pub right_in_file : List ℕ → ℕ → ℕ → ℕ
right_in_file s n k = number_at s (notes_place n + 5 * k + 3) 2

-- not number 7: "file under 9 bytes, length not matching n and the bytes lent, n above 512, version
-- not 1, or helper byte above 1", for any version v; "An arrival above 3 gives 7"
unfoldable pub file_in_form_of : ℕ → List ℕ → Bool
file_in_form_of v s =
    let n = count_in_file s in
    leb header_length (length s) && leb n point_limit && eqb (length s) (saved_length v n)
    && eqb (number_at s 0 4) (following v n)
    && eqb (number_at s version_place 1) v
    && all n (λ k. leb (helper_in_file s n k) 1)
    && (eqb v old_version || all n (λ k. leb (arrival_in_file s n k) 3))

-- of one of the two versions
unfoldable pub file_in_form : List ℕ → Bool
file_in_form s = file_in_form_of old_version s || file_in_form_of version s

-- f before n, and g from n on
abbrev pub until : {A : Type 0} → ℕ → (ℕ → A) → (ℕ → A) → ℕ → A
until n f g k = cond (ltb k n) (f k) (g k)

-- point k of a file, and what is noted of it
abbrev pub point_in_file : List ℕ → ℕ → Point
point_in_file s k = at (coordinate_in_file s (2 * k)) (coordinate_in_file s (2 * k + 1))

abbrev pub note_in_file : List ℕ → ℕ → ℕ → Note
note_in_file s n k =
    record { arrival = arrival_in_file s n k; left = left_in_file s n k; right = right_in_file s n k }

-- the arrays of a file of n points: the points; which of them have helpers; the edge links; what is noted. A
-- place without a point holds 0, 0, no helper and 0, 1,024, 1,024, and a dart without a point is left where it is.
abbrev pub places_in_file : List ℕ → ℕ → List Point
places_in_file s n = table point_limit (until n (point_in_file s) (λ k. origin))

abbrev pub helpers_in_file : List ℕ → ℕ → List Bool
helpers_in_file s n = table point_limit (until n (λ k. eqb (helper_in_file s n k) 1) (λ k. false))

abbrev pub links_in_file : List ℕ → ℕ → List ℕ
links_in_file s n = table dart_limit (until (own n) (link_in_file s n) (λ d. d))

abbrev pub notes_in_file : List ℕ → ℕ → List Note
notes_in_file s n = table point_limit (until n (note_in_file s n) (λ k. no_note))

-- the points of a file, and the map that they build
abbrev pub points_in_file : List ℕ → List Point
points_in_file s =
    let n = count_in_file s in
    table n (point_in (places_in_file s n))

abbrev pub built_in_file : List ℕ → Map
built_in_file s = built empty_map (points_in_file s)

-- one of two by the version of a file
abbrev pub by_version : {A : Type 0} → List ℕ → A → A → A
by_version s old new = cond (eqb (number_at s version_place 1) old_version) old new

-- the map whose fields stand in the file; "their records rebuilt", in version 1
unfoldable pub map_in : List ℕ → Map
map_in s =
    let n = count_in_file s in
    record {
      points = places_in_file s n;
      helpers = helpers_in_file s n;
      edge = links_in_file s n;
      notes = by_version s (built_in_file s).notes (notes_in_file s n);
      count = n;
      reference = number_at s reference_place 2;
    }

-- "loading looks at 7 before 1"
abbrev pub load_call : List ℕ → Call Map
load_call s =
    record {
      meaning = outcome_answer;
      rules = (Refusal.BadFile when not (file_in_form s)) ∷ unsound (map_in s) ∷ [];
      value = map_in s;
    }

unfoldable pub loaded : List ℕ → Result Map Refusal
loaded s =
    answer_of (load_call s)
