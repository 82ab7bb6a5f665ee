-- Blocks of fields, in the order of this page: a block of one field more; a block that is written
-- is read back, byte by byte and field by field, wherever it stands; the fields that are read give
-- the same bytes; a list that is written over the front of another, piece after piece. Each law is over
-- the number of fields, their width and the place.
-- Document 01, "Saved form".
use mathlib.Core.Path.{◌≡◌, sym, ap, ap₂, ◌∙◌}
use mathlib.Core.Logic.{⊎_elim}
use mathlib.Core.List.{List, [], ◌++◌, flatten, append_assoc, append-nil}
use Prim.Native.Nat.{ℕ, zero, suc, ◌+◌, ◌-◌, ◌*◌, ◌^◌, ◌≤◌, ◌<◌}
use native.Mathlib.Nat.{add-zero, add_assoc, mul-zero, mul-suc}
use native.Mathlib.Omega.{arith}
use borrow.Rule.Slice.PartMut.{mid_of, put_mid}
use lib.ListN.{length, take, drop, length-append, length-drop, drop_of_length-le}
use lib.Seq.{take-add, take_all, drop-drop, take-append_seam, drop-append_seam}
use Rattle.finite.specs.Bounded.{table, table_onto, table_same, flatten_more, below_suc}
use Rattle.finite.specs.Overwriting.{over}
use Rattle.model.specs.Saved.{Bytes, big_endian, number_at, block, field}
use Rattle.layout.proofs.Digits.{length_big_endian, number_past, number_before, number_back}
use Rattle.layout.proofs.Digits.{bytes_back}

pub block_more : (k w : ℕ) (f : ℕ → ℕ) → block (suc k) w f ≡ block k w f ++ big_endian w (f k)
unfolding block flatten
block_more k w f = flatten_more k (λ i. big_endian w (f i))

pub block_same : (k w : ℕ) (f g : ℕ → ℕ) → ((i : ℕ) → i < k → f i ≡ g i) → block k w f ≡ block k w g
unfolding block
block_same k w f g e = ap flatten (table_same k _ _ (λ i l. ap (big_endian w) (e i l)))

pub length_block : (k w : ℕ) (f : ℕ → ℕ) → length (block k w f) ≡ w * k
unfolding block flatten table_onto table
length_block zero w f = sym (mul-zero w)
length_block (suc k) w f =
    ap length (block_more k w f)
    ∙ omega (
      arith,
      length-append (block k w f) (big_endian w (f k)),
      length_block k w f,
      length_big_endian w (f k),
      mul-suc w k,
    )

-- ---- written and read back

pub number_placed : (p t : List ℕ) (at w v : ℕ) → length p ≡ at → v < 256 ^ w →
    number_at (p ++ (big_endian w v ++ t)) at w ≡ v
number_placed p t at w v e h =
    ap (λ (j : ℕ). number_at (p ++ (big_endian w v ++ t)) j w) (sym e ∙ sym (add-zero (length p)))
    ∙ number_past p (big_endian w v ++ t) 0 w
    ∙ number_before (big_endian w v) t 0 w (omega (arith, length_big_endian w v))
    ∙ number_back w v h

-- the d bytes from byte j on of field i
first_part : (k w : ℕ) (f : ℕ → ℕ) (t : List ℕ) (i j d : ℕ) → i < k → j + d ≤ w →
    number_at (block k w f ++ t) (w * i + j) d ≡ number_at (big_endian w (f i)) j d
first_part zero w f t i j d l h = absurd (omega arith)
first_part (suc k) w f t i j d l h =
    ap (λ (s : List ℕ). number_at (s ++ t) (w * i + j) d) (block_more k w f)
    ∙ ap (λ (s : List ℕ). number_at s (w * i + j) d) (append_assoc (block k w f) (big_endian w (f k)) t)
    ∙ ⊎_elim
    (λ (b : i < k). first_part k w f (big_endian w (f k) ++ t) i j d b h)
    (λ (e : i ≡ k).
    rw (e, ← length_block k w f)
    (number_past (block k w f) (big_endian w (f k) ++ t) j d
    ∙ number_before (big_endian w (f k)) t j d (omega (arith, length_big_endian w (f k)))))
    (below_suc k i l)

pub block_part : (p t : List ℕ) (at k w : ℕ) (f : ℕ → ℕ) → length p ≡ at →
    (i j d : ℕ) → i < k → j + d ≤ w →
    number_at (p ++ (block k w f ++ t)) (at + w * i + j) d ≡ number_at (big_endian w (f i)) j d
block_part p t at k w f e i j d l h =
    ap (λ (a : ℕ). number_at (p ++ (block k w f ++ t)) a d)
    (ap (λ (a : ℕ). a + w * i + j) (sym e) ∙ add_assoc (length p) (w * i) j)
    ∙ number_past p (block k w f ++ t) (w * i + j) d
    ∙ first_part k w f t i j d l h

-- the whole field
pub block_placed : (p t : List ℕ) (at k w : ℕ) (f : ℕ → ℕ) → length p ≡ at →
    (i : ℕ) → i < k → f i < 256 ^ w → field (p ++ (block k w f ++ t)) at w i ≡ f i
block_placed p t at k w f e i l h =
    ap (λ (a : ℕ). number_at (p ++ (block k w f ++ t)) a w) (sym (add-zero (at + w * i)))
    ∙ block_part p t at k w f e i 0 w l (omega arith)
    ∙ number_back w (f i) h

-- ---- read and written back

pub block_back : {s : List ℕ} → Bytes s → (at k w : ℕ) → at + w * k ≤ length s →
    block k w (field s at w) ≡ take (w * k) (drop at s)
unfolding block flatten table_onto table
block_back b at zero w h = rw mul-zero
block_back {s} b at (suc k) w h =
    block_more k w (field s at w)
    ∙ ap₂ ◌++◌ (block_back b at k w (omega (arith, mul-suc w k)))
    (bytes_back b (at + w * k) w (omega (arith, mul-suc w k))
    ∙ ap (take w) (sym (drop-drop (w * k) at s)))
    ∙ sym (take-add (w * k) w (drop at s))
    ∙ ap (λ (j : ℕ). take j (drop at s)) (sym (mul-suc w k))

-- ---- written over the front of a list

-- the piece b is written over what follows the piece a: `last` is what the part from `at` on then
-- holds
pub piece_written : (a b before : List ℕ) (at : ℕ) (lent last : List ℕ) → lent ≡ over a before →
    at ≡ length a →
    at ≤ length lent → last ≡ over b (mid_of at (length lent - at) lent) →
    put_mid at (length lent - at) lent last ≡ over (a ++ b) before
piece_written a b before at lent last e f h g =
    let none : drop (length lent - at) (drop at lent) ≡ [] =
    drop_of_length-le (drop at lent) {i = length lent - at} (omega (arith, length-drop at lent)) in
    let part : mid_of at (length lent - at) lent ≡ drop at lent =
    take_all (length lent - at) (drop at lent) (omega (arith, length-drop at lent)) in
    rw (
      none,
      append-nil,
      g,
      part,
      e,
      f,
      take-append_seam,
      drop-append_seam,
      drop-drop,
      length-append,
      append_assoc,
    )
