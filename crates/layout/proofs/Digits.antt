-- Numbers in bytes, in the order of this page: the digits of a number to the base 256; what is read
-- at a place of lists put together; a number that is written is read back; bytes that are read give
-- the same bytes; two's complement, both ways.
-- Document 01, "Saved form": "Big-endian", "two's complement".
use mathlib.Core.Path.{◌≡◌, refl, sym, ap, ap₂, ◌∙◌}
use mathlib.Core.Logic.{⊎_elim}
use mathlib.Core.List.{List, ◌++◌}
use Prim.Native.Nat.{ℕ, zero, suc, ◌+◌, ◌-◌, ◌*◌, ◌/◌, ◌%◌, ◌^◌, ◌≤◌, ◌<◌}
use native.Mathlib.Nat.{add-zero, zero-add, add-suc, suc-add, add_assoc, pow-suc, pow-succ'}
use native.Mathlib.Nat.{one-le-pow, mod-one, div-one, div-div-eq-div-mul, mod-eq_of_lt}
use native.Mathlib.Omega.{arith}
use borrow.Author.Tests.{lt-ltb, le-ltb}
use lib.IntN.{ℤ, pos, negsuc, nat_abs}
use lib.Arith.{digits_lt, digits_div, digits_mod, mod-mul}
use lib.ListN.{length, get_or, take, drop, get_or-append, length-drop}
use lib.Seq.{get_or-append-add, get_or-take, get_or-drop, length-take-le, ext_get_or}
use Rattle.finite.specs.Bounded.{lt_or_ge}
use Rattle.model.specs.Saved.{Bytes, big_endian, number_at, complement, signed}

pub length_big_endian : (w v : ℕ) → length (big_endian w v) ≡ w
unfolding big_endian
length_big_endian zero v = refl
length_big_endian (suc w) v = ap suc (length_big_endian w v)

-- byte i of a number in i + 1 + d bytes
byte_at : (i d v : ℕ) → get_or (big_endian (i + suc d) v) i 0 ≡ v / 256 ^ d % 256
unfolding big_endian
byte_at zero d v = rw zero-add
byte_at (suc i) d v = rw suc-add (byte_at i d v)

-- the first i bytes of a number in i + d bytes
first_bytes : (i d v : ℕ) → number_at (big_endian (i + d) v) 0 i ≡ v / 256 ^ d % 256 ^ i
unfolding number_at
first_bytes zero d v = sym (mod-one (v / 256 ^ d))
first_bytes (suc i) d v =
    ap₂ (λ (a b : ℕ). a * 256 + b) (higher (first_bytes i (suc d) v)) lowest
    ∙ sym
    (mod-mul (v / 256 ^ d) {m = 256 ^ i} {c = 256} (one-le-pow i 256 (omega arith)) (omega arith))
    ∙ ap (λ (p : ℕ). v / 256 ^ d % p) (sym (pow-suc 256 i))
  where
    higher : number_at (big_endian (i + suc d) v) 0 i ≡ v / 256 ^ suc d % 256 ^ i →
        number_at (big_endian (suc i + d) v) 0 i ≡ v / 256 ^ d / 256 % 256 ^ i
    higher e =
        ap (λ (w : ℕ). number_at (big_endian w v) 0 i) (suc-add i d ∙ sym (add-suc i d)) ∙ e
        ∙ ap (λ (n : ℕ). n % 256 ^ i)
        (ap (λ (p : ℕ). v / p) (pow-suc 256 d) ∙ sym (div-div-eq-div-mul v (256 ^ d) 256))

    lowest : get_or (big_endian (suc i + d) v) (0 + i) 0 ≡ v / 256 ^ d % 256
    lowest = rw (zero-add, suc-add, ← add-suc) (byte_at i d v)

-- ---- at a place of lists put together

pub number_past : (p s : List ℕ) (at w : ℕ) →
    number_at (p ++ s) (length p + at) w ≡ number_at s at w
unfolding number_at
number_past p s at zero = refl
number_past p s at (suc w) =
    ap₂ (λ (a b : ℕ). a * 256 + b) (number_past p s at w)
    (rw add_assoc (get_or-append-add p s (at + w) 0))

pub number_before : (s t : List ℕ) (at w : ℕ) → at + w ≤ length s →
    number_at (s ++ t) at w ≡ number_at s at w
unfolding number_at
number_before s t at zero h = refl
number_before s t at (suc w) h =
    ap₂ (λ (a b : ℕ). a * 256 + b) (number_before s t at w (omega arith))
    (get_or-append s t 0 (at + w) (omega arith))

-- ---- written and read back

pub number_back : (w v : ℕ) → v < 256 ^ w → number_at (big_endian w v) 0 w ≡ v
number_back w v h =
    ap (λ (k : ℕ). number_at (big_endian k v) 0 w) (sym (add-zero w)) ∙ first_bytes w 0 v
    ∙ ap (λ (n : ℕ). n % 256 ^ w) (div-one v) ∙ mod-eq_of_lt h

-- ---- read and written back

module _ {s : List ℕ} (b : Bytes s) where
  pub number_small : (at w : ℕ) → number_at s at w < 256 ^ w
  unfolding number_at
  number_small at zero = omega arith
  number_small at (suc w) = rw pow-suc (digits_lt (number_small at w) (b.small (at + w)))

  -- without its last d bytes
  number_high : (at w d : ℕ) → number_at s at (w + d) / 256 ^ d ≡ number_at s at w
  unfolding number_at
  number_high at w zero = rw add-zero (div-one (number_at s at w))
  number_high at w (suc d) =
      rw (
        add-suc,
        pow-succ',
        ← div-div-eq-div-mul,
        digits_div (number_at s at (w + d)) (b.small (at + (w + d))),
      )
      (number_high at w d)

  pub bytes_back : (at w : ℕ) → at + w ≤ length s →
      big_endian w (number_at s at w) ≡ take w (drop at s)
  unfolding number_at
  bytes_back at w h =
      ext_get_or 0 (big_endian w (number_at s at w)) (take w (drop at s))
      (length_big_endian w (number_at s at w)
      ∙ sym (length-take-le w (drop at s) (omega (arith, length-drop at s))))
      (λ i l. each i (w - suc i) (omega (arith, length_big_endian w (number_at s at w))))
    where
      each : (i d : ℕ) → w ≡ i + suc d →
          get_or (big_endian w (number_at s at w)) i 0 ≡ get_or (take w (drop at s)) i 0
      each i d e =
          ap (λ (k : ℕ). get_or (big_endian k (number_at s at k)) i 0) e
          ∙ byte_at i d (number_at s at (i + suc d))
          ∙ ap (λ (n : ℕ). n % 256)
          (ap (λ (k : ℕ). number_at s at k / 256 ^ d) (add-suc i d ∙ sym (suc-add i d))
          ∙ number_high at (suc i) d)
          ∙ digits_mod (number_at s at i) (b.small (at + i))
          ∙ sym (get_or-take w (drop at s) i 0 (omega arith) ∙ get_or-drop at s i 0)

-- ---- two's complement

pub complement_small : (z : ℤ) → nat_abs z ≤ 2 ^ 31 → complement z < 256 ^ 4
unfolding complement
complement_small (pos n) h = omega arith
complement_small (negsuc n) h = omega arith

pub signed_complement : (z : ℤ) → nat_abs z < 2 ^ 31 → signed (complement z) ≡ z
unfolding complement signed
signed_complement (pos n) h = rw (lt-ltb n (2 ^ 31) h)
signed_complement (negsuc n) h =
    let e : 2 ^ 32 - suc (2 ^ 32 - suc n) ≡ n = omega arith in
    rw (le-ltb (2 ^ 32 - suc n) (2 ^ 31) (omega arith), e)

pub complement_signed : (v : ℕ) → v < 256 ^ 4 → complement (signed v) ≡ v
unfolding complement signed
complement_signed v h = ⊎_elim
    (λ (l : v < 2 ^ 31). rw (lt-ltb v (2 ^ 31) l))
    (λ (l : 2 ^ 31 ≤ v). rw (le-ltb v (2 ^ 31) l) (omega arith))
    (lt_or_ge v (2 ^ 31))
