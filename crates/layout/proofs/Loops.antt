-- The loops that read a number byte by byte, highest first, and write one, lowest first: each an
-- invariant with the laws of its start, of one byte more, and of its end.
use mathlib.Core.Path.{◌≡◌, refl, sym, ap, subst, ◌∙◌}
use mathlib.Core.List.{List, flatten}
use Prim.Native.Nat.{ℕ, suc, ◌+◌, ◌-◌, ◌*◌, ◌/◌, ◌%◌, ◌^◌, ◌≤◌, ◌<◌}
use native.Mathlib.Nat.{pow-suc, div-one, div-div-eq-div-mul, le_trans, pow-le-pow_right, mul-add}
use native.Mathlib.Numerals.{add-one}
use native.Mathlib.Omega.{arith}
use borrow.Rule.Slice.PartMut.{mid_of, put_mid}
use lib.Arith.{digits_lt}
use lib.ListN.{length, get_or, set}
use Rattle.finite.specs.Bounded.{table, table_onto}
use Rattle.finite.specs.Overwriting.{over, over_at, over_front, over_length, over_nothing}
use Rattle.finite.specs.Overwriting.{over_before}
use Rattle.model.specs.Saved.{big_endian, number_at, block}
use Rattle.layout.proofs.Digits.{length_big_endian}
use Rattle.layout.proofs.Blocks.{block_more, length_block, piece_written}

-- ---- a number that is read byte by byte

pub record NumberRead (s : List ℕ) (at i number : ℕ) : Type 0 where
  pub is : number ≡ number_at s at i
  pub small : number < 256 ^ i

pub no_byte_read : (s : List ℕ) (at : ℕ) → NumberRead s at 0 0
unfolding number_at
no_byte_read s at = record { is = refl; small = omega arith }

module _ {s : List ℕ} {at i number : ℕ} (r : NumberRead s at i number) where
  -- with three bytes read, one more fits 4 bytes
  pub room : i < 4 → number < 256 ^ 3
  room l =
      le_trans r.small (pow-le-pow_right {n = 256} (omega arith) {i = i} {j = 3} (omega arith))

  pub one_byte_read : get_or s (at + i) 0 < 256 →
      NumberRead s at (i + 1) (number * 256 + get_or s (at + i) 0)
  unfolding number_at
  one_byte_read h =
      rw add-one
      (record {
        is = ap (λ (n : ℕ). n * 256 + get_or s (at + i) 0) r.is;
        small = rw pow-suc (digits_lt r.small h);
      })

  pub all_bytes_read : (w : ℕ) → i ≡ w → (number ≡ number_at s at w) × (number < 256 ^ w)
  all_bytes_read w e =
      subst (λ (j : ℕ). (number ≡ number_at s at j) × (number < 256 ^ j)) e (r.is, r.small)

-- ---- a number that is written byte by byte, the last byte first

-- the bytes from `left` on are written, and `rest` is what is left of the number
pub record NumberPut (before : List ℕ) (width value left rest : ℕ) (lent : List ℕ) : Type 0 where
  pub ahead : left ≤ width
  pub rest_is : rest ≡ value / 256 ^ (width - left)
  pub lent_is : lent ≡ over_at before left (big_endian (width - left) value)

pub no_byte_put : (before : List ℕ) (width value : ℕ) →
    NumberPut before width value width value before
unfolding big_endian
no_byte_put before width value =
    let e : width - width ≡ 0 = omega arith in
    record {
      ahead = omega arith;
      rest_is = rw e (sym (div-one value));
      lent_is = rw e (sym (over_nothing before width));
    }

pub one_byte_put : {before : List ℕ} {width value left rest : ℕ} {lent : List ℕ} →
    NumberPut before width value left rest lent →
    width ≤ length before → 0 < left → NumberPut before width value (left - 1) (rest / 256)
    (set lent (left - 1) (rest % 256))
unfolding big_endian
one_byte_put {before} {width} {value} {left} {rest} {lent} p fits l =
    let h = p.ahead in
    let e : left ≡ left - 1 + 1 = omega arith in
    let f : width - (left - 1) ≡ suc (width - left) = omega arith in
    record {
      ahead = omega arith;
      rest_is = rw (f, pow-suc, ← div-div-eq-div-mul, ← p.rest_is);
      lent_is =
          rw (f, ← p.rest_is)
          (ap (λ (s : List ℕ). set s (left - 1) (rest % 256))
          (p.lent_is ∙ ap (λ (j : ℕ). over_at before j written) e)
          ∙ over_before before (left - 1) (rest % 256) written
          (omega (arith, length_big_endian (width - left) value)));
    }
  where
    written : List ℕ
    written = big_endian (width - left) value

pub all_bytes_put : {before : List ℕ} {width value left rest : ℕ} {lent : List ℕ} →
    NumberPut before width value left rest lent →
    left ≤ 0 → lent ≡ over (big_endian width value) before
all_bytes_put {before} {width} {value} {left} p l =
    let e : left ≡ 0 = omega arith in
    let f : width - left ≡ width = omega arith in
    rw e at (rw f at p.lent_is) ∙ over_front before (big_endian width value)

-- ---- a block that is written field by field

-- k of n fields of w bytes are written over the front of what the list held before
pub record BlockPut (f : ℕ → ℕ) (w n : ℕ) (before : List ℕ) (k : ℕ) (lent : List ℕ) : Type 0 where
  pub within : k ≤ n
  pub lent_is : lent ≡ over (block k w f) before
  pub same_length : length lent ≡ length before

pub no_field_put : {f : ℕ → ℕ} {w n : ℕ} {before : List ℕ} → BlockPut f w n before 0 before
unfolding block table table_onto flatten
no_field_put = record { within = omega arith; lent_is = refl; same_length = refl }

module _ {f : ℕ → ℕ} {w n : ℕ} {before : List ℕ} {k : ℕ} {lent : List ℕ}
    (p : BlockPut f w n before k lent) where
  -- one field more: `number` is what is put into the part from `at` on, and `last` what the part then
  -- holds
  pub one_field_put : {at number : ℕ} {last : List ℕ} → k < n → at ≡ w * k →
      w * (k + 1) ≤ length before → number ≡ f k →
      last ≡ over (big_endian w number) (mid_of at (length lent - at) lent) →
      BlockPut f w n before (k + 1) (put_mid at (length lent - at) lent last)
  one_field_put {at} {number} {last} l e h is g =
      record {
        within = omega arith;
        lent_is = written;
        same_length =
            ap length written ∙ over_length (block (k + 1) w f) before (rw length_block h);
      }
    where
      written : put_mid at (length lent - at) lent last ≡ over (block (k + 1) w f) before
      written =
          piece_written (block k w f) (big_endian w (f k)) before at lent last p.lent_is
          (e ∙ sym (length_block k w f))
          (omega (arith, p.same_length, mul-add w k 1))
          (g ∙ ap (λ (v : ℕ). over (big_endian w v) (mid_of at (length lent - at) lent)) is)
          ∙ ap (λ (s : List ℕ). over s before)
          (sym (ap (λ (j : ℕ). block j w f) (add-one k) ∙ block_more k w f))

  pub all_fields_put : n ≤ k → lent ≡ over (block n w f) before
  all_fields_put l =
      let e : k ≡ n = omega (arith, p.within) in
      p.lent_is ∙ ap (λ (j : ℕ). over (block j w f) before) e
