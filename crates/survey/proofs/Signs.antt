-- A number is a sign and a magnitude, in the order of this page: what a magnitude that is read
-- says, and that it is below 10^digit-limit; what stands after the optional minus; the number at
-- the front of a list in each case of sign and magnitude.
use mathlib.Core.Path.{◌≡◌, refl, sym, ap, ◌∙◌}
use mathlib.Core.Logic.{◌≢◌, ⊎_elim}
use mathlib.Core.Bool.{true, false, not, ◌&&◌, false≢true}
use mathlib.Core.List.{List, [], ◌∷◌}
use Prim.Native.Nat.{ℕ, suc, ◌+◌, ◌-◌, ◌*◌, ◌^◌, ◌≤◌, ◌<◌}
use native.Mathlib.Nat.{add-zero, add-suc, suc-add}
use native.Mathlib.Numerals.{add-one}
use native.Mathlib.Omega.{arith}
use borrow.Author.Tests.{eq-eqb, ne_eqb, eqb-true}
use lib.Dec.{T, T_not, eqb}
use lib.IntN.{pos, neg_ℤ}
use lib.ListN.{length, take, drop}
use lib.Seq.{take_all}
use Rattle.std.specs.declared.option.Option.TheVariants.{Some, None}
use Rattle.finite.specs.Tests.{decide, is_true, is_false, of_true, and_left, and_right}
use Rattle.finite.specs.Lists.{all_in}
use Rattle.model.specs.Spelling.{digit_zero, minus}
use Rattle.model.specs.Text.{digit_limit, digits, front, has_minus, is_digit, is_number, leading_digits, magnitude, number_value, value_after}
use Rattle.survey.specs.declared.numbers.Magnitude.{Magnitude}
use Rattle.survey.specs.Numbers.{front_number, is_magnitude, magnitude_read, no_leading_zero}
use Rattle.survey.proofs.Digits.{some_same, magnitude_digits, digit_small, below_limit, digit_or_not, leading_none, leading_more, magnitude_value, magnitude_none}

-- ---- magnitudes

pub value_small : (v i : ℕ) (d : List ℕ) → v < 10 ^ i → T (all_in is_digit d) →
    value_after v d < 10 ^ (i + length d)
unfolding value_after all_in
value_small v i [] h t = rw add-zero h
value_small v i (b ∷ d) h t =
    let small = (digit_small b (and_left (is_digit b) (all_in is_digit d) t)).1 in
    let step : v * 10 + (b - digit_zero) < 10 ^ suc i = omega (arith, small) in
    rw (add-suc, ← suc-add)
    (value_small (v * 10 + (b - digit_zero)) (suc i) d step (and_right (is_digit b) (all_in
    is_digit d) t))

-- what was read is the value of the digits at the front, and their number
pub record Reads (s : List ℕ) (m n : ℕ) : Type 0 where
  pub passes : is_magnitude (leading_digits s) ≡ true
  pub value : m ≡ value_after 0 (leading_digits s)
  pub counted : n ≡ length (leading_digits s)
  pub few : n ≤ digit_limit
  pub small : m < 10 ^ digit_limit

module _ (s : List ℕ) where
  pub reads_value : (m n : ℕ) → magnitude_read s ≡ Some (record { value = m; count = n }) → Reads s m n
  reads_value m n e =
      let d = leading_digits s in
      ⊎_elim
      (λ (t : T (is_magnitude d)).
      let has = some_same _ _ (sym e ∙ magnitude_value s t) in
      let value : m ≡ value_after 0 d = ap (λ (r : Magnitude). r.value) has in
      let counted : n ≡ length d = ap (λ (r : Magnitude). r.count) has in
      let digits_of = magnitude_digits d t in
      record {
        passes = is_true (is_magnitude d) t;
        value = value;
        counted = counted;
        few = omega (arith, counted, digits_of.few);
        small =
            rw value
            (below_limit digit_limit (value_small 0 0 d (omega arith) digits_of.each) (omega
            (arith, digits_of.few)));
      })
      (λ (t : T (not (is_magnitude d))).
      let has = magnitude_none s (T_not (is_magnitude d) t) in
      let z : ◌≡◌ {A = ℕ} 0 1 = cc in absurd (omega arith))
      (decide (is_magnitude d))

  pub reads_none : magnitude_read s ≡ None → is_magnitude (leading_digits s) ≡ false
  reads_none e =
      is_false (is_magnitude (leading_digits s))
      (λ t. let has = magnitude_value s t in let z : ◌≡◌ {A = ℕ} 0 1 = cc in omega arith)

-- ---- the optional minus

pub digits_plain : (s : List ℕ) → has_minus s ≡ false → digits s ≡ s
unfolding digits has_minus
digits_plain [] e = refl
digits_plain (b ∷ s) e = rw e

-- with a minus they stand from place 1 on
pub signed_some : (s : List ℕ) → has_minus s ≡ true → 1 ≤ length s
unfolding has_minus
signed_some [] e = absurd (false≢true e)
signed_some (b ∷ s) e = omega arith

pub digits_signed : (s : List ℕ) → has_minus s ≡ true → digits s ≡ take (length s - 1) (drop 1 s)
unfolding digits has_minus
digits_signed [] e = absurd (false≢true e)
digits_signed (b ∷ s) e = rw (e, take_all (length (b ∷ s) - 1) s (omega arith))

-- digits have no minus
leading_plain : (s : List ℕ) → has_minus (leading_digits s) ≡ false
unfolding leading_digits has_minus
leading_plain [] = refl
leading_plain (b ∷ s) =
    ⊎_elim
    (λ (e : is_digit b ≡ true).
    let other : b ≢ minus = λ f. omega (arith, (digit_small b (of_true (is_digit b) e)).0) in
    rw (leading_more b s e, ne_eqb b minus other))
    (λ (e : is_digit b ≡ false). rw (leading_none b s e))
    (digit_or_not b)

front_signed : (s : List ℕ) → has_minus s ≡ true → front s ≡ minus ∷ leading_digits (digits s)
unfolding front has_minus digits
front_signed [] e = absurd (false≢true e)
front_signed (b ∷ s) e = rw (e, eqb-true b minus e)

front_plain : (s : List ℕ) → has_minus s ≡ false → front s ≡ leading_digits (digits s)
unfolding front has_minus digits leading_digits
front_plain [] e = refl
front_plain (b ∷ s) e = rw e

-- ---- numbers

pub number_is : (s : List ℕ) → is_number s ≡ (is_magnitude (digits s) && not (has_minus s && eqb
    (magnitude s) 0))
unfolding is_number is_magnitude no_leading_zero
number_is s = refl

-- a number at the front, by the magnitude d that stands after the optional minus
module _ (s d : List ℕ) (from : digits s ≡ d) where
  signed_front : has_minus s ≡ true → front s ≡ minus ∷ leading_digits d
  signed_front e = rw (front_signed s e, from)

  plain_front : has_minus s ≡ false → front s ≡ leading_digits d
  plain_front e = rw (front_plain s e, from)

  -- with the sign, where there is one, taken off
  front_digits : digits (front s) ≡ leading_digits d
  unfolding digits
  front_digits =
      ⊎_elim
      (λ (t : T (has_minus s)). rw (signed_front (is_true (has_minus s) t)))
      (λ (t : T (not (has_minus s))).
      let e = is_false (has_minus s) (T_not (has_minus s) t) in
      rw (plain_front e) (digits_plain (leading_digits d) (leading_plain d)))
      (decide (has_minus s))

  pub front_malformed : magnitude_read d ≡ None → front_number s ≡ None
  unfolding front_number
  front_malformed e = rw (number_is (front s), front_digits, reads_none d e)

  module _ (m n : ℕ) (e : magnitude_read d ≡ Some (record { value = m; count = n })) where
    reads : Reads d m n
    reads = reads_value d m n e

    is_value : magnitude (front s) ≡ m
    unfolding magnitude
    is_value = rw front_digits (sym reads.value)

    passes : is_magnitude (digits (front s)) ≡ true
    passes = rw front_digits reads.passes

    pub front_positive : has_minus s ≡ false → front_number s ≡ Some (record { value = pos m; end = n })
    unfolding front_number number_value
    front_positive h =
        let plain : has_minus (front s) ≡ false = rw (plain_front h) (leading_plain d) in
        let ends : length (front s) ≡ n = rw (plain_front h) (sym reads.counted) in
        rw (number_is (front s), passes, plain, is_value, ends)

    module _ (h : has_minus s ≡ true) where
      signed : has_minus (front s) ≡ true
      unfolding has_minus
      signed = rw (signed_front h)

      pub front_negative : m ≢ 0 → front_number s ≡ Some (record { value = neg_ℤ (pos m); end = n + 1 })
      unfolding front_number number_value
      front_negative l =
          let ends : length (front s) ≡ n + 1 =
          rw (signed_front h, add-one) (ap suc (sym reads.counted)) in
          rw (number_is (front s), passes, signed, is_value, ne_eqb m 0 l, ends)

      pub front_minus_zero : m ≡ 0 → front_number s ≡ None
      unfolding front_number
      front_minus_zero l = rw (number_is (front s), passes, signed, is_value, eq-eqb m 0 l)
