-- Digits read one after another, in the order of this page: what a digit is; values of k digits are
-- below 10^k, for any limit of k; the digits at the front of a list; what the loop that adds up
-- their value knows at a place; what the test of a magnitude says; what is read when the loop is
-- over.
use mathlib.Core.Path.{◌≡◌, refl, sym, ap, ◌∙◌}
use mathlib.Core.Logic.{◌≢◌, ◌⊎◌, inl, inr, ⊎_elim}
use mathlib.Core.Bool.{Bool, true, false, not, ◌&&◌, ◌||◌, false≢true}
use mathlib.Core.List.{List, [], ◌∷◌}
use Prim.Native.Nat.{ℕ, ◌+◌, ◌-◌, ◌*◌, ◌^◌, ◌≤◌, ◌<◌}
use native.Mathlib.Nat.{lt_of_lt_of_le, pow-le-pow_right}
use native.Mathlib.Numerals.{add-one}
use native.Mathlib.Omega.{arith}
use lib.Dec.{T, T_not, leb, eqb, leb→le, le→leb}
use lib.ListN.{length, get_or, drop, drop_of_length-le}
use lib.Seq.{drop-cons}
use Rattle.std.specs.declared.option.Option.TheVariants.{Some, None}
use Rattle.finite.specs.Tests.{and_left, and_right, and_both, decide, is_true, is_false, of_true}
use Rattle.finite.specs.Lists.{all_in}
use Rattle.model.specs.Spelling.{digit_zero}
use Rattle.model.specs.Text.{digit_limit, is_digit, leading_digits, value_after}
use Rattle.survey.specs.Numbers.{is_magnitude, magnitude_read, no_leading_zero}

-- what an option holds
pub some_same : {A : Type 0} (a b : A) → Some a ≡ Some b → a ≡ b
some_same a b e = cc

pub digit_or_not : (b : ℕ) → (is_digit b ≡ true) ⊎ (is_digit b ≡ false)
digit_or_not b =
    ⊎_elim
    (λ (t : T (is_digit b)). inl (is_true (is_digit b) t))
    (λ (t : T (not (is_digit b))). inr (is_false (is_digit b) (T_not (is_digit b) t)))
    (decide (is_digit b))

pub digit_small : (b : ℕ) → T (is_digit b) → (digit_zero ≤ b) × (b - digit_zero ≤ 9)
unfolding is_digit
digit_small b t =
    let low : digit_zero ≤ b = leb→le digit_zero b (and_left (leb digit_zero b) _ t) in
    let high : b ≤ digit_zero + 9 = leb→le b (digit_zero + 9) (and_right (leb digit_zero b) _ t) in
    (low, omega arith)

-- ---- how large a value is

pub one_more_digit : (v i d : ℕ) → v < 10 ^ i → d ≤ 9 → v * 10 + d < 10 ^ (i + 1)
one_more_digit v i d h l = rw add-one (omega arith)

pub below_limit : (limit : ℕ) {v i : ℕ} → v < 10 ^ i → i ≤ limit → v < 10 ^ limit
below_limit limit h l = lt_of_lt_of_le h (pow-le-pow_right (omega arith) l)

-- ---- the digits at the front

-- the first byte is a digit, or not
module _ (b : ℕ) (s : List ℕ) where
  pub leading_more : is_digit b ≡ true → leading_digits (b ∷ s) ≡ b ∷ leading_digits s
  unfolding leading_digits
  leading_more e = rw e

  pub leading_none : is_digit b ≡ false → leading_digits (b ∷ s) ≡ []
  unfolding leading_digits
  leading_none e = rw e

pub leading_each : (s : List ℕ) → T (all_in is_digit (leading_digits s))
unfolding leading_digits all_in
leading_each [] = tt
leading_each (b ∷ s) =
    ⊎_elim
    (λ (e : is_digit b ≡ true).
    rw (leading_more b s e)
    (and_both (is_digit b) (all_in is_digit (leading_digits s)) (of_true (is_digit b) e)
    (leading_each s)))
    (λ (e : is_digit b ≡ false). rw (leading_none b s e) tt)
    (digit_or_not b)

-- where there is one, the first is the list's first byte
leading_first : (s : List ℕ) → 1 ≤ length (leading_digits s) →
    get_or (leading_digits s) 0 0 ≡ get_or s 0 0
unfolding leading_digits
leading_first [] h = refl
leading_first (b ∷ s) h =
    ⊎_elim
    (λ (e : is_digit b ≡ true). rw (leading_more b s e))
    (λ (e : is_digit b ≡ false). absurd (omega (arith, ap length (leading_none b s e))))
    (digit_or_not b)

-- ---- the loop

-- the digits before place i have the value v, and those from there on complete them
pub record Valued (s : List ℕ) (v i : ℕ) : Type 0 where
  pub ahead : value_after v (leading_digits (drop i s)) ≡ value_after 0 (leading_digits s)
  pub counted : i + length (leading_digits (drop i s)) ≡ length (leading_digits s)
  pub small : v < 10 ^ i
  pub inside : i ≤ length s

pub valued_none : (s : List ℕ) → Valued s 0 0
valued_none s =
    record { ahead = refl; counted = omega arith; small = omega arith; inside = omega arith }

module _ {s : List ℕ} {v i : ℕ} (w : Valued s v i) where
  pub valued_more : i < length s → is_digit (get_or s i 0) ≡ true →
      Valued s (v * 10 + (get_or s i 0 - digit_zero)) (i + 1)
  unfolding value_after
  valued_more h e =
      let more = ap leading_digits (drop-cons s i 0 h) ∙ leading_more (get_or s i 0) _ e in
      record {
        ahead = rw add-one (rw more at w.ahead);
        counted = rw add-one (omega (arith, w.counted, ap length more));
        small = one_more_digit v i _ w.small (digit_small (get_or s i 0) (of_true _ e)).1;
        inside = omega arith;
      }

  -- no digit is left
  pub valued_all : leading_digits (drop i s) ≡ [] →
      (v ≡ value_after 0 (leading_digits s)) × (i ≡ length (leading_digits s))
  unfolding value_after
  valued_all e = (rw e at w.ahead, omega (arith, w.counted, ap length e))

  pub valued_end : length s ≤ i → leading_digits (drop i s) ≡ []
  unfolding leading_digits
  valued_end h = ap leading_digits (drop_of_length-le s h)

  pub valued_stop : i < length s → is_digit (get_or s i 0) ≡ false → leading_digits (drop i s) ≡ []
  valued_stop h e = ap leading_digits (drop-cons s i 0 h) ∙ leading_none (get_or s i 0) _ e

-- ---- magnitudes

-- what the test of a magnitude says
pub record Digits (d : List ℕ) : Type 0 where
  pub some : 1 ≤ length d
  pub few : length d ≤ digit_limit
  pub each : T (all_in is_digit d)
  pub leads : T (no_leading_zero d)

module _ (d : List ℕ) where
  pub magnitude_digits : T (is_magnitude d) → Digits d
  unfolding is_magnitude
  magnitude_digits t =
      let first_three = and_left (leb 1 (length d) && leb (length d) digit_limit && all_in is_digit
      d) (no_leading_zero d) t in
      let first_two = and_left (leb 1 (length d) && leb (length d) digit_limit) (all_in is_digit d)
      first_three in
      record {
        some = leb→le 1 (length d) (and_left (leb 1 (length d)) (leb (length d) digit_limit)
            first_two);
        few = leb→le (length d) digit_limit (and_right (leb 1 (length d)) (leb (length d)
            digit_limit) first_two);
        each = and_right (leb 1 (length d) && leb (length d) digit_limit) (all_in is_digit d)
            first_three;
        leads = and_right (leb 1 (length d) && leb (length d) digit_limit && all_in is_digit d)
            (no_leading_zero d) t;
      }

  pub digits_magnitude : Digits d → T (is_magnitude d)
  unfolding is_magnitude
  digits_magnitude w =
      and_both (leb 1 (length d) && leb (length d) digit_limit && all_in is_digit d)
      (no_leading_zero d)
      (and_both (leb 1 (length d) && leb (length d) digit_limit) (all_in is_digit d)
      (and_both (leb 1 (length d)) (leb (length d) digit_limit) (le→leb 1 (length d) w.some)
      (le→leb (length d) digit_limit w.few))
      w.each)
      w.leads

-- of the digits at the front of a list
module _ (s : List ℕ) where
  pub magnitude_value : T (is_magnitude (leading_digits s)) →
      let d = leading_digits s in
      magnitude_read s ≡ Some (record { value = value_after 0 d; count = length d })
  unfolding magnitude_read
  magnitude_value t = rw (is_true (is_magnitude (leading_digits s)) t)

  pub magnitude_none : (T (is_magnitude (leading_digits s)) → ⊥) →
      magnitude_read s ≡ None
  unfolding magnitude_read
  magnitude_none n = rw (is_false (is_magnitude (leading_digits s)) n)

-- when the loop is over, and no digit is left
module _ {s : List ℕ} {v i : ℕ} (w : Valued s v i) (none : leading_digits (drop i s) ≡ []) where
  counted : i ≡ length (leading_digits s)
  counted = (valued_all w none).1

  pub read_empty : i ≡ 0 → magnitude_read s ≡ None
  read_empty e =
      magnitude_none s (λ t. omega (arith, counted, (magnitude_digits (leading_digits s) t).some))

  module _ (some : i ≢ 0)
      {b : Bool} (leads : b ≡ (not (eqb (get_or s 0 0) digit_zero) || eqb i 1)) where
    leading : no_leading_zero (leading_digits s) ≡ b
    unfolding no_leading_zero
    leading = rw (leading_first s (omega (arith, counted, some)), ← counted) (sym leads)

    pub read_value : i ≤ digit_limit → b ≡ true → magnitude_read s ≡ Some (record { value = v; count = i })
    read_value few e =
        let t = digits_magnitude (leading_digits s) (record {
          some = omega (arith, counted, some);
          few = omega (arith, counted);
          each = leading_each s;
          leads = of_true _ (leading ∙ e);
        }) in
        rw ((valued_all w none).0, counted) (magnitude_value s t)

    pub read_zero : b ≡ false → magnitude_read s ≡ None
    read_zero e =
        magnitude_none s
        (λ t. let passes = is_true _ (magnitude_digits (leading_digits s) t).leads in
        false≢true (sym (leading ∙ e) ∙ passes))
