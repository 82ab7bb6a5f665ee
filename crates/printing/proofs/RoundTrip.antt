-- Numbers are read as they are written, and written as they are read, in the order of this page:
-- the value of digits with one digit more; what decimal digits are, and how few; digits that are
-- read are the decimal digits of their value; then with the sign, for every number below
-- 10^digit-limit. For request #101.
use mathlib.Core.Path.{◌≡◌, refl, sym, ap, subst, ◌∙◌}
use mathlib.Core.Logic.{⊎_elim, ◌≢◌}
use mathlib.Core.Bool.{Bool, true, false, not, ◌&&◌, false≢true}
use mathlib.Core.List.{List, [], ◌∷◌, ◌++◌, append-nil}
use Prim.Native.Nat.{ℕ, zero, suc, ◌+◌, ◌-◌, ◌*◌, ◌/◌, ◌%◌, ◌^◌, ◌≤◌, ◌<◌}
use native.Mathlib.Nat.{zero-add, suc-add}
use native.Mathlib.Omega.{arith}
use borrow.Author.Tests.{ne_eqb, eqb-true}
use lib.Dec.{T, leb, eqb, le→leb, eqb→eq}
use lib.IntN.{ℤ, pos, negsuc, neg_ℤ, nat_abs}
use lib.ListN.{length, get_or, length-append, get_or-append}
use lib.Seq.{append_snoc}
use Rattle.finite.specs.Tests.{and_left, and_right, and_both, or_cases, or_left, or_right, is_true, of_true, same_or_not, differ_use, differ_by, equal_by}
use Rattle.finite.specs.Bounded.{lt_or_ge}
use Rattle.finite.specs.Lists.{all_in}
use Rattle.finite.specs.ListLaws.{all_in_at}
use Rattle.model.specs.Spelling.{decimal, digit_zero, minus, spelt}
use Rattle.model.specs.Text.{digit_limit, digits, has_minus, is_digit, is_number, magnitude, number_value, value_after}
use Rattle.survey.specs.Numbers.{is_magnitude, no_leading_zero}
use Rattle.survey.proofs.Digits.{digits_magnitude, magnitude_digits, digit_small, below_limit}
use Rattle.printing.proofs.Decimals.{decimal_one, decimal_front, decimal_enough, decimal_more, decimal_length}
use Rattle.survey.proofs.Signs.{digits_plain, number_is}

-- ---- one digit more at the end

value_snoc : (n : ℕ) (s : List ℕ) (b : ℕ) →
    value_after n (s ++ b ∷ []) ≡ value_after n s * 10 + (b - digit_zero)
unfolding value_after
value_snoc n [] b = refl
value_snoc n (c ∷ s) b = value_snoc (n * 10 + (c - digit_zero)) s b

digits_snoc : (s : List ℕ) (b : ℕ) → T (all_in is_digit s) → T (is_digit b) →
    T (all_in is_digit (s ++ b ∷ []))
unfolding all_in
digits_snoc [] b t u = and_both (is_digit b) true u tt
digits_snoc (c ∷ s) b t u =
    and_both (is_digit c) (all_in is_digit (s ++ b ∷ [])) (and_left (is_digit c) (all_in is_digit
    s) t)
    (digits_snoc s b (and_right (is_digit c) (all_in is_digit s) t) u)

digit_is : (d : ℕ) → d < 10 → T (is_digit (digit_zero + d))
unfolding is_digit
digit_is d h =
    and_both (leb digit_zero (digit_zero + d)) (leb (digit_zero + d) (digit_zero + 9))
    (le→leb digit_zero (digit_zero + d) (omega arith)) (le→leb (digit_zero + d) (digit_zero + 9)
    (omega arith))

-- ---- decimal digits

-- digits whose value is n, with no leading zero save 0 itself
record Spells (n : ℕ) (s : List ℕ) : Type 0 where
  value : value_after 0 s ≡ n
  each : T (all_in is_digit s)
  some : 1 ≤ length s
  leading : get_or s 0 0 ≡ digit_zero → n ≡ 0
  alone : n ≡ 0 → s ≡ digit_zero ∷ []

one_spells : (n : ℕ) → n < 10 → Spells n ((digit_zero + n) ∷ [])
unfolding value_after all_in
one_spells n h =
    record {
      value = omega arith;
      each = and_both (is_digit (digit_zero + n)) true (digit_is n h) tt;
      some = omega arith;
      leading = λ e. omega arith;
      alone = λ e. rw e;
    }

more_spells : (n : ℕ) (s : List ℕ) → 10 ≤ n → Spells (n / 10) s →
    Spells n (s ++ (digit_zero + n % 10) ∷ [])
more_spells n s h w =
    let last : ℕ = digit_zero + n % 10 in
    record {
      value = value_snoc 0 s last ∙ rw w.value (omega arith);
      each = digits_snoc s last w.each (digit_is (n % 10) (omega arith));
      some = omega (arith, w.some, length-append s (last ∷ []));
      leading =
          λ e. absurd (omega (
            arith,
            w.leading (sym (get_or-append s (last ∷ []) 0 0 w.some) ∙ e),
          ));
      alone = λ e. absurd (omega arith);
    }

decimal_spells : (k n : ℕ) → n < 10 ^ suc k → Spells n (decimal (suc k) n)
decimal_spells zero n h = let l : n < 10 = h in rw (decimal_one 0 n l) (one_spells n l)
decimal_spells (suc k) n h =
    ⊎_elim
    (λ (l : n < 10). rw (decimal_one (suc k) n l) (one_spells n l))
    (λ (l : 10 ≤ n).
    rw (decimal_front (suc k) n l)
    (more_spells n (decimal (suc k) (n / 10)) l (decimal_spells k (n / 10) (omega arith))))
    (lt_or_ge n 10)

-- a number below 10^k has k digits at most, whatever is allowed
decimal_same : (j k n : ℕ) → n < 10 ^ suc k → decimal (suc (j + k)) n ≡ decimal (suc k) n
decimal_same zero k n h = rw zero-add
decimal_same (suc j) k n h =
    let far : n < 10 ^ suc (j + k) = below_limit (suc (j + k)) h (omega arith) in
    rw suc-add (decimal_enough (j + k) n far ∙ decimal_same j k n h)

decimal_few : (most k n : ℕ) → k ≤ most → n < 10 ^ suc k → length (decimal (suc most) n) ≤ suc k
decimal_few most k n l h =
    let e : (most - k) + k ≡ most = omega arith in
    omega (
      arith,
      ap length (ap (λ (m : ℕ). decimal (suc m) n) (sym e)
          ∙ decimal_same (most - k) k n h),
      decimal_length (suc k) n,
    )

-- ---- digits that are read

-- digits after those of v are the decimal digits of the value after v
decimal_follows : (k i v : ℕ) (d : List ℕ) → 1 ≤ v → v < 10 ^ i → i + length d ≤ suc (suc k) →
    T (all_in is_digit d) →
    decimal (suc (suc k)) (value_after v d) ≡ decimal (suc (suc k)) v ++ d
unfolding value_after all_in
decimal_follows k i v [] h l f t = sym (append-nil (decimal (suc (suc k)) v))
decimal_follows k i v (b ∷ d) h l f t =
    let small = digit_small b (and_left (is_digit b) (all_in is_digit d) t) in
    let x : ℕ = b - digit_zero in
    let n : ℕ = v * 10 + x in
    let below : n < 10 ^ suc i = omega (arith, small.1) in
    let next : decimal (suc (suc k)) n ≡ decimal (suc (suc k)) (n / 10) ++ (digit_zero + n % 10)
    ∷ [] =
    decimal_more k n (omega arith) (below_limit (suc (suc k)) below (omega arith)) in
    let front : n / 10 ≡ v = omega (arith, small.1) in
    let last : digit_zero + n % 10 ≡ b = omega (arith, small.0, small.1) in
    let grown : decimal (suc (suc k)) n ≡ decimal (suc (suc k)) v ++ b ∷ [] = rw (front, last) at
    next in
    decimal_follows k (suc i) n d (omega arith) below (omega arith) (and_right (is_digit b)
    (all_in is_digit d) t) ∙
    ap (λ (s : List ℕ). s ++ d) grown ∙ append_snoc (decimal (suc (suc k)) v) b d

lone_zero : (b : ℕ) (s : List ℕ) → b ≡ digit_zero → T (no_leading_zero (b ∷ s)) → s ≡ []
unfolding no_leading_zero
lone_zero b [] e t = refl
lone_zero b (c ∷ s) e t =
    ⊎_elim
    (λ (u : T (not (eqb b digit_zero))). absurd (differ_use b digit_zero u e))
    (λ (u : T (eqb (length (b ∷ c ∷ s)) 1)). absurd (omega (
      arith,
      eqb→eq (length (b ∷ c ∷ s)) 1
          u,
    )))
    (or_cases (not (eqb b digit_zero)) (eqb (length (b ∷ c ∷ s)) 1) t)

-- a magnitude is the spelling of its value
pub magnitude_spelt : (d : List ℕ) → T (is_magnitude d) → spelt (pos (value_after 0 d)) ≡ d
unfolding spelt value_after all_in
magnitude_spelt [] t = absurd (omega (arith, (magnitude_digits [] t).some))
magnitude_spelt (b ∷ s) t =
    let w = magnitude_digits (b ∷ s) t in
    let small = digit_small b (and_left (is_digit b) (all_in is_digit s) w.each) in
    let x : ℕ = b - digit_zero in
    let v : 0 * 10 + x ≡ x = omega arith in
    ap (λ (n : ℕ). decimal 20 (value_after n s)) v ∙
    ⊎_elim
    (λ (e : b ≡ digit_zero).
    let none : s ≡ [] = lone_zero b s e w.leads in
    let zero_is : x ≡ 0 = omega arith in
    rw (none, zero_is, e) (decimal_one 19 0 (omega arith)))
    (λ (n : b ≢ digit_zero).
    let last : digit_zero + x ≡ b = omega (arith, small.0) in
    let one : decimal 20 x ≡ b ∷ [] = decimal_one 19 x (omega (arith, small.1))
    ∙ ap (λ (c : ℕ). c ∷ []) last in
    let some : 1 ≤ x = omega (arith, small.0, n) in
    decimal_follows 18 1 x s some (omega (arith, small.1)) (omega (arith, w.few))
    (and_right (is_digit b) (all_in is_digit s) w.each)
    ∙ ap (λ (l : List ℕ). l ++ s) one)
    (same_or_not b digit_zero)

-- and the spelling of a small number is a magnitude, with the number for its value
module _ (n : ℕ) (small : n < 10 ^ digit_limit) where
  spells : Spells n (spelt (pos n))
  unfolding spelt
  spells = decimal_spells 19 n (below_limit 20 {i = digit_limit} small (omega arith))

  pub spelt_value : value_after 0 (spelt (pos n)) ≡ n
  spelt_value = spells.value

  few : length (spelt (pos n)) ≤ digit_limit
  unfolding spelt
  few = decimal_few 19 (digit_limit - 1) n (omega arith) small

  leads : T (no_leading_zero (spelt (pos n)))
  unfolding no_leading_zero
  leads =
      let s : List ℕ = spelt (pos n) in
      ⊎_elim
      (λ (e : get_or s 0 0 ≡ digit_zero).
      or_right (not (eqb (get_or s 0 0) digit_zero)) (eqb (length s) 1)
      (equal_by (length s) 1 (ap length (spells.alone (spells.leading e)))))
      (λ (d : get_or s 0 0 ≢ digit_zero).
      or_left (not (eqb (get_or s 0 0) digit_zero)) (eqb (length s) 1) (differ_by (get_or s 0 0)
      digit_zero d))
      (same_or_not (get_or s 0 0) digit_zero)

  pub spelt_magnitude : T (is_magnitude (spelt (pos n)))
  spelt_magnitude =
      digits_magnitude (spelt (pos n))
      (record { some = spells.some; few = few; each = spells.each; leads = leads })

  -- it begins with a digit
  pub spelt_unsigned : has_minus (spelt (pos n)) ≡ false
  unfolding has_minus
  spelt_unsigned =
      let s : List ℕ = spelt (pos n) in
      let first = digit_small (get_or s 0 0) (all_in_at is_digit s spells.each 0 0 spells.some) in
      ne_eqb (get_or s 0 0) minus (λ e. omega (arith, first.0))

-- ---- numbers

-- the spelling of a number of so many digits is a number, and its value is that number
pub record ReadBack (z : ℤ) (s : List ℕ) : Type 0 where
  pub in_form : T (is_number s)
  pub value : number_value s ≡ z

signed_read : (n : ℕ) → suc n < 10 ^ digit_limit → ReadBack (negsuc n) (minus ∷ spelt (pos (suc n)))
unfolding number_value magnitude digits has_minus
signed_read n h =
    let d : List ℕ = spelt (pos (suc n)) in
    let is : value_after 0 d ≡ suc n = spelt_value (suc n) h in
    record {
      in_form =
          of_true (is_number (minus ∷ d))
          (number_is (minus ∷ d)
          ∙ rw (
            is_true (is_magnitude d) (spelt_magnitude (suc n) h),
            is,
            ne_eqb (suc n) 0 (λ e.
                omega arith),
          ));
      value = ap (λ (m : ℕ). neg_ℤ (pos m)) is;
    }

pub spelt_read : (z : ℤ) → nat_abs z < 10 ^ digit_limit → ReadBack z (spelt z)
unfolding number_value magnitude spelt
spelt_read (pos n) h =
    let s : List ℕ = spelt (pos n) in
    let plain = spelt_unsigned n h in
    let same : digits s ≡ s = digits_plain s plain in
    record {
      in_form =
          of_true (is_number s)
          (number_is s ∙ rw (same, plain, is_true (is_magnitude s) (spelt_magnitude n h)));
      value = rw (plain, same) (ap pos (spelt_value n h));
    }
spelt_read (negsuc n) h = signed_read n h

-- a sign, where there is one, stands first
minus_first : (s : List ℕ) → has_minus s ≡ true → s ≡ minus ∷ digits s
unfolding has_minus digits
minus_first [] e = absurd (false≢true e)
minus_first (b ∷ s) e = rw (e, eqb-true b minus e)

spelt_negated : (m : ℕ) → m ≢ 0 → spelt (neg_ℤ (pos m)) ≡ minus ∷ spelt (pos m)
unfolding spelt
spelt_negated zero n = absurd (n refl)
spelt_negated (suc m) n = refl

-- whatever is a number is the spelling of its value
pub read_spelt : (s : List ℕ) → T (is_number s) → spelt (number_value s) ≡ s
unfolding number_value magnitude
read_spelt s t = go (has_minus s) refl
  where
    both : T (is_magnitude (digits s) && not (has_minus s && eqb (magnitude s) 0))
    both = subst T (number_is s) t

    whole : spelt (pos (magnitude s)) ≡ digits s
    whole = magnitude_spelt (digits s) (and_left (is_magnitude (digits s)) (not (has_minus s &&
        eqb (magnitude s) 0)) both)

    go : (b : Bool) → has_minus s ≡ b → spelt (number_value s) ≡ s
    go false e = rw e (whole ∙ digits_plain s e)
    go true e =
        let signed : T (not (has_minus s && eqb (magnitude s) 0)) =
        and_right (is_magnitude (digits s)) (not (has_minus s && eqb (magnitude s) 0)) both in
        let nonzero : magnitude s ≢ 0 = differ_use (magnitude s) 0 (rw e at signed) in
        rw e
        (spelt_negated (magnitude s) nonzero ∙ ap (λ (d : List ℕ). minus ∷ d) whole
        ∙ sym (minus_first s e))
