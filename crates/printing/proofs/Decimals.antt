-- Numbers in decimal, in the order of this page: one digit; one digit more, where there are digits
-- enough; how many digits there are at most; the same of a number that is spelt; writing it from
-- the last digit to the first.
use mathlib.Core.Path.{◌≡◌, refl, sym, ap, subst, ◌∙◌}
use mathlib.Core.Logic.{⊎_elim}
use mathlib.Core.Bool.{true, false, true≢false}
use mathlib.Core.List.{List, [], ◌∷◌, ◌++◌, append-nil}
use Prim.Native.Nat.{ℕ, zero, suc, ◌+◌, ◌-◌, ◌/◌, ◌%◌, ◌^◌, ◌≤◌, ◌<◌}
use native.Mathlib.Omega.{arith}
use borrow.Author.Tests.{lt-ltb, le-ltb, ltb-true}
use lib.IntN.{ℤ, pos, negsuc, nat_abs}
use lib.Signed.{lt_z}
use lib.ListN.{length, set, length-append}
use lib.Seq.{append_snoc}
use Rattle.finite.specs.Bounded.{lt_or_ge}
use Rattle.model.specs.Spelling.{decimal, digit_zero, minus, spelt}
use Rattle.printing.specs.Writing.{Room, PutAt}
use Rattle.printing.proofs.Overwriting.{wrote_before, wrote_length, wrote_none}

module _ (k n : ℕ) where
  pub decimal_one : n < 10 → decimal (suc k) n ≡ (digit_zero + n) ∷ []
  unfolding decimal
  decimal_one h = rw (lt-ltb n 10 h)

  pub decimal_front : 10 ≤ n → decimal (suc k) n ≡ decimal k (n / 10) ++ (digit_zero + n % 10) ∷ []
  unfolding decimal
  decimal_front h = rw (le-ltb n 10 h)

-- a number below 10^k needs no more than k digits
pub decimal_enough : (k n : ℕ) → n < 10 ^ suc k → decimal (suc (suc k)) n ≡ decimal (suc k) n
decimal_enough zero n h =
    let l : n < 10 = h in decimal_one 1 n l ∙ sym (decimal_one 0 n l)
decimal_enough (suc k) n h =
    ⊎_elim
    (λ (l : n < 10). decimal_one (suc (suc k)) n l ∙ sym (decimal_one (suc k) n l))
    (λ (l : 10 ≤ n).
    decimal_front (suc (suc k)) n l ∙
    ap (λ (s : List ℕ). s ++ (digit_zero + n % 10) ∷ []) (decimal_enough k (n / 10) (omega arith)) ∙
    sym (decimal_front (suc k) n l))
    (lt_or_ge n 10)

pub decimal_more : (k n : ℕ) → 10 ≤ n → n < 10 ^ suc (suc k) →
    decimal (suc (suc k)) n ≡ decimal (suc (suc k)) (n / 10) ++ (digit_zero + n % 10) ∷ []
decimal_more k n h l =
    decimal_front (suc k) n h ∙
    ap (λ (s : List ℕ). s ++ (digit_zero + n % 10) ∷ []) (sym (decimal_enough k (n / 10) (omega
    arith)))

pub decimal_length : (k n : ℕ) → length (decimal k n) ≤ k
unfolding decimal
decimal_length zero n = omega arith
decimal_length (suc k) n =
    ⊎_elim
    (λ (l : n < 10). rw (decimal_one k n l) (omega arith))
    (λ (l : 10 ≤ n).
    rw (decimal_front k n l, length-append) (omega (arith, decimal_length k (n / 10))))
    (lt_or_ge n 10)

-- ---- as it is spelt

module _ (n : ℕ) where
  pub spelt_one : n < 10 → spelt (pos n) ≡ (digit_zero + n) ∷ []
  unfolding spelt
  spelt_one h = decimal_one 19 n h

  pub spelt_more : 10 ≤ n → n < 2 ^ 64 → spelt (pos n) ≡ spelt (pos (n / 10)) ++ (digit_zero + n
      % 10) ∷ []
  unfolding spelt
  spelt_more h l = decimal_more 18 n h (omega arith)

  pub length_one : n < 10 → length (spelt (pos n)) ≡ 1
  length_one h = ap length (spelt_one h)

  pub length_more : 10 ≤ n → n < 2 ^ 64 → length (spelt (pos n)) ≡ length (spelt (pos (n / 10))) + 1
  length_more h l = ap length (spelt_more h l) ∙ length-append (spelt (pos (n / 10))) _

  pub spelt_length : length (spelt (pos n)) ≤ 20
  unfolding spelt
  spelt_length = decimal_length 20 n

ten_power : (k : ℕ) → 1 ≤ 10 ^ k
ten_power zero = omega arith
ten_power (suc k) = omega (arith, ten_power k)

-- so many digits, told by the powers of ten between which a number lies
pub length_between : (k n : ℕ) → 10 ^ k ≤ n → n < 10 ^ suc k → n < 2 ^ 64 → length (spelt (pos n)) ≡ suc k
length_between zero n low high fits = length_one n high
length_between (suc k) n low high fits =
    let h : 10 ≤ n = omega (arith, ten_power k) in
    omega (arith, length_more n h fits, length_between k (n / 10) (omega arith) (omega arith) (omega arith))

-- four digits less
pub length_four_less : (n : ℕ) → 10000 ≤ n → n < 2 ^ 64 →
    length (spelt (pos n)) ≡ length (spelt (pos (n / 10000))) + 4
length_four_less n h fits =
    let e : n / 10 / 10 / 10 / 10 ≡ n / 10000 = omega arith in
    omega (
      arith,
      length_more n (omega arith) fits,
      length_more (n / 10) (omega arith) (omega arith),
      length_more (n / 10 / 10) (omega arith) (omega arith),
      length_more (n / 10 / 10 / 10) (omega arith) (omega arith),
      ap (λ (m : ℕ). length (spelt (pos m))) e,
    )

-- the sign, and the magnitude
pub spelt_negative : (z : ℤ) → lt_z z (pos 0) ≡ true → spelt z ≡ minus ∷ spelt (pos (nat_abs z))
unfolding spelt
spelt_negative (pos n) e = absurd (omega (arith, ltb-true n 0 e))
spelt_negative (negsuc n) e = refl

pub spelt_plain : (z : ℤ) → lt_z z (pos 0) ≡ false → spelt z ≡ spelt (pos (nat_abs z))
unfolding spelt
spelt_plain (pos n) e = refl
spelt_plain (negsuc n) e = absurd (true≢false e)

-- ---- written from the last digit to the first

pub spelt_some : (n : ℕ) → n < 2 ^ 64 → 1 ≤ length (spelt (pos n))
spelt_some n fits =
    ⊎_elim
    (λ (h : n < 10). omega (arith, length_one n h))
    (λ (h : 10 ≤ n). omega (arith, length_more n h fits))
    (lt_or_ge n 10)

-- the digits of n after those of `rest` are written, from `place` on
pub record Backwards (lent : List ℕ) (at n end : ℕ) (now : List ℕ) (rest place : ℕ) : Type 0 where
  pub back : List ℕ
  pub splits : spelt (pos n) ≡ spelt (pos rest) ++ back
  pub begins : place ≡ at + length (spelt (pos rest))
  pub wrote : PutAt lent place back now end
  pub less : rest ≤ n

module _ {lent : List ℕ} {at n : ℕ} (room : Room lent at (spelt (pos n))) (fits : n < 2 ^ 64) where
  pub backwards_none : {end : ℕ} → end ≡ at + length (spelt (pos n)) → Backwards lent at n end lent n end
  backwards_none {end} e =
      record {
        back = [];
        splits = sym (append-nil (spelt (pos n)));
        begins = e;
        wrote = wrote_none lent end;
        less = omega arith;
      }

  module _ {end rest place : ℕ} {now : List ℕ} (w : Backwards lent at n end now rest place) where
    room_before : (b : ℕ) → Room lent (place - 1) (b ∷ w.back)
    room_before b =
        record {
          room = omega (
            arith,
            room.room,
            w.begins,
            spelt_some rest (omega (arith, w.less)),
            ap length w.splits ∙ length-append (spelt (pos rest)) w.back,
          );
        }

    pub backwards_long : length now ≡ length lent
    backwards_long =
        let some = spelt_some rest (omega (arith, w.less)) in
        wrote_length w.wrote (record { room = omega (arith, (room_before 0).room, w.begins, some) })

    -- two digits or more are left, or one
    pub more_left : at + 1 < place → 10 ≤ rest
    more_left h =
        ⊎_elim
        (λ (l : rest < 10). absurd (omega (arith, w.begins, length_one rest l)))
        (λ (l : 10 ≤ rest). l)
        (lt_or_ge rest 10)

    pub one_left : place ≤ at + 1 → rest < 10
    one_left h =
        ⊎_elim
        (λ (l : rest < 10). l)
        (λ (l : 10 ≤ rest).
        absurd (omega (
          arith,
          w.begins,
          length_more rest l (omega (arith, w.less)),
          spelt_some (rest / 10) (omega (arith, w.less)),
        )))
        (lt_or_ge rest 10)

    pub backwards_inside : place - 1 < length now
    backwards_inside = omega (arith, (room_before 0).room, backwards_long)

    -- one digit more
    pub backwards_more : {b : ℕ} → at + 1 < place → b ≡ digit_zero + rest % 10 →
        Backwards lent at n end (set now (place - 1) b) (rest / 10) (place - 1)
    backwards_more {b} h e =
        let some : 10 ≤ rest = more_left h in
        let fits' : rest < 2 ^ 64 = omega (arith, w.less) in
        let more : spelt (pos rest) ≡ spelt (pos (rest / 10)) ++ b ∷ [] = rw e (spelt_more rest some fits') in
        let same : place - 1 + 1 ≡ place = omega arith in
        record {
          back = b ∷ w.back;
          splits =
              w.splits ∙ ap (λ (s : List ℕ). s ++ w.back) more
              ∙ append_snoc (spelt (pos (rest / 10))) b w.back;
          begins = omega (arith, w.begins, length_more rest some fits');
          wrote = wrote_before b (room_before b) (rw same w.wrote);
          less = omega (arith, w.less);
        }

    -- the first digit
    pub backwards_all : {b : ℕ} → place ≤ at + 1 → b ≡ digit_zero + rest →
        PutAt lent at (spelt (pos n)) (set now at b) end
    backwards_all {b} h e =
        let one : spelt (pos rest) ≡ b ∷ [] = rw e (spelt_one rest (one_left h)) in
        let first : place - 1 ≡ at = omega (arith, w.begins, ap length one) in
        let same : place - 1 + 1 ≡ place = omega (arith, w.begins, ap length one) in
        let whole : spelt (pos n) ≡ b ∷ w.back =
        w.splits ∙ ap (λ (s : List ℕ). s ++ w.back) one in
        rw whole
        (subst (λ (k : ℕ). PutAt lent k (b ∷ w.back) (set now k b) end) first
        (wrote_before b (room_before b) (rw same w.wrote)))
