-- The laws of dart sets, in the order of this page: bits of a number, by division and by masks; what
-- `has` and `with_dart` say; the set of the darts that pass a test has just those, and with one dart
-- more it is the set of the wider test; tests that agree on the darts have one set.
use mathlib.Core.Path.{◌≡◌, refl, sym, ◌∙◌, ap, ap₂}
use mathlib.Core.Logic.{⊎_elim, ◌≢◌}
use mathlib.Core.Bool.{Bool, true, false, not, cond, ◌||◌, or-false, or-true}
use Prim.Native.Nat.{ℕ, zero, suc, ◌+◌, ◌*◌, ◌/◌, ◌%◌, ◌^◌, ◌≤◌, ◌<◌}
use native.Mathlib.Nat.{not-suc-le-zero, pow-suc}
use native.Mathlib.Numerals.{one-add}
use native.Mathlib.Omega.{arith}
use lib.Bits.{bit_and, bit_or, and_high, or_add_and}
use lib.Dec.{T, eqb, ltb, T_not}
use lib.ListN.{length, get_or, set, length-set}
use lib.Pow.{pow-add, pow_pos, shl_exact, shr-shr}
use lib.Seq.{ext_get_or, get_or-set_same, get_or-set_other}
use borrow.Author.Tests.{lt-ltb, le-ltb, eq-eqb, ne_eqb, eqb-false}
use Rattle.finite.specs.Tests.{decide, is_true, is_false, of_true, same_or_not}
use Rattle.finite.specs.Bounded.{one_if, sum, count, table_onto, table, length_table, get_or_table, lt_or_ge}
use Rattle.finite.specs.Counting.{count_same, count_one_more, count_small, one_if_small, one_if_is}
use Rattle.orbits.specs.Sets.{dart_limit, bits, set_of, no_darts, has, with_bit, with_dart}
use Rattle.orbits.specs.declared.DartSet.{DartSet}

-- ---- masks

-- a one shifted to bit k of a word
pub mask_is : (k : ℕ) → k < 64 → (1 * 2 ^ k) % 2 ^ 64 ≡ 2 ^ k
mask_is k h = shl_exact 1 k 64 (omega arith) (omega arith) ∙ omega arith

pub and_bit : (x k : ℕ) → bit_and x (2 ^ k) ≡ (x / 2 ^ k % 2) * 2 ^ k
and_bit x k = ap (bit_and x) (omega (arith, pow-add 2 1 k)) ∙ and_high x 1 k

-- what a mask leaves, by the bit
masked : (x k b : ℕ) → x / 2 ^ k % 2 ≡ b → bit_and x (2 ^ k) ≡ b * 2 ^ k
masked x k b e = and_bit x k ∙ ap (λ (c : ℕ). c * 2 ^ k) e

-- the bit is set just where the mask leaves something
pub bit_test : (x k : ℕ) → not (eqb (bit_and x (2 ^ k)) 0) ≡ eqb (x / 2 ^ k % 2) 1
bit_test x k =
    ⊎_elim
    (λ (e : x / 2 ^ k % 2 ≡ 1).
    ap not (ne_eqb (bit_and x (2 ^ k)) 0 (omega (arith, masked x k 1 e, pow_pos k)))
    ∙ sym (eq-eqb (x / 2 ^ k % 2) 1 e))
    (λ (n : x / 2 ^ k % 2 ≢ 1).
    ap not (eq-eqb (bit_and x (2 ^ k)) 0 (masked x k 0 (omega arith) ∙ omega arith))
    ∙ sym (ne_eqb (x / 2 ^ k % 2) 1 n))
    (same_or_not (x / 2 ^ k % 2) 1)

-- a bit that is not set is added
pub or_bit : (x k : ℕ) → x / 2 ^ k % 2 ≢ 1 → bit_or x (2 ^ k) ≡ x + 2 ^ k
or_bit x k n = omega (arith, or_add_and x (2 ^ k), masked x k 0 (omega arith))

-- ---- membership, and one dart more

pub has_past : (s : DartSet) (d : ℕ) → dart_limit ≤ d → has s d ≡ false
unfolding has
has_past s d h = rw (le-ltb d dart_limit h)

-- the test by shift and mask
pub has_by_mask : (s : DartSet) (d : ℕ) → d < dart_limit →
    not (eqb (bit_and (get_or s.words (d / 64) 0) ((1 * 2 ^ (d % 64)) % 2 ^ 64)) 0) ≡ has s d
unfolding has
has_by_mask s d h =
    rw (mask_is (d % 64) (omega arith), lt-ltb d dart_limit h, bit_test (get_or s.words (d / 64) 0) (d % 64))

pub with_past : (s : DartSet) (d : ℕ) → dart_limit ≤ d → with_dart s d ≡ s
unfolding with_dart
with_past s d h = rw (le-ltb d dart_limit h)

pub with_member : (s : DartSet) (d : ℕ) → d < dart_limit → has s d ≡ true → with_dart s d ≡ s
unfolding with_dart
with_member s d h e = rw (e, lt-ltb d dart_limit h)

pub with_new : (s : DartSet) (d : ℕ) → d < dart_limit → has s d ≡ false → with_dart s d ≡ with_bit s d
unfolding with_dart
with_new s d h e = rw (e, lt-ltb d dart_limit h)

-- a dart that is no member, set by shift and mask
pub with_by_mask : (s : DartSet) (d n : ℕ) → d < dart_limit → has s d ≡ false →
    n ≡ cond (ltb s.size dart_limit) (s.size + 1) s.size →
    ◌≡◌ {A = DartSet}
    (record {
      words =
          set s.words (d / 64) (bit_or (get_or s.words (d / 64) 0) ((1 * 2 ^ (d % 64)) % 2 ^ 64));
      size = n;
    })
    (with_dart s d)
unfolding with_bit has
with_by_mask s d n h e size =
    (λ i. record { words = set s.words (d / 64) (word i); size = size i }) ∙ sym (with_new s d h e)
  where
    unset : get_or s.words (d / 64) 0 / 2 ^ (d % 64) % 2 ≢ 1
    unset = eqb-false (get_or s.words (d / 64) 0 / 2 ^ (d % 64) % 2) 1 (rw (lt-ltb d dart_limit h) at e)

    word : bit_or (get_or s.words (d / 64) 0) ((1 * 2 ^ (d % 64)) % 2 ^ 64) ≡
        get_or s.words (d / 64) 0 + 2 ^ (d % 64)
    word = rw (mask_is (d % 64) (omega arith)) (or_bit (get_or s.words (d / 64) 0) (d % 64) unset)

-- ---- the set of the darts that pass a test

bits_same : (n : ℕ) (p q : ℕ → Bool) → ((k : ℕ) → k < n → p k ≡ q k) → bits n p ≡ bits n q
unfolding bits
bits_same zero p q e = refl
bits_same (suc n) p q e =
    ap₂ (λ (b c : ℕ). b + 2 * c) (ap one_if (e 0 (omega arith)))
    (bits_same n (λ k. p (suc k)) (λ k. q (suc k)) (λ k h. e (suc k) (omega arith)))

-- bit j is set just where the test passes at j
bits_bit : (n : ℕ) (p : ℕ → Bool) (j : ℕ) → j < n → bits n p / 2 ^ j % 2 ≡ one_if (p j)
unfolding bits
bits_bit zero p j h = absurd (not-suc-le-zero h)
bits_bit (suc n) p zero h = omega (arith, one_if_small (p 0))
bits_bit (suc n) p (suc j) h =
    let rest = bits n (λ k. p (suc k)) in
    let all = one_if (p 0) + 2 * rest in
    let halved : all / 2 ≡ rest = omega (arith, one_if_small (p 0)) in
    ap (λ (k : ℕ). all / 2 ^ k % 2) (sym (one-add j)) ∙
    (ap (λ (x : ℕ). x % 2) (sym (shr-shr all 1 j) ∙ ap (λ (x : ℕ). x / 2 ^ j) halved) ∙
    bits_bit n (λ k. p (suc k)) j (omega arith))

-- two tests that agree below n but at j, where just the first passes
bits_one_more : (n j : ℕ) (p q : ℕ → Bool) → j < n → p j ≡ true → q j ≡ false →
    ((k : ℕ) → k < n → k ≢ j → p k ≡ q k) → bits n p ≡ bits n q + 2 ^ j
unfolding bits one_if
bits_one_more zero j p q h s t e = absurd (not-suc-le-zero h)
bits_one_more (suc n) zero p q h s t e =
    omega (
      arith,
      ap one_if s,
      ap one_if t,
      bits_same n (λ k. p (suc k)) (λ k. q (suc k)) (λ k l. e (suc k) (omega arith) (omega arith)),
    )
bits_one_more (suc n) (suc j) p q h s t e =
    omega (
      arith,
      ap one_if (e 0 (omega arith) (omega arith)),
      pow-suc 2 j,
      bits_one_more n j (λ k. p (suc k)) (λ k. q (suc k)) (omega arith) s t
          (λ k l d. e (suc k) (omega arith) (omega arith)),
    )

-- the bits of one word
abbrev in_word : (ℕ → Bool) → ℕ → ℕ → Bool
in_word p w j = p (64 * w + j)

-- a set is that of a test if its words and its size are
set_of_by : (p : ℕ → Bool) (s : DartSet) → length s.words ≡ 16 →
    ((w : ℕ) → w < 16 → get_or s.words w 0 ≡ bits 64 (in_word p w)) → s.size ≡ count dart_limit p → s ≡ set_of p
unfolding set_of
set_of_by p s whole word size = λ i. record { words = words i; size = size i }
  where
    words : s.words ≡ table 16 (λ w. bits 64 (in_word p w))
    words =
        ext_get_or 0 s.words (table 16 (λ w. bits 64 (in_word p w)))
        (whole ∙ sym (length_table 16 (λ w. bits 64 (in_word p w))))
        (λ w h. word w (omega arith) ∙ sym (get_or_table 16 (λ w. bits 64 (in_word p w)) w 0 (omega arith)))

module _ (p : ℕ → Bool) where
  set_of_whole : length (set_of p).words ≡ 16
  unfolding set_of
  set_of_whole = length_table 16 (λ w. bits 64 (in_word p w))

  set_of_word : (w : ℕ) → w < 16 → get_or (set_of p).words w 0 ≡ bits 64 (in_word p w)
  unfolding set_of
  set_of_word w h = get_or_table 16 (λ w. bits 64 (in_word p w)) w 0 h

  -- its size is the number of its members
  pub set_of_size : (set_of p).size ≡ count dart_limit p
  unfolding set_of
  set_of_size = refl

-- tests that agree on the darts have one set
pub set_of_same : (p q : ℕ → Bool) → ((d : ℕ) → d < dart_limit → p d ≡ q d) → set_of p ≡ set_of q
set_of_same p q e =
    set_of_by q (set_of p) (set_of_whole p)
    (λ w h.
    set_of_word p w h ∙ bits_same 64 (in_word p w) (in_word q w) (λ j l. e (64 * w + j) (omega arith)))
    (set_of_size p ∙ count_same dart_limit p q e)

pub no_darts_set : no_darts ≡ set_of (λ d. false)
unfolding set_of bits count sum table table_onto one_if
no_darts_set = refl

-- the set of a test has just the darts that pass
pub has_set_of : (p : ℕ → Bool) (d : ℕ) → d < dart_limit → has (set_of p) d ≡ p d
unfolding has
has_set_of p d h =
    rw (lt-ltb d dart_limit h, set_of_word p w (omega arith), bits_bit 64 (in_word p w) (d % 64) (omega arith))
    (one_if_is (in_word p w (d % 64)) ∙ ap p (omega arith))
  where
    w : ℕ
    w = d / 64

-- and with one dart more it is the set of the wider test
module _ (p : ℕ → Bool) (d : ℕ) where
  wider : ℕ → Bool
  wider e = p e || eqb e d

  wider_other : (e : ℕ) → e ≢ d → p e ≡ wider e
  unfolding wider
  wider_other e n = rw (ne_eqb e d n) (sym (or-false (p e)))

  wider_at : (e : ℕ) → e ≡ d → wider e ≡ true
  unfolding wider
  wider_at e i = rw (eq-eqb e d i) (or-true (p e))

  with_old : p d ≡ true → set_of p ≡ set_of wider
  with_old t =
      set_of_same p wider
      (λ e h. ⊎_elim (λ (i : e ≡ d). ap p i ∙ (t ∙ sym (wider_at e i))) (wider_other e) (same_or_not e d))

  -- the word of d, with its bit
  word_at : p d ≡ false → bits 64 (in_word p (d / 64)) + 2 ^ (d % 64) ≡ bits 64 (in_word wider (d / 64))
  word_at t =
      sym
      (bits_one_more 64 (d % 64) (in_word wider (d / 64)) (in_word p (d / 64)) (omega arith)
      (wider_at (64 * (d / 64) + d % 64) (omega arith)) (ap p (omega arith) ∙ t)
      (λ k m n. sym (wider_other (64 * (d / 64) + k) (omega arith))))

  with_added : d < dart_limit → p d ≡ false → with_bit (set_of p) d ≡ set_of wider
  unfolding with_bit
  with_added h t =
      set_of_by wider (with_bit (set_of p) d) (length-set (set_of p).words (d / 64) _ ∙ set_of_whole p) word size
    where
      word : (w : ℕ) → w < 16 → get_or (with_bit (set_of p) d).words w 0 ≡ bits 64 (in_word wider w)
      word w l =
          ⊎_elim
          (λ (i : w ≡ d / 64).
          rw i
          (get_or-set_same (set_of p).words (d / 64) _ 0 (omega (arith, set_of_whole p)) ∙
          (ap (λ (x : ℕ). x + 2 ^ (d % 64)) (set_of_word p (d / 64) (omega arith)) ∙ word_at t)))
          (λ (n : w ≢ d / 64).
          get_or-set_other (set_of p).words (d / 64) w _ 0 n ∙
          (set_of_word p w l ∙
          bits_same 64 (in_word p w) (in_word wider w) (λ j m. wider_other (64 * w + j) (omega arith))))
          (same_or_not w (d / 64))

      more : count dart_limit wider ≡ suc (count dart_limit p)
      more =
          count_one_more dart_limit d wider p h (of_true (wider d) (wider_at d refl))
          (of_true (not (p d)) (ap not t)) (λ e l n. sym (wider_other e n))

      room : count dart_limit p < dart_limit
      room = omega (arith, more, count_small dart_limit wider)

      size : (with_bit (set_of p) d).size ≡ count dart_limit wider
      size = rw (set_of_size p, lt-ltb (count dart_limit p) dart_limit room) (omega (arith, more))

  pub with_set_of : with_dart (set_of p) d ≡ set_of (λ e. p e || eqb e d)
  unfolding wider
  with_set_of =
      ⊎_elim
      (λ (h : d < dart_limit).
      ⊎_elim
      (λ (t : T (p d)).
      with_member (set_of p) d h (has_set_of p d h ∙ is_true (p d) t) ∙ with_old (is_true (p d) t))
      (λ (t : T (not (p d))).
      let f = is_false (p d) (T_not (p d) t) in with_new (set_of p) d h (has_set_of p d h ∙ f) ∙ with_added h f)
      (decide (p d)))
      (λ (h : dart_limit ≤ d).
      with_past (set_of p) d h ∙ set_of_same p wider (λ e l. wider_other e (omega arith)))
      (lt_or_ge d dart_limit)
