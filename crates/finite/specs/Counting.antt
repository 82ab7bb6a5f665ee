-- How many numbers below a bound pass a test, in the order of this page: a bound on the count;
-- tests that agree, that differ at one number, or of which one implies the other; maps between
-- two sets without repetition; the pigeonhole; the least number that passes.
use Rattle.std.specs.Prelude.{◌≡◌, refl, ◌⊎◌, ◌≢◌, Bool, true, false, not, ◌&&◌, ℕ, zero, suc, ◌+◌, ◌≤◌, ◌<◌, T, eqb}
use Rattle.std.proofs.Common.{sym, ap, ap₂, subst, inl, inr, ⊎_elim, zero-le, not-suc-le-zero, le_refl, arith, eqb→eq, T_not}
use Rattle.std.proofs.Math.Dec.{eqb_refl, not_T}
use Rattle.finite.specs.Tests.{and_left, and_right, and_both, decide, same_test, differ_by}
use Rattle.finite.specs.Bounded.{one_if, sum, count, any, any_at, any_by, below_suc}

-- two functions that agree below n have one sum there
pub sum_same : (n : ℕ) (f g : ℕ → ℕ) → ((k : ℕ) → k < n → f k ≡ g k) → sum n f ≡ sum n g
unfolding sum
sum_same zero f g e = refl
sum_same (suc n) f g e = ap₂ ◌+◌ (sum_same n f g (λ k h. e k (omega arith))) (e n (le_refl (suc n)))

pub count_same : (n : ℕ) (p q : ℕ → Bool) → ((k : ℕ) → k < n → p k ≡ q k) → count n p ≡ count n q
unfolding count
count_same n p q e = sum_same n (λ k. one_if (p k)) (λ k. one_if (q k)) (λ k h. ap one_if (e k h))

pub one_if_small : (b : Bool) → one_if b ≤ 1
unfolding one_if
one_if_small true = omega arith
one_if_small false = omega arith

pub count_small : (n : ℕ) (p : ℕ → Bool) → count n p ≤ n
unfolding count
count_small zero p = zero-le
count_small (suc n) p = omega (arith, count_small n p, one_if_small (p n))

pub one_if_passes : (b : Bool) → T b → one_if b ≡ 1
unfolding one_if
one_if_passes true t = refl
one_if_passes false t = absurd t

pub one_if_fails : (b : Bool) → T (not b) → one_if b ≡ 0
unfolding one_if
one_if_fails true t = absurd t
one_if_fails false t = refl

pub one_if_is : (b : Bool) → eqb (one_if b) 1 ≡ b
unfolding one_if
one_if_is true = refl
one_if_is false = refl

-- two tests that agree below n but at r, where just the first passes
pub count_one_more : (n r : ℕ) (p q : ℕ → Bool) → r < n → T (p r) → T (not (q r)) →
    ((k : ℕ) → k < n → k ≢ r → p k ≡ q k) → count n p ≡ suc (count n q)
unfolding count
count_one_more zero r p q h s t e = absurd (not-suc-le-zero h)
count_one_more (suc n) r p q h s t e =
    ⊎_elim
    (λ (l : r < n).
    omega (arith, count_one_more n r p q l s t (λ k b. e k (omega arith)), ap one_if (e n (le_refl (suc n)) (omega arith))))
    (λ (l : r ≡ n).
    omega (
      arith,
      count_same n p q (λ k b. e k (omega arith) (omega arith)),
      one_if_passes (p n) (rw l at s),
      one_if_fails (q n) (rw l at t),
    ))
    (below_suc n r h)

one_if_mono : (a b : Bool) → (T a → T b) → one_if a ≤ one_if b
unfolding one_if
one_if_mono true b f = omega (arith, one_if_passes b (f tt))
one_if_mono false b f = zero-le

-- a test that implies another passes no more often
pub count_mono : (n : ℕ) (p q : ℕ → Bool) → ((k : ℕ) → k < n → T (p k) → T (q k)) → count n p ≤ count n q
unfolding count
count_mono zero p q i = zero-le
count_mono (suc n) p q i =
    omega (arith, count_mono n p q (λ k h. i k (omega arith)), one_if_mono (p n) (q n) (i n (le_refl (suc n))))

-- the test p, which no longer passes at r
abbrev without : ℕ → (ℕ → Bool) → ℕ → Bool
without r p k = p k && not (eqb k r)

count_without : (n r : ℕ) (p : ℕ → Bool) → r < n → T (p r) → count n p ≡ suc (count n (without r p))
count_without n r p h t =
    count_one_more n r p (without r p) h t
    (not_T (without r p r) (λ s. T_not (eqb r r) (and_right (p r) (not (eqb r r)) s) (eqb_refl r)))
    (λ k b d.
    same_test (p k) (without r p k) (λ s. and_both (p k) (not (eqb k r)) s (differ_by k r d))
    (λ s. and_left (p k) (not (eqb k r)) s))

-- .. and less often, where it fails at a number at which the other passes
pub count_less : (n r : ℕ) (p q : ℕ → Bool) → ((k : ℕ) → k < n → T (p k) → T (q k)) →
    r < n → T (not (p r)) → T (q r) → count n p < count n q
count_less n r p q i h s t =
    omega (
      arith,
      count_without n r q h t,
      count_mono n p (without r q)
          (λ k b u. and_both (q k) (not (eqb k r)) (i k b u) (differ_by k r (λ e. T_not (p r) s (rw e at u)))),
    )

pub count_some : (n r : ℕ) (p : ℕ → Bool) → r < n → T (p r) → 0 < count n p
count_some n r p h t = omega (arith, count_without n r p h t)

-- A map without repetition from the numbers below n that pass p to those below m that pass q: take
-- away the last of the former and its image.
pub count_injection : (n m : ℕ) (p q : ℕ → Bool) (f : ℕ → ℕ) →
    ((k : ℕ) → k < n → T (p k) → (f k < m) × T (q (f k))) →
    ((j k : ℕ) → j < n → k < n → T (p j) → T (p k) → f j ≡ f k → j ≡ k) → count n p ≤ count m q
unfolding count
count_injection zero m p q f into injective = zero-le
count_injection (suc n) m p q f into injective =
    ⊎_elim
    (λ (t : T (p n)).
    let i = into n (le_refl (suc n)) t in
    omega (
      arith,
      one_if_passes (p n) t,
      count_without m (f n) q i.0 i.1,
      count_injection n m p (without (f n) q) f
          (λ k h s.
          let j = into k (omega arith) s in (
            j.0,
            and_both (q (f k)) (not (eqb (f k) (f n))) j.1
                (differ_by (f k) (f n) (λ e. omega (arith, injective k n (omega arith) (le_refl (suc n)) s t e))),
          ))
          (λ j k g h. injective j k (omega arith) (omega arith)),
    ))
    (λ (t : T (not (p n))).
    omega (
      arith,
      one_if_fails (p n) t,
      count_injection n m p q f (λ k h. into k (omega arith)) (λ j k g h. injective j k (omega arith) (omega arith)),
    ))
    (decide (p n))

pub count_all : (n : ℕ) (p : ℕ → Bool) → ((k : ℕ) → k < n → T (p k)) → count n p ≡ n
unfolding count
count_all zero p a = refl
count_all (suc n) p a =
    omega (arith, count_all n p (λ k h. a k (omega arith)), one_if_passes (p n) (a n (le_refl (suc n))))

pub count_none : (n : ℕ) (p : ℕ → Bool) → ((k : ℕ) → k < n → ¬ T (p k)) → count n p ≡ 0
unfolding count
count_none zero p a = refl
count_none (suc n) p a =
    omega (arith, count_none n p (λ k h. a k (omega arith)), one_if_fails (p n) (not_T (p n) (a n (le_refl (suc n)))))

-- one number more than there are places: two of them share a place
pub pigeonhole : (m : ℕ) (q : ℕ → Bool) (f : ℕ → ℕ) →
    ((k : ℕ) → k ≤ count m q → (f k < m) × T (q (f k))) →
    (i : ℕ) × (j : ℕ) × (i < j) × (j ≤ count m q) × (f i ≡ f j)
pigeonhole m q f into =
    ⊎_elim
    (λ (t : T (any places shared)).
    let later = any_at places shared t in
    let earlier = any_at later.0 (same later.0) later.2 in
    (earlier.0, later.0, earlier.1, omega arith, eqb→eq (f earlier.0) (f later.0) earlier.2))
    (λ (t : T (not (any places shared))).
    absurd
    (omega (
      arith,
      count_all places (λ k. true) (λ k h. tt),
      count_injection places m (λ k. true) q f (λ k h s. into k (omega arith))
          (λ j k g h s s' e.
          let before = apart t j k h e in
          let after = apart t k j g (sym e) in
          omega arith),
    )))
    (decide (any places shared))
  where
    places : ℕ
    places = suc (count m q)

    same : ℕ → ℕ → Bool
    same j i = eqb (f i) (f j)

    shared : ℕ → Bool
    shared j = any j (same j)

    apart : T (not (any places shared)) → (i j : ℕ) → j < places → f i ≡ f j → ¬ (i < j)
    apart t i j h e l =
        T_not (any places shared) t
        (any_by places shared j h (any_by j (same j) i l (subst (λ (x : ℕ). T (eqb (f i) x)) e (eqb_refl (f i)))))

-- the least number below n that passes, if one does
least_below : (n : ℕ) (p : ℕ → Bool) →
    ((k : ℕ) × (k < n) × T (p k) × ((j : ℕ) → j < k → ¬ T (p j))) ⊎ ((j : ℕ) → j < n → ¬ T (p j))
least_below zero p = inr (λ j h t. not-suc-le-zero h)
least_below (suc n) p =
    ⊎_elim
    (λ found. inl (found.0, omega arith, found.2, found.3))
    (λ (none : (j : ℕ) → j < n → ¬ T (p j)).
    ⊎_elim
    (λ (t : T (p n)). inl (n, le_refl (suc n), t, none))
    (λ (t : T (not (p n))).
    inr (λ j h s.
    ⊎_elim (λ (l : j < n). none j l s) (λ (e : j ≡ n). T_not (p n) t (rw e at s)) (below_suc n j h)))
    (decide (p n)))
    (least_below n p)

-- the least number that passes
pub least_passing : (n : ℕ) (p : ℕ → Bool) → T (p n) →
    (k : ℕ) × (k ≤ n) × T (p k) × ((j : ℕ) → j < k → ¬ T (p j))
least_passing n p t =
    ⊎_elim (λ found. (found.0, omega arith, found.2, found.3)) (λ none. (n, le_refl n, t, none)) (least_below n p)
