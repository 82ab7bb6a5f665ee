-- Lists in which no member stands twice, and how many members a list has, in the order of this
-- page: lists put together, in either order, without repetition; the number of the members; the
-- list of all that pass a test below a bound has them all, and none twice; how many members of a
-- list pass a test.
use Rattle.std.specs.Prelude.{◌≡◌, ◌≢◌, ◌⊎◌, Bool, not}
use Rattle.std.proofs.Math.Path.{refl, ap}
use Rattle.std.proofs.Common.{sym, subst, ◌∙◌, inl, inr, not-suc-le-zero, T_not}
use Rattle.std.proofs.Math.Logic.{⊎_elim}
use Rattle.std.proofs.Math.Bool.{true, false}
use mathlib.Core.List.{List, [], ◌∷◌, ◌++◌}
use Prim.Native.Nat.{ℕ, zero, suc, ◌+◌, ◌≤◌, ◌<◌}
use native.Mathlib.Omega.{arith}
use Rattle.std.proofs.Math.Dec.{T, not_T}
use Rattle.std.proofs.Math.ListN.{length}
use Rattle.finite.specs.Tests.{and_left, and_right, and_both, decide, is_true, is_false}
use Rattle.finite.specs.Tests.{same_test}
use Rattle.finite.specs.Bounded.{one_if, count, below_suc}
use Rattle.finite.specs.Counting.{count_same, count_one_more, count_none}
use Rattle.finite.specs.Lists.{elem, count_in, distinct, members}
use Rattle.finite.specs.ListLaws.{elem_head, elem_tail, elem_cases}
use Rattle.finite.specs.ListLaws.{elem_append, elem_append_left, elem_append_right}

-- ---- no member twice

pub distinct_head : (x : ℕ) (s : List ℕ) → T (distinct (x ∷ s)) → ¬ T (elem x s)
unfolding distinct
distinct_head x s t = T_not (elem x s) (and_left (not (elem x s)) (distinct s) t)

pub distinct_cons : (x : ℕ) (s : List ℕ) → ¬ T (elem x s) → T (distinct s) → T (distinct (x ∷ s))
unfolding distinct
distinct_cons x s new t = and_both (not (elem x s)) (distinct s) (not_T (elem x s) new) t

-- two lists without repetition, and without a common member
pub distinct_join : (s t : List ℕ) → T (distinct s) → T (distinct t) →
    ((x : ℕ) → T (elem x s) → ¬ T (elem x t)) →
    T (distinct (s ++ t))
unfolding distinct
distinct_join [] t d e apart = e
distinct_join (y ∷ s) t d e apart =
    and_both (not (elem y (s ++ t))) (distinct (s ++ t))
    (not_T (elem y (s ++ t))
    (λ m.
    ⊎_elim
    (T_not (elem y s) (and_left (not (elem y s)) (distinct s) d))
    (apart y (elem_head y s))
    (elem_append y s t m)))
    (distinct_join s t (and_right (not (elem y s)) (distinct s) d) e
    (λ x m. apart x (elem_tail x y s m)))

pub distinct_left : (s t : List ℕ) → T (distinct (s ++ t)) → T (distinct s)
unfolding distinct
distinct_left [] t d = tt
distinct_left (y ∷ s) t d =
    and_both (not (elem y s)) (distinct s)
    (not_T (elem y s)
    (λ m.
    T_not (elem y (s ++ t)) (and_left (not (elem y (s ++ t))) (distinct (s ++ t)) d)
    (elem_append_left y s t m)))
    (distinct_left s t (and_right (not (elem y (s ++ t))) (distinct (s ++ t)) d))

pub distinct_right : (s t : List ℕ) → T (distinct (s ++ t)) → T (distinct t)
unfolding distinct
distinct_right [] t d = d
distinct_right (y ∷ s) t d =
    distinct_right s t (and_right (not (elem y (s ++ t))) (distinct (s ++ t)) d)

pub distinct_apart : (s t : List ℕ) → T (distinct (s ++ t)) → (x : ℕ) → T (elem x s) →
    ¬ T (elem x t)
unfolding distinct elem
distinct_apart [] t d x m k = m
distinct_apart (y ∷ s) t d x m k =
    ⊎_elim
    (λ (e : x ≡ y).
    T_not (elem y (s ++ t)) (and_left (not (elem y (s ++ t))) (distinct (s ++ t)) d)
    (elem_append_right y s t (rw e at k)))
    (λ (i : T (elem x s)).
    distinct_apart s t (and_right (not (elem y (s ++ t))) (distinct (s ++ t)) d) x i k)
    (elem_cases x y s m)

pub distinct_swap : (s t : List ℕ) → T (distinct (s ++ t)) → T (distinct (t ++ s))
distinct_swap s t d =
    distinct_join t s (distinct_right s t d) (distinct_left s t d)
    (λ x m k. distinct_apart s t d x k m)

-- ---- how many members

-- one more where the first is none of the others
pub count_members : (n x : ℕ) (s : List ℕ) → x < n → ¬ T (elem x s) →
    count n (λ k. elem k (x ∷ s)) ≡ suc (count n (λ k. elem k s))
count_members n x s h new =
    count_one_more n x (λ k. elem k (x ∷ s)) (λ k. elem k s) h (elem_head x s)
    (not_T (elem x s) new)
    (λ k l d.
    same_test (elem k (x ∷ s)) (elem k s)
    (λ t. ⊎_elim (λ (e : k ≡ x). absurd (d e)) (λ m. m) (elem_cases k x s t)) (elem_tail k x s))

pub length_distinct : (n : ℕ) (s : List ℕ) → T (distinct s) → ((x : ℕ) → T (elem x s) → x < n) →
    length s ≡ count n (λ k. elem k s)
unfolding distinct elem
length_distinct n [] t b = sym (count_none n (λ k. elem k []) (λ k h m. m))
length_distinct n (x ∷ s) t b =
    ap suc
    (length_distinct n s (and_right (not (elem x s)) (distinct s) t)
    (λ y m. b y (elem_tail y x s m)))
    ∙ sym (count_members n x s (b x (elem_head x s)) (distinct_head x s t))

-- the list of the numbers that pass has them all, and none twice
members_cases : (n : ℕ) (p : ℕ → Bool) →
    (T (p n) × (members (suc n) p ≡ n ∷ members n p))
    ⊎ (T (not (p n)) × (members (suc n) p ≡ members n p))
unfolding members
members_cases n p =
    ⊎_elim
    (λ (t : T (p n)). inl (t, rw (is_true (p n) t)))
    (λ (t : T (not (p n))). inr (t, rw (is_false (p n) (T_not (p n) t))))
    (decide (p n))

pub elem_members : (n k : ℕ) (p : ℕ → Bool) → T (elem k (members n p)) → (k < n) × T (p k)
unfolding members elem
elem_members zero k p m = absurd m
elem_members (suc n) k p m =
    ⊎_elim
    (λ c.
    ⊎_elim
    (λ (e : k ≡ n). (omega arith, rw e c.0))
    (λ (t : T (elem k (members n p))). let r = elem_members n k p t in (omega arith, r.1))
    (elem_cases k n (members n p) (subst (λ (s : List ℕ). T (elem k s)) c.1 m)))
    (λ c.
    let r = elem_members n k p (subst (λ (s : List ℕ). T (elem k s)) c.1 m) in
    (omega arith, r.1))
    (members_cases n p)

pub elem_members_by : (n k : ℕ) (p : ℕ → Bool) → k < n → T (p k) → T (elem k (members n p))
elem_members_by zero k p h t = absurd (not-suc-le-zero h)
elem_members_by (suc n) k p h t =
    ⊎_elim
    (λ c.
    rw c.1
    (⊎_elim
    (λ (l : k < n). elem_tail k n (members n p) (elem_members_by n k p l t))
    (λ (e : k ≡ n). rw e (elem_head n (members n p)))
    (below_suc n k h)))
    (λ c.
    rw c.1
    (⊎_elim
    (λ (l : k < n). elem_members_by n k p l t)
    (λ (e : k ≡ n). absurd (T_not (p n) c.0 (rw e at t)))
    (below_suc n k h)))
    (members_cases n p)

pub distinct_members : (n : ℕ) (p : ℕ → Bool) → T (distinct (members n p))
unfolding members distinct
distinct_members zero p = tt
distinct_members (suc n) p =
    ⊎_elim
    (λ c.
    subst (λ (s : List ℕ). T (distinct s)) (sym c.1)
    (and_both (not (elem n (members n p))) (distinct (members n p))
    (not_T (elem n (members n p)) (λ m. omega (arith, (elem_members n n p m).0)))
    (distinct_members n p)))
    (λ c. subst (λ (s : List ℕ). T (distinct s)) (sym c.1) (distinct_members n p))
    (members_cases n p)

pub length_members : (n : ℕ) (p : ℕ → Bool) → length (members n p) ≡ count n p
length_members n p =
    length_distinct n (members n p) (distinct_members n p) (λ x m. (elem_members n x p m).0) ∙
    count_same n (λ k. elem k (members n p)) p
    (λ k h.
    same_test (elem k (members n p)) (p k) (λ m. (elem_members n k p m).1)
    (λ t. elem_members_by n k p h t))

-- ---- how many pass

module _ (p : ℕ → Bool) where
  pub count_in_append : (s t : List ℕ) → count_in p (s ++ t) ≡ count_in p s + count_in p t
  unfolding count_in
  count_in_append [] t = omega arith
  count_in_append (x ∷ s) t = omega (arith, count_in_append s t)

  pub count_in_swap : (s t : List ℕ) → count_in p (s ++ t) ≡ count_in p (t ++ s)
  count_in_swap s t = omega (arith, count_in_append s t, count_in_append t s)

  pub count_in_all : (s : List ℕ) → ((x : ℕ) → T (elem x s) → T (p x)) → count_in p s ≡ length s
  unfolding count_in one_if
  count_in_all [] f = refl
  count_in_all (x ∷ s) f =
      rw (is_true (p x) (f x (elem_head x s)))
      (omega (arith, count_in_all s (λ y m. f y (elem_tail y x s m))))

  pub count_in_none : (s : List ℕ) → ((x : ℕ) → T (elem x s) → ¬ T (p x)) → count_in p s ≡ 0
  unfolding count_in one_if
  count_in_none [] f = refl
  count_in_none (x ∷ s) f =
      rw (is_false (p x) (f x (elem_head x s)))
      (omega (arith, count_in_none s (λ y m. f y (elem_tail y x s m))))

  pub count_in_zero : (s : List ℕ) → count_in p s ≡ 0 → (x : ℕ) → T (elem x s) → ¬ T (p x)
  unfolding count_in elem one_if
  count_in_zero [] e x m t = m
  count_in_zero (y ∷ s) e x m t =
      ⊎_elim
      (λ (k : x ≡ y). let one = ap one_if (is_true (p y) (rw k at t)) in omega arith)
      (λ (k : T (elem x s)). count_in_zero s (omega arith) x k t)
      (elem_cases x y s m)

  pub count_in_some : (s : List ℕ) → count_in p s ≢ 0 → (x : ℕ) × T (elem x s) × T (p x)
  unfolding count_in one_if
  count_in_some [] n = absurd (n refl)
  count_in_some (y ∷ s) n =
      ⊎_elim
      (λ (t : T (p y)). (y, elem_head y s, t))
      (λ (t : T (not (p y))).
      let none = ap one_if (is_false (p y) (T_not (p y) t)) in
      let r = count_in_some s (omega arith) in
      (r.0, elem_tail r.0 y s r.1, r.2))
      (decide (p y))

  -- no more than there are
  pub count_in_most : (s : List ℕ) → count_in p s ≤ length s
  unfolding count_in one_if
  count_in_most [] = omega arith
  count_in_most (x ∷ s) = go (p x) (count_in_most s)
    where
      go : (b : Bool) → count_in p s ≤ length s → one_if b + count_in p s ≤ suc (length s)
      go true h = omega arith
      go false h = omega arith
