-- Bounded tests over ℕ, in the order of this page: whether all or any of the numbers below a bound
-- pass a test; a sum, the count of those that pass, and a table below a bound; then the laws that
-- carry each test to a statement and back. The prover runs every one of them.
use Rattle.std.specs.Prelude.{◌≡◌, refl, ◌⊎◌, Bool, true, false, not, ◌&&◌, ◌||◌, ℕ, zero, suc, ◌+◌, ◌≤◌, ◌<◌, T, length, get_or}
use Rattle.std.proofs.Common.{sym, ap, subst, ◌∙◌, inl, inr, ⊎_elim, zero-le, suc-le-suc, not-suc-le-zero, le_of_suc-le-suc, le_refl, add-zero, zero-add, add-suc, suc-add, arith}
use mathlib.Core.List.{List, [], ◌∷◌, ◌++◌, flatten, append_assoc, append-nil}
use Rattle.finite.specs.Tests.{and_left, and_right, and_both, or_cases, or_left, or_right}

-- p passes at every k below n
unfoldable pub all : ℕ → (ℕ → Bool) → Bool
all zero p = true
all (suc n) p = all n p && p n

-- p passes at some k below n
unfoldable pub any : ℕ → (ℕ → Bool) → Bool
any zero p = false
any (suc n) p = any n p || p n

-- 1 where the test passes, else 0
unfoldable pub one_if : Bool → ℕ
one_if true = 1
one_if false = 0

-- f 0 + f 1 + .. + f (n - 1)
unfoldable pub sum : ℕ → (ℕ → ℕ) → ℕ
sum zero f = 0
sum (suc n) f = sum n f + f n

-- how many k below n pass p
unfoldable pub count : ℕ → (ℕ → Bool) → ℕ
unfolding sum one_if
count n p = sum n (λ k. one_if (p k))

-- f 0 ∷ f 1 ∷ .. ∷ f (n - 1), before a list
unfoldable pub table_onto {ℓ} : {A : Type ℓ} → ℕ → (ℕ → A) → List A → List A
table_onto zero f s = s
table_onto (suc n) f s = table_onto n f (f n ∷ s)

-- f 0 ∷ f 1 ∷ .. ∷ f (n - 1)
unfoldable pub table {ℓ} : {A : Type ℓ} → ℕ → (ℕ → A) → List A
unfolding table_onto
table n f = table_onto n f []

-- ---- the laws of `all` and `any`

pub lt_or_ge : (k n : ℕ) → (k < n) ⊎ (n ≤ k)
lt_or_ge k zero = inr zero-le
lt_or_ge zero (suc n) = inl (omega arith)
lt_or_ge (suc k) (suc n) = ⊎_elim (λ l. inl (suc-le-suc l)) (λ l. inr (suc-le-suc l)) (lt_or_ge k n)

-- the last number below suc n, or one below n
pub below_suc : (n k : ℕ) → k < suc n → (k < n) ⊎ (k ≡ n)
below_suc zero zero h = inr refl
below_suc zero (suc k) h = absurd (not-suc-le-zero (le_of_suc-le-suc h))
below_suc (suc n) zero h = inl (omega arith)
below_suc (suc n) (suc k) h =
    ⊎_elim (λ (l : k < n). inl (omega arith)) (λ (e : k ≡ n). inr (ap suc e)) (below_suc n k (le_of_suc-le-suc h))

pub all_at : (n : ℕ) (p : ℕ → Bool) → T (all n p) → (k : ℕ) → k < n → T (p k)
unfolding all
all_at zero p t k h = absurd (not-suc-le-zero h)
all_at (suc n) p t k h =
    ⊎_elim
    (λ (l : k < n). all_at n p (and_left (all n p) (p n) t) k l)
    (λ (e : k ≡ n). subst (λ (j : ℕ). T (p j)) (sym e) (and_right (all n p) (p n) t))
    (below_suc n k h)

pub all_by : (n : ℕ) (p : ℕ → Bool) → ((k : ℕ) → k < n → T (p k)) → T (all n p)
unfolding all
all_by zero p f = tt
all_by (suc n) p f =
    and_both (all n p) (p n) (all_by n p (λ k h. f k (omega arith))) (f n (le_refl (suc n)))

pub any_at : (n : ℕ) (p : ℕ → Bool) → T (any n p) → (k : ℕ) × (k < n) × T (p k)
unfolding any
any_at zero p t = absurd t
any_at (suc n) p t =
    ⊎_elim
    (λ (s : T (any n p)). let r = any_at n p s in (r.0, omega arith, r.2))
    (λ (s : T (p n)). (n, le_refl (suc n), s))
    (or_cases (any n p) (p n) t)

pub any_by : (n : ℕ) (p : ℕ → Bool) (k : ℕ) → k < n → T (p k) → T (any n p)
unfolding any
any_by zero p k h t = absurd (not-suc-le-zero h)
any_by (suc n) p k h t =
    ⊎_elim
    (λ (l : k < n). or_left (any n p) (p n) (any_by n p k l t))
    (λ (e : k ≡ n). or_right (any n p) (p n) (subst (λ (j : ℕ). T (p j)) e t))
    (below_suc n k h)

-- some number passes where not all fail
pub some_not_none : (n : ℕ) (p : ℕ → Bool) → not (all n (λ k. not (p k))) ≡ any n p
unfolding all any
some_not_none zero p = refl
some_not_none (suc n) p = both (all n (λ k. not (p k))) (any n p) (p n) (some_not_none n p)
  where
    both : (a b c : Bool) → not a ≡ b → not (a && not c) ≡ (b || c)
    both true b true e = ap (λ (t : Bool). t || true) e
    both true b false e = ap (λ (t : Bool). t || false) e
    both false b c e = ap (λ (t : Bool). t || c) e

-- ---- the laws of `table`

length_onto {ℓ} : {A : Type ℓ} (n : ℕ) (f : ℕ → A) (s : List A) → length (table_onto n f s) ≡ n + length s
unfolding table_onto
length_onto zero f s = omega arith
length_onto (suc n) f s = omega (arith, length_onto n f (f n ∷ s))

pub length_table {ℓ} : {A : Type ℓ} (n : ℕ) (f : ℕ → A) → length (table n f) ≡ n
unfolding table
length_table n f = omega (arith, length_onto n f [])

-- past the table stands the list that it was put before
get_d_past {ℓ} : {A : Type ℓ} (n : ℕ) (f : ℕ → A) (s : List A) (k : ℕ) (d : A) → get_or (table_onto n f s) (n + k) d ≡ get_or s k d
unfolding table_onto
get_d_past zero f s k d = ap (λ (j : ℕ). get_or s j d) (zero-add k)
get_d_past (suc n) f s k d =
    ap (λ (j : ℕ). get_or (table_onto n f (f n ∷ s)) j d) (suc-add n k ∙ sym (add-suc n k)) ∙ get_d_past n f (f n ∷ s) (suc k) d

get_or_onto {ℓ} : {A : Type ℓ} (n : ℕ) (f : ℕ → A) (s : List A) (k : ℕ) (d : A) → k < n → get_or (table_onto n f s) k d ≡ f k
unfolding table_onto
get_or_onto zero f s k d h = absurd (not-suc-le-zero h)
get_or_onto (suc n) f s k d h =
    ⊎_elim (λ (l : k < n). get_or_onto n f (f n ∷ s) k d l)
    (λ (e : k ≡ n).
    ap (λ (j : ℕ). get_or (table_onto n f (f n ∷ s)) j d) (e ∙ sym (add-zero n)) ∙ get_d_past n f (f n ∷ s) 0 d
    ∙ ap f (sym e))
    (below_suc n k h)

pub get_or_table {ℓ} : {A : Type ℓ} (n : ℕ) (f : ℕ → A) (k : ℕ) (d : A) → k < n → get_or (table n f) k d ≡ f k
unfolding table
get_or_table n f k d h = get_or_onto n f [] k d h

onto_append {ℓ} : {A : Type ℓ} (n : ℕ) (f : ℕ → A) (s t : List A) → table_onto n f (s ++ t) ≡ table_onto n f s ++ t
unfolding table_onto
onto_append zero f s t = refl
onto_append (suc n) f s t = onto_append n f (f n ∷ s) t

-- a table of one more
pub table_more {ℓ} : {A : Type ℓ} (n : ℕ) (f : ℕ → A) → table (suc n) f ≡ table n f ++ f n ∷ []
unfolding table
table_more n f = onto_append n f [] (f n ∷ [])

-- lists put together one after another, and one more
flatten_append : (r s : List (List ℕ)) → flatten (r ++ s) ≡ flatten r ++ flatten s
unfolding flatten
flatten_append [] s = refl
flatten_append (l ∷ r) s = rw (flatten_append r s, append_assoc)

pub flatten_more : (n : ℕ) (f : ℕ → List ℕ) → flatten (table (suc n) f) ≡ flatten (table n f) ++ f n
unfolding flatten
flatten_more n f =
    ap flatten (table_more n f) ∙ flatten_append (table n f) (f n ∷ []) ∙ rw append-nil

onto_same {ℓ} : {A : Type ℓ} (n : ℕ) (f g : ℕ → A) (s : List A) → ((k : ℕ) → k < n → f k ≡ g k) → table_onto n f s ≡ table_onto n g s
unfolding table_onto
onto_same zero f g s e = refl
onto_same (suc n) f g s e =
    ap (λ a. table_onto n f (a ∷ s)) (e n (le_refl (suc n))) ∙ onto_same n f g (g n ∷ s) (λ k h. e k (omega arith))

pub table_same {ℓ} : {A : Type ℓ} (n : ℕ) (f g : ℕ → A) → ((k : ℕ) → k < n → f k ≡ g k) → table n f ≡ table n g
unfolding table
table_same n f g e = onto_same n f g [] e
