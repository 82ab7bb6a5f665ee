-- Loops that test one number after another and answer false at the first that fails:
--     for k in first..stop { if !here(k) { return false; } } true
-- In this order: what such a loop tests; its invariant, `Passed`, with the laws of its start, of one
-- iteration, of an early return and of its end; what tests every number below a bound, every element
-- from a place on, and every place of a list. Then the same laws for loops that fill an array.
use Rattle.std.specs.Prelude.{◌≡◌, Bool, true, false, not, ◌&&◌, List, ℕ, ◌+◌, ◌-◌, ◌≤◌, ◌<◌, T, length, get_or, set, drop}
use Rattle.std.proofs.Common.{sym, ap, subst, ◌∙◌, ⊎_elim, zero-add, add-one, arith, length-drop, length-set, get_or-drop, get_or-set_same, get_or-set_other, ext_get_or}
use Rattle.std.proofs.lemmas.Bool.{not-true, not-false}
use Rattle.finite.specs.Tests.{of_true, same_test}
use Rattle.finite.specs.Bounded.{all, table, all_at, all_by, below_suc, lt_or_ge, length_table, get_or_table}
use Rattle.finite.specs.Lists.{same_by, all_in, all_places}
use Rattle.finite.specs.ListLaws.{get_d_any, all_in_at, all_in_by, all_places_at}
use Rattle.finite.specs.ListLaws.{all_places_by, same_by_at, same_by_by}

-- what `if !r { return false; }` tells, where the code found r for the test t
pub passes : {r t : Bool} → r ≡ t → not r ≡ false → t ≡ true
passes {r} e n = sym e ∙ not-false r n

pub fails : {r t : Bool} → r ≡ t → not r ≡ true → t ≡ false
fails {r} e n = sym e ∙ not-true r n

-- what `a && b` finds, where the code found r for a, and then s for b
pub both_asked : {r s a b : Bool} → r ≡ a → r ≡ true → s ≡ b → s ≡ (a && b)
both_asked e t f = rw (sym e ∙ t) f

pub one_asked : {r a : Bool} (b : Bool) → r ≡ a → r ≡ false → r ≡ (a && b)
one_asked b e n = n ∙ sym (rw (sym e ∙ n))

-- where the code reads `if r { return false; }`, and the test is that r fails
pub not_twice : {r b : Bool} → r ≡ b → not (not r) ≡ not (not b)
not_twice e = ap (λ (t : Bool). not (not t)) e

-- the answer is true just where the test passes at every number from `first` on below `stop`
pub record Tests (answer : Bool) (here : ℕ → Bool) (first stop : ℕ) : Type 0 where
  pub each : T answer → (k : ℕ) → first ≤ k → k < stop → T (here k)
  pub whole : ((k : ℕ) → first ≤ k → k < stop → T (here k)) → T answer

-- there is one such answer
pub tests_same : {a b : Bool} {here : ℕ → Bool} {first stop : ℕ} → Tests a here first stop → Tests b here first stop → a ≡ b
tests_same {a} {b} s t = same_test a b (λ h. t.whole (s.each h)) (λ h. s.whole (t.each h))

-- the loop has come to k
pub record Passed (here : ℕ → Bool) (first k : ℕ) : Type 0 where
  pub from : first ≤ k
  pub so_far : (j : ℕ) → first ≤ j → j < k → T (here j)

pub none_passed : (here : ℕ → Bool) (first : ℕ) → Passed here first first
none_passed here first = record { from = omega arith; so_far = λ j h l. absurd (omega arith) }

-- an iteration at k, in which the code found r for the test there
pub record Iteration (here : ℕ → Bool) (first k : ℕ) (r : Bool) : Type 0 where
  pub passed : Passed here first k
  pub found : r ≡ here k

module _ {here : ℕ → Bool} {first k : ℕ} {r : Bool} (t : Iteration here first k r) where
  pub one_passed : not r ≡ false → Passed here first (k + 1)
  one_passed n =
      record {
        from = omega (arith, t.passed.from);
        so_far =
            λ j h l.
            ⊎_elim (t.passed.so_far j h)
            (λ (s : j ≡ k). subst (λ (i : ℕ). T (here i)) (sym s) (of_true (here k) (passes t.found n)))
            (below_suc k j (subst (λ (i : ℕ). j < i) (add-one k) l));
      }

  -- the answer is false where the test fails ..
  pub failed_tests : {stop : ℕ} → k < stop → not r ≡ true → Tests false here first stop
  failed_tests l n =
      record { each = λ a. absurd a; whole = λ f. subst T (fails t.found n) (f k t.passed.from l) }

  pub one_failed : {answer : Bool} {stop : ℕ} → Tests answer here first stop → k < stop → not r ≡ true →
      false ≡ answer
  one_failed all_of l n = tests_same (failed_tests l n) all_of

-- .. and true at the end
pub passed_tests : {here : ℕ → Bool} {first stop k : ℕ} → Passed here first k → stop ≤ k → Tests true here first stop
passed_tests p l = record { each = λ a j h b. p.so_far j h (omega arith); whole = λ f. tt }

pub all_passed : {answer : Bool} {here : ℕ → Bool} {first stop k : ℕ} → Tests answer here first stop →
    Passed here first k → stop ≤ k → true ≡ answer
all_passed all_of p l = tests_same (passed_tests p l) all_of

-- ---- what is tested

pub below : (n : ℕ) (p : ℕ → Bool) → Tests (all n p) p 0 n
below n p = record { each = λ t k h l. all_at n p t k l; whole = λ f. all_by n p (λ k l. f k (omega arith) l) }

module _ {A : Type 0} (s : List A) (n : ℕ) (d : A) where
  pub from_on : (p : A → Bool) → Tests (all_in p (drop n s)) (λ k. p (get_or s k d)) n (length s)
  from_on p =
      record {
        each =
            λ t k h l.
            let e : n + (k - n) ≡ k = omega arith in
            subst (λ (a : A). T (p a)) (get_or-drop n s (k - n) d ∙ ap (λ (j : ℕ). get_or s j d) e)
            (all_in_at p (drop n s) t (k - n) d (omega (arith, length-drop n s)));
        whole =
            λ f.
            all_in_by p (drop n s) d
            (λ i l.
            subst (λ (a : A). T (p a)) (sym (get_or-drop n s i d))
            (f (n + i) (omega arith) (omega (arith, length-drop n s))));
      }

-- two lists of the same length, member by member
pub side_by_side : {A : Type 0} (same : A → A → Bool) (s t : List A) (d : A) → length s ≡ length t →
    Tests (same_by same s t) (λ k. same (get_or s k d) (get_or t k d)) 0 (length s)
side_by_side same s t d e =
    record { each = λ h k from l. same_by_at same s t d h k l; whole = λ f. same_by_by same s t d e (λ k l. f k (omega arith) l) }

-- past a list stands what the place says
module _ {A : Type 0} (s : List A) (past : ℕ → A) where
  pub places : (p : ℕ → A → Bool) → Tests (all_places p 0 s) (λ k. p k (get_or s k (past k))) 0 (length s)
  places p =
      record {
        each =
            λ t k h l.
            subst (λ (j : ℕ). T (p j (get_or s k (past k)))) (zero-add k) (all_places_at p 0 s t k (past k) l);
        whole =
            λ f.
            all_places_by p 0 s (past 0)
            (λ k l.
            subst (λ (a : A). T (p (0 + k) a)) (get_d_any s k (past k) (past 0) l)
            (subst (λ (j : ℕ). T (p j (get_or s k (past k)))) (sym (zero-add k)) (f k (omega arith) l)));
      }

-- ---- loops that fill an array

-- the places of s before k hold what f says, of n in all
pub record Filled {A : Type 0} (f : ℕ → A) (d : A) (n k : ℕ) (s : List A) : Type 0 where
  pub whole : length s ≡ n
  pub so_far : (j : ℕ) → j < k → get_or s j d ≡ f j

module _ {A : Type 0} {f : ℕ → A} {d : A} {n : ℕ} {s : List A} where
  pub none_filled : length s ≡ n → Filled f d n 0 s
  none_filled e = record { whole = e; so_far = λ j l. absurd (omega arith) }

  pub one_filled : (k : ℕ) → Filled f d n k s → k < n → (v : A) → v ≡ f k → Filled f d n (k + 1) (set s k v)
  one_filled k p l v e =
      record {
        whole = length-set s k v ∙ p.whole;
        so_far =
            λ j h.
            ⊎_elim
            (λ (b : j < k). get_or-set_other s k j v d (λ (q : j ≡ k). omega arith) ∙ p.so_far j b)
            (λ (q : j ≡ k). rw q (get_or-set_same s k v d (omega (arith, p.whole)) ∙ e))
            (below_suc k j (subst (λ (i : ℕ). j < i) (add-one k) h));
      }

  pub all_filled : (k : ℕ) → Filled f d n k s → n ≤ k → s ≡ table n f
  all_filled k p l =
      ext_get_or d s (table n f) (p.whole ∙ sym (length_table n f))
      (λ j b. p.so_far j (omega (arith, p.whole)) ∙ sym (get_or_table n f j d (omega (arith, p.whole))))

-- the same, where the places from m on hold what f says before the loop begins
pub record FilledFront {A : Type 0} (f : ℕ → A) (d : A) (n m k : ℕ) (s : List A) : Type 0 where
  pub front : Filled f d n k s
  pub rest : (j : ℕ) → m ≤ j → j < n → get_or s j d ≡ f j

module _ {A : Type 0} {f : ℕ → A} {d : A} {n m : ℕ} {s : List A} where
  pub none_in_front : length s ≡ n → ((j : ℕ) → m ≤ j → j < n → get_or s j d ≡ f j) → FilledFront f d n m 0 s
  none_in_front e held = record { front = none_filled e; rest = held }

  pub one_in_front : (k : ℕ) → FilledFront f d n m k s → k < m → m ≤ n → (v : A) → v ≡ f k →
      FilledFront f d n m (k + 1) (set s k v)
  one_in_front k p l h v e =
      record {
        front = one_filled k p.front (omega arith) v e;
        rest = λ j b i. get_or-set_other s k j v d (λ (q : j ≡ k). omega arith) ∙ p.rest j b i;
      }

  pub all_in_front : (k : ℕ) → FilledFront f d n m k s → m ≤ k → Filled f d n n s
  all_in_front k p l =
      record {
        whole = p.front.whole;
        so_far = λ j b. ⊎_elim (p.front.so_far j) (λ (h : k ≤ j). p.rest j (omega arith) b) (lt_or_ge j k);
      }
