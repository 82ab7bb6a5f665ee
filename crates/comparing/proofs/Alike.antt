-- A loop that compares two lists place by place, in the order of this page: lists of different lengths; how far it
-- has come (`Comparing`); its start, a place where the lists differ, one where they do not, and its end;
-- the same of numbers, of whatever width.
use mathlib.Core.Path.{◌≡◌, sym, ap}
use mathlib.Core.Logic.{◌≢◌}
use mathlib.Core.Bool.{Bool, true, false, not}
use mathlib.Core.List.{List}
use Prim.Native.Nat.{ℕ, ◌+◌, ◌≤◌, ◌<◌}
use borrow.Author.Tests.{eq-eqb, ne_eqb}
use lib.Dec.{eqb}
use lib.ListN.{length, get_or}
use Rattle.finite.specs.Tests.{is_false}
use Rattle.finite.specs.Lists.{same_by, same_list}
use Rattle.finite.specs.ListLaws.{same_by_length}
use Rattle.finite.specs.Loops.{Passed, none_passed, Iteration, one_passed, one_failed, all_passed, side_by_side}

module _ {A : Type 0} (same : A → A → Bool) where
  pub different_lengths : (s t : List A) → length s ≢ length t → false ≡ same_by same s t
  different_lengths s t n = sym (is_false (same_by same s t) (λ h. n (same_by_length same s t h)))

-- the lists have the same length, and hold the same before place k
pub record Comparing {A : Type 0} (same : A → A → Bool) (d : A) (s t : List A) (k : ℕ) : Type 0 where
  lengths : length s ≡ length t
  passed : Passed (λ j. same (get_or s j d) (get_or t j d)) 0 k

module _ {A : Type 0} {same : A → A → Bool} {d : A} {s t : List A} where
  pub none_compared : length s ≡ length t → Comparing same d s t 0
  none_compared e = record { lengths = e; passed = none_passed _ 0 }

  module _ {k : ℕ} (c : Comparing same d s t k) where
    found : Iteration (λ j. same (get_or s j d) (get_or t j d)) 0 k (same (get_or s k d) (get_or t k d))
    found = record { passed = c.passed; found = λ i. same (get_or s k d) (get_or t k d) }

    pub one_differs : k < length s → not (same (get_or s k d) (get_or t k d)) ≡ true → false ≡ same_by same s t
    one_differs l n = one_failed found (side_by_side same s t d c.lengths) l n

    pub one_alike : not (same (get_or s k d) (get_or t k d)) ≡ false → Comparing same d s t (k + 1)
    one_alike n = record { lengths = c.lengths; passed = one_passed found n }

    pub all_alike : length s ≤ k → true ≡ same_by same s t
    all_alike l = all_passed (side_by_side same s t d c.lengths) c.passed l

-- ---- numbers, of whatever width, which the code finds different or equal

module _ {a b : List ℕ} {k : ℕ} (c : Comparing eqb 0 a b k) where
  pub number_differs : k < length a → get_or a k 0 ≢ get_or b k 0 → false ≡ same_list a b
  number_differs l n = one_differs c l (ap not (ne_eqb _ _ n))

  pub number_alike : get_or a k 0 ≡ get_or b k 0 → Comparing eqb 0 a b (k + 1)
  number_alike e = one_alike c (ap not (eq-eqb _ _ e))
