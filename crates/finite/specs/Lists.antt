-- What is asked of lists, in the order of this page: membership of a number; whether two lists are the
-- same; all, any, the count and the first of the members that pass a test; what stands before and after a number; the sum; a
-- ring of numbers; the union of two lists without repetition; lists in which no member stands
-- twice, and the list of all that pass a test below a bound. The prover runs every one of them.
-- This page has the definitions alone: their laws stand in ListLaws, Distinct, FirstPassing and
-- Rings.
use Rattle.std.specs.Prelude.{Bool, true, false, not, cond, ◌&&◌, ◌||◌, List, [], ◌∷◌, ◌++◌, ℕ, zero, suc, ◌+◌, eqb}
use Rattle.finite.specs.Bounded.{one_if}

-- x is a member of the list
unfoldable pub elem : ℕ → List ℕ → Bool
elem x [] = false
elem x (y ∷ s) = eqb x y || elem x s

-- the same members in the same order, by a test of two members; of numbers
unfoldable pub same_by : {A : Type 0} → (A → A → Bool) → List A → List A → Bool
same_by same [] [] = true
same_by same [] (y ∷ t) = false
same_by same (x ∷ s) [] = false
same_by same (x ∷ s) (y ∷ t) = same x y && same_by same s t

abbrev pub same_list : List ℕ → List ℕ → Bool
same_list = same_by eqb

module _ {ℓ} {A : Type ℓ} where
  -- p passes at every member
  unfoldable pub all_in : (A → Bool) → List A → Bool
  all_in p [] = true
  all_in p (x ∷ s) = p x && all_in p s

  -- p passes at every place and its member, places counted from i
  unfoldable pub all_places : (ℕ → A → Bool) → ℕ → List A → Bool
  all_places p i [] = true
  all_places p i (x ∷ s) = p i x && all_places p (suc i) s

  -- p passes at some member
  unfoldable pub any_in : (A → Bool) → List A → Bool
  any_in p [] = false
  any_in p (x ∷ s) = p x || any_in p s

  -- how many members pass p
  unfoldable pub count_in : (A → Bool) → List A → ℕ
  count_in p [] = 0
  count_in p (x ∷ s) = one_if (p x) + count_in p s

  -- the first member that passes p, or d where none does
  unfoldable pub first_in : (A → Bool) → A → List A → A
  first_in p d [] = d
  first_in p d (x ∷ s) = let later = first_in p d s in cond (p x) x later

-- what stands before the first x, and after it
unfoldable pub before : ℕ → List ℕ → List ℕ
before x [] = []
before x (y ∷ s) = let on = before x s in cond (eqb x y) [] (y ∷ on)

unfoldable pub beyond : ℕ → List ℕ → List ℕ
beyond x [] = []
beyond x (y ∷ s) = let on = beyond x s in cond (eqb x y) s on

-- the sum of the members
unfoldable pub total : List ℕ → ℕ
total [] = 0
total (x ∷ s) = x + total s

-- a, f a, f (f a) and so on, at most k of them, up to the one before `start` comes back
unfoldable pub ring : (ℕ → ℕ) → ℕ → ℕ → ℕ → List ℕ
ring f start zero a = []
ring f start (suc k) a =
    let on = ring f start k (f a) in a ∷ cond (eqb (f a) start) [] on

-- the list with x in it: the same list where x is a member already
unfoldable pub insert : ℕ → List ℕ → List ℕ
unfolding elem
insert x s = cond (elem x s) s (s ++ x ∷ [])

-- the second list with all of the first in it
unfoldable pub union : List ℕ → List ℕ → List ℕ
unfolding insert
union [] s = s
union (x ∷ xs) s = union xs (insert x s)

-- no member stands twice
unfoldable pub distinct : List ℕ → Bool
unfolding elem
distinct [] = true
distinct (x ∷ s) = not (elem x s) && distinct s

-- the numbers below n that pass p, the largest first
unfoldable pub members : ℕ → (ℕ → Bool) → List ℕ
members zero p = []
members (suc n) p = let less = members n p in cond (p n) (n ∷ less) less
