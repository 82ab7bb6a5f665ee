-- What stands before and after the first of a byte in a list, in the order of this page: both as
-- parts of the list, from a place within on, and where the first ends; what the library takes up to it; a
-- line as two numbers.
use mathlib.Core.Path.{◌≡◌, refl, sym, ap, ◌∙◌}
use mathlib.Core.Logic.{◌≢◌, ⊎_elim}
use mathlib.Core.Bool.{Bool, true, false, not}
use mathlib.Core.List.{List, [], ◌∷◌}
use Prim.Native.Nat.{ℕ, zero, suc, ◌≤◌, ◌<◌}
use native.Mathlib.Omega.{arith}
use borrow.Author.Tests.{eq-eqb, ne_eqb}
use lib.Dec.{eqb}
use lib.ListN.{length, get_or, take, drop, get_or-eq_default}
use lib.Seq.{get_or-take}
use Rattle.std.specs.List.{take_while}
use Rattle.std.proofs.lemmas.List.Sums.{take_while-cons}
use Rattle.finite.specs.Tests.{same_or_not}
use Rattle.finite.specs.Bounded.{lt_or_ge}
use Rattle.finite.specs.Lists.{before, beyond}
use Rattle.model.specs.Refusals.{unless}
use Rattle.model.specs.Spelling.{space}
use Rattle.model.specs.Text.{is_number, line_read}
use Rattle.survey.specs.Numbers.{named, number_read}

-- the first byte is the one that is sought, or not
module _ (x y : ℕ) (s : List ℕ) where
  pub before_found : x ≡ y → before x (y ∷ s) ≡ []
  unfolding before
  before_found e = rw (eq-eqb x y e)

  pub before_other : (x ≡ y → ⊥) → before x (y ∷ s) ≡ y ∷ before x s
  unfolding before
  before_other n = rw (ne_eqb x y n)

  pub beyond_found : x ≡ y → beyond x (y ∷ s) ≡ s
  unfolding beyond
  beyond_found e = rw (eq-eqb x y e)

  pub beyond_other : (x ≡ y → ⊥) → beyond x (y ∷ s) ≡ beyond x s
  unfolding beyond
  beyond_other n = rw (ne_eqb x y n)

pub before_part : (x : ℕ) (s : List ℕ) → before x s ≡ take (length (before x s)) s
unfolding before
before_part x [] = refl
before_part x (y ∷ s) =
    ⊎_elim
    (λ (e : x ≡ y). rw (before_found x y s e))
    (λ (n : x ≡ y → ⊥). rw (before_other x y s n) (ap (λ (l : List ℕ). y ∷ l) (before_part x s)))
    (same_or_not x y)

pub beyond_part : (x : ℕ) (s : List ℕ) → beyond x s ≡ drop (suc (length (before x s))) s
unfolding before beyond
beyond_part x [] = refl
beyond_part x (y ∷ s) =
    ⊎_elim
    (λ (e : x ≡ y). rw (beyond_found x y s e, before_found x y s e))
    (λ (n : x ≡ y → ⊥). rw (beyond_other x y s n, before_other x y s n) (beyond_part x s))
    (same_or_not x y)

pub before_short : (x : ℕ) (s : List ℕ) → length (before x s) ≤ length s
unfolding before
before_short x [] = omega arith
before_short x (y ∷ s) =
    ⊎_elim
    (λ (e : x ≡ y). rw (before_found x y s e) (omega arith))
    (λ (n : x ≡ y → ⊥). rw (before_other x y s n) (omega (arith, before_short x s)))
    (same_or_not x y)

-- what ends it is x, or the end of the list
pub before_ends : (x : ℕ) (s : List ℕ) → length (before x s) < length s →
    get_or s (length (before x s)) 0 ≡ x
unfolding before
before_ends x [] h = absurd (omega arith)
before_ends x (y ∷ s) h =
    ⊎_elim
    (λ (e : x ≡ y). rw (before_found x y s e) (sym e))
    (λ (n : x ≡ y → ⊥).
    let more = before_other x y s n in rw more (before_ends x s (omega (arith, rw more at h))))
    (same_or_not x y)

-- no place of it holds x
pub before_none : (x : ℕ) (s : List ℕ) (k : ℕ) → k < length (before x s) → get_or s k 0 ≢ x
unfolding before
before_none x [] k h = absurd (omega arith)
before_none x (y ∷ s) zero h =
    ⊎_elim
    (λ (e : x ≡ y). absurd (omega (arith, rw (before_found x y s e) at h)))
    (λ (n : x ≡ y → ⊥). λ e. n (sym e))
    (same_or_not x y)
before_none x (y ∷ s) (suc k) h =
    ⊎_elim
    (λ (e : x ≡ y). absurd (omega (arith, rw (before_found x y s e) at h)))
    (λ (n : x ≡ y → ⊥). before_none x s k (omega (arith, rw (before_other x y s n) at h)))
    (same_or_not x y)

-- from a place within it on
pub before_drop : (x : ℕ) (s : List ℕ) (k : ℕ) → k ≤ length (before x s) →
    before x (drop k s) ≡ drop k (before x s)
unfolding before
before_drop x s zero h = refl
before_drop x [] (suc k) h = absurd (omega arith)
before_drop x (y ∷ s) (suc k) h =
    ⊎_elim
    (λ (e : x ≡ y). absurd (omega (arith, rw (before_found x y s e) at h)))
    (λ (n : x ≡ y → ⊥).
    let more = before_other x y s n in rw more (before_drop x s k (omega (arith, rw more at h))))
    (same_or_not x y)

-- what stands at its places
pub before_at : (x : ℕ) (s : List ℕ) (k : ℕ) → k < length (before x s) →
    get_or (before x s) k 0 ≡ get_or s k 0
before_at x s k h =
    ap (λ (l : List ℕ). get_or l k 0) (before_part x s) ∙ get_or-take (length (before x s)) s k 0 h

-- a place up to its end is its end just where x stands there or the list ends there
module _ (x : ℕ) (s : List ℕ) (k : ℕ) (inside : k ≤ length (before x s)) where
  pub ends_at_end : length s ≤ k → k ≡ length (before x s)
  ends_at_end h = omega (arith, before_short x s)

  pub ends_found : get_or s k 0 ≡ x → k ≡ length (before x s)
  ends_found e =
      ⊎_elim
      (λ (h : k < length (before x s)). absurd (before_none x s k h e))
      (λ (h : length (before x s) ≤ k). omega arith)
      (lt_or_ge k (length (before x s)))

  pub ends_later : k < length s → get_or s k 0 ≢ x → k ≢ length (before x s)
  ends_later h n e =
      n (ap (λ (j : ℕ). get_or s j 0) e ∙ before_ends x s (omega arith))

  pub ends_not : get_or s k 0 ≢ x → get_or s k 0 ≢ 0 → k < length (before x s)
  ends_not n z =
      ⊎_elim
      (λ (h : k < length (before x s)). h)
      (λ (h : length (before x s) ≤ k).
      ⊎_elim
      (λ (l : k < length s). absurd (ends_later l n (omega arith)))
      (λ (l : length s ≤ k). absurd (z (get_or-eq_default s 0 l)))
      (lt_or_ge k (length s)))
      (lt_or_ge k (length (before x s)))

-- what the library takes while no x stands there
pub before_while : (x : ℕ) (s : List ℕ) → take_while (λ b. not (eqb b x)) s ≡ before x s
unfolding before
before_while x [] = refl
before_while x (y ∷ s) =
    ⊎_elim
    (λ (e : x ≡ y). rw (before_found x y s e, take_while-cons (λ b. not (eqb b x)) y s, eq-eqb y x (sym e)))
    (λ (n : x ≡ y → ⊥).
    rw (before_other x y s n, take_while-cons (λ b. not (eqb b x)) y s, ne_eqb y x (λ e. n (sym e)))
    (ap (λ (l : List ℕ). y ∷ l) (before_while x s)))
    (same_or_not x y)

-- ---- a line is two numbers

pub line_is : (s : List ℕ) → line_read s ≡ named (number_read (before space s)) (number_read
    (beyond space s))
unfolding line_read unless named number_read
line_is s = go (is_number (before space s)) (is_number (beyond space s)) refl refl
  where
    go : (a b : Bool) → is_number (before space s) ≡ a → is_number (beyond space s) ≡ b →
        line_read s ≡ named (number_read (before space s)) (number_read (beyond space s))
    go true true e f = rw (e, f)
    go true false e f = rw (e, f)
    go false b e f = rw e
