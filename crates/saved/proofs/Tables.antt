-- Tables of one rule before a number and another from it on: what stands in them, and which lists they are.
use mathlib.Core.Path.{◌≡◌, sym, ◌∙◌}
use mathlib.Core.Logic.{⊎_elim}
use mathlib.Core.List.{List}
use Prim.Native.Nat.{ℕ, ◌≤◌, ◌<◌}
use native.Mathlib.Omega.{arith}
use borrow.Author.Tests.{lt-ltb, le-ltb}
use lib.ListN.{length, get_or}
use lib.Seq.{ext_get_or}
use Rattle.finite.specs.Bounded.{table, lt_or_ge, length_table, get_or_table}
use Rattle.model.specs.Saved.{until}

pub until_before : {A : Type 0} (n : ℕ) (f g : ℕ → A) (k : ℕ) → k < n → until n f g k ≡ f k
until_before n f g k l = rw (lt-ltb k n l)

pub until_from : {A : Type 0} (n : ℕ) (f g : ℕ → A) (k : ℕ) → n ≤ k → until n f g k ≡ g k
until_from n f g k l = rw (le-ltb k n l)

-- a list is the table of f before n and g from n on, where these say what stands at each place
pub until_table : {A : Type 0} (d : A) (l : List A) {N : ℕ} → length l ≡ N → (n : ℕ) (f g : ℕ → A) →
    ((k : ℕ) → k < N → k < n → f k ≡ get_or l k d) → ((k : ℕ) → k < N → n ≤ k → g k ≡ get_or l k d) →
    table N (until n f g) ≡ l
until_table d l {N} e n f g before from =
    ext_get_or d (table N (until n f g)) l (length_table N (until n f g) ∙ sym e)
    (λ k h.
    let i : k < N = omega (arith, length_table N (until n f g)) in
    get_or_table N (until n f g) k d i
    ∙ ⊎_elim (λ (b : k < n). until_before n f g k b ∙ before k i b)
    (λ (b : n ≤ k). until_from n f g k b ∙ from k i b)
    (lt_or_ge k n))

-- what stands before n in the table of f before n and g from n on
pub until_at : {A : Type 0} (N n : ℕ) (f g : ℕ → A) (k : ℕ) (d : A) → n ≤ N → k < n →
    get_or (table N (until n f g)) k d ≡ f k
until_at N n f g k d h l = get_or_table N (until n f g) k d (omega arith) ∙ until_before n f g k l
