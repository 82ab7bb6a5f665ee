-- What is written into a list that keeps its tail, in the order of this page: a result over the
-- front of the list, and from a place on; its laws: store by store, the length, nothing, one thing
-- after another, one element before and after; then the loop that copies a list element by element,
-- with the laws of its start, of one element more and of its end. The elements are of any type.
-- Document 01, number 10: "a longer one keeps its tail".
use Rattle.std.specs.Prelude.{◌≡◌, refl, List, [], ◌∷◌, ◌++◌, ℕ, suc, ◌+◌, ◌≤◌, ◌<◌, length, get_or, take, drop, set}
use Rattle.std.proofs.Math.Path.{sym}
use Rattle.std.proofs.Common.{ap, ◌∙◌, append-nil, add-zero, add-suc, suc-add, add-one, arith, length-append, length-set, take-append-drop, take-suc, take_all, length-take-le}
use Rattle.std.proofs.Math.Nat.{zero-add}
use Rattle.std.proofs.lemmas.List.Edits.{sets, sets-eq}
use Rattle.std.proofs.Math.Seq.{length-sets}
use Rattle.std.proofs.lemmas.List.{set_comm}

module _ {A : Type 0} where
  -- the result over the front of the list
  abbrev pub over : List A → List A → List A
  over result lent = result ++ drop (length result) lent

  -- s in the list from place `at` on
  unfoldable pub over_at : List A → ℕ → List A → List A
  over_at lent at s = take at lent ++ s ++ drop (at + length s) lent

  -- the front begins at place 0
  pub over_front : (lent s : List A) → over_at lent 0 s ≡ over s lent
  unfolding over_at
  over_front lent s = rw zero-add

  -- ---- store by store

  pub over_stores : (lent : List A) (at : ℕ) (s : List A) → at + length s ≤ length lent →
      over_at lent at s ≡ sets lent at s
  unfolding over_at
  over_stores lent at s room = sym (sets-eq s lent at room)

  pub over_at_length : (lent : List A) (at : ℕ) (s : List A) → at + length s ≤ length lent →
      length (over_at lent at s) ≡ length lent
  over_at_length lent at s room = ap length (over_stores lent at s room) ∙ length-sets lent at s

  pub over_length : (s lent : List A) → length s ≤ length lent → length (over s lent) ≡ length lent
  over_length s lent room =
      ap length (sym (over_front lent s)) ∙ over_at_length lent 0 s (omega arith)

  pub over_nothing : (lent : List A) (at : ℕ) → over_at lent at [] ≡ lent
  unfolding over_at
  over_nothing lent at = rw (add-zero, append-nil) (take-append-drop at lent)

  -- ---- one thing after another

  sets_append : (lent : List A) (at : ℕ) (s t : List A) →
      sets lent at (s ++ t) ≡ sets (sets lent at s) (at + length s) t
  sets_append lent at [] t = rw add-zero
  sets_append lent at (x ∷ s) t = sets_append (set lent at x) (suc at) s t ∙ rw (suc-add, add-suc)

  pub over_then : (lent : List A) (at : ℕ) (s t : List A) → at + length (s ++ t) ≤ length lent →
      over_at (over_at lent at s) (at + length s) t ≡ over_at lent at (s ++ t)
  over_then lent at s t room =
      let first : at + length s ≤ length lent = omega (arith, length-append s t) in
      over_stores (over_at lent at s) (at + length s) t
      (omega (arith, length-append s t, over_at_length lent at s first))
      ∙ ap (λ (l : List A). sets l (at + length s) t) (over_stores lent at s first)
      ∙ sym (sets_append lent at s t)
      ∙ sym (over_stores lent at (s ++ t) room)

  -- one element more, after what is written over the front
  pub over_more : (s lent : List A) (x : A) → length s < length lent →
      set (over s lent) (length s) x ≡ over (s ++ x ∷ []) lent
  over_more s lent x room =
      let all : 0 + length (s ++ x ∷ []) ≤ length lent = omega (arith, length-append s (x ∷ [])) in
      sym (over_stores (over s lent) (length s) (x ∷ [])
      (omega (arith, over_length s lent (omega arith))))
      ∙ ap (λ (j : ℕ). over_at (over s lent) j (x ∷ [])) (sym (zero-add (length s)))
      ∙ rw (← over_front lent s, ← over_front lent (s ++ x ∷ [])) (over_then lent 0 s (x ∷ []) all)

  -- one element before what is written
  sets_before : (lent : List A) (at k : ℕ) (x : A) (s : List A) → at < k →
      sets (set lent at x) k s ≡ set (sets lent k s) at x
  sets_before lent at k x [] h = refl
  sets_before lent at k x (y ∷ s) h =
      ap (λ (l : List A). sets l (suc k) s) (set_comm lent at k x y (λ e. omega arith))
      ∙ sets_before (set lent k y) at (suc k) x s (omega arith)

  pub over_before : (lent : List A) (at : ℕ) (x : A) (s : List A) →
      at + length (x ∷ s) ≤ length lent →
      set (over_at lent (at + 1) s) at x ≡ over_at lent at (x ∷ s)
  over_before lent at x s room =
      ap (λ (l : List A). set l at x) (over_stores lent (at + 1) s (omega arith))
      ∙ rw add-one (sym (sets_before lent at (suc at) x s (omega arith)))
      ∙ sym (over_stores lent at (x ∷ s) room)

-- ---- a list that is copied element by element

-- the first i of the source are written from place `at` on
pub record Copied {A : Type 0} (lent : List A) (at : ℕ) (source now : List A) (i : ℕ) : Type 0 where
  pub so_far : now ≡ over_at lent at (take i source)
  pub long : length now ≡ length lent
  pub inside : i ≤ length source

module _ {A : Type 0} {lent source : List A} {at : ℕ} where
  pub none_copied : Copied lent at source lent 0
  none_copied = record { so_far = sym (over_nothing lent at); long = refl; inside = omega arith }

  module _ {now : List A} {i : ℕ} (c : Copied lent at source now i) where
    -- one element more, at place k
    pub one_copied : (d : A) {k : ℕ} → k ≡ at + i → i < length source → at + i < length lent →
        Copied lent at source (set now k (get_or source i d)) (i + 1)
    one_copied d {k} place more room =
        record {
          so_far =
              ap (λ (j : ℕ). set now j x) place
              ∙ sym (over_stores now (at + i) (x ∷ []) (omega (arith, c.long)))
              ∙ rw c.so_far
              (rw (add-one, take-suc source i d)
              (ap (λ (j : ℕ). over_at (over_at lent at (take i source)) (at + j) (x ∷ []))
              (sym size)
              ∙ over_then lent at (take i source) (x ∷ [])
              (omega (arith, size, length-append (take i source) (x ∷ [])))));
          long = length-set now k x ∙ c.long;
          inside = omega arith;
        }
      where
        x : A
        x = get_or source i d

        size : length (take i source) ≡ i
        size = length-take-le i source (omega arith)

    -- all of it, or the first n
    pub all_copied : length source ≤ i → now ≡ over_at lent at source
    all_copied h = c.so_far ∙ ap (over_at lent at) (take_all i source h)

    pub so_many_copied : {n : ℕ} → i ≡ n → now ≡ over_at lent at (take n source)
    so_many_copied e = rw (← e) c.so_far
