-- Rings read place by place, in the order of this page: a ring is its first member and the ring
-- from the next one; it has no more members than it may have; the member after a place of a cycle, and a
-- list round which that leads.
use Rattle.std.specs.Prelude.{◌≡◌, ◌≢◌, Bool, cond, eqb}
use Rattle.std.proofs.Math.Path.{sym, ap, subst}
use Rattle.std.proofs.Common.{◌∙◌, not-suc-le-zero, le_of_suc-le-suc, mod-eq_of_lt, eq-eqb, ne_eqb}
use Rattle.std.proofs.Math.Logic.{⊎_elim}
use Rattle.std.proofs.Math.Bool.{true, false}
use mathlib.Core.List.{List, [], ◌∷◌, ◌++◌}
use Prim.Native.Nat.{ℕ, zero, suc, ◌+◌, ◌-◌, ◌%◌, ◌≤◌, ◌<◌}
use Rattle.std.proofs.Math.Nat.{mod_self}
use Rattle.std.proofs.Math.Numerals.{add-one}
use native.Mathlib.Omega.{arith}
use Rattle.std.proofs.Math.ListN.{length, get_or, length-append, get_or-append}
use Rattle.std.proofs.Math.Seq.{get_or-append_seam}
use Rattle.finite.specs.Bounded.{lt_or_ge}
use Rattle.finite.specs.Lists.{ring}
use Rattle.finite.specs.Cycles.{Chain, Cycle}

-- ---- a ring from its first member

module _ (f : ℕ → ℕ) (start : ℕ) where
  -- then none, since the next one is the start ..
  pub ring_last : (k a : ℕ) → 0 < k → f a ≡ start → ring f start k a ≡ a ∷ ring f start 0 (f a)
  unfolding ring
  ring_last zero a h e = absurd (not-suc-le-zero h)
  ring_last (suc k) a h e = rw (eq-eqb (f a) start e)

  -- .. or then those from the next one on
  pub ring_more : (k a : ℕ) → 0 < k → f a ≢ start →
      ring f start k a ≡ a ∷ ring f start (k - 1) (f a)
  unfolding ring
  ring_more zero a h n = absurd (not-suc-le-zero h)
  ring_more (suc k) a h n =
      let one_less : k ≡ suc k - 1 = omega arith in
      rw (ne_eqb (f a) start n) (ap (λ (j : ℕ). a ∷ ring f start j (f a)) one_less)

  -- at most k of them
  pub ring_most : (k a : ℕ) → length (ring f start k a) ≤ k
  unfolding ring
  ring_most zero a = omega arith
  ring_most (suc k) a = go (eqb (f a) start) (ring_most k (f a))
    where
      go : (b : Bool) → length (ring f start k (f a)) ≤ k →
          suc (length (cond b [] (ring f start k (f a)))) ≤ suc k
      go true h = omega arith
      go false h = omega arith

-- ---- the member after a place

module _ {A : Type 0} (E : A → A → Type 0) where
  chain_at : (s : List A) (i : ℕ) (d : A) → suc i < length s → Chain E s →
      E (get_or s i d) (get_or s (suc i) d)
  unfolding Chain
  chain_at [] i d h c = absurd (not-suc-le-zero h)
  chain_at (a ∷ []) i d h c = absurd (not-suc-le-zero (le_of_suc-le-suc h))
  chain_at (a ∷ b ∷ s) zero d h c = c.0
  chain_at (a ∷ b ∷ s) (suc i) d h c = chain_at (b ∷ s) i d (le_of_suc-le-suc h) c.1

  -- round a cycle the first stands after the last
  pub cycle_at : (s : List A) (i : ℕ) (d : A) → i < length s → Cycle E s →
      E (get_or s i d) (get_or s ((i + 1) % length s) d)
  unfolding Cycle
  cycle_at [] i d h c = absurd (not-suc-le-zero h)
  cycle_at (a ∷ s) i d h c =
      subst (λ (x : A). E x (get_or (a ∷ s) ((i + 1) % suc (length s)) d))
      (get_or-append (a ∷ s) (a ∷ []) d i h)
      (subst (E (get_or (a ∷ s ++ a ∷ []) i d)) after
      (chain_at (a ∷ s ++ a ∷ []) i d (omega (arith, length-append s (a ∷ []))) c))
    where
      after : get_or (a ∷ s ++ a ∷ []) (suc i) d ≡ get_or (a ∷ s) ((i + 1) % suc (length s)) d
      after =
          ⊎_elim
          (λ (l : i + 1 < suc (length s)).
          let e : suc i ≡ i + 1 = omega arith in
          get_or-append (a ∷ s) (a ∷ []) d (suc i) (omega arith)
          ∙ ap (λ (j : ℕ). get_or (a ∷ s) j d) (e ∙ sym (mod-eq_of_lt l)))
          (λ (l : suc (length s) ≤ i + 1).
          let e : i ≡ length s = omega arith in
          let w : i + 1 ≡ suc (length s) = omega arith in
          ap (λ (j : ℕ). get_or (s ++ a ∷ []) j d) e ∙ get_or-append_seam s a [] d
          ∙ ap (λ (j : ℕ). get_or (a ∷ s) j d)
          (sym (ap (λ (j : ℕ). j % suc (length s)) w ∙ mod_self (suc (length s)))))
          (lt_or_ge (i + 1) (suc (length s)))

  -- the other way round: what holds from each place to the next, and from the last one to x, holds along the list and
  -- on to x ..
  chain_by : (x a : A) (s : List A) (d : A) → ((i : ℕ) → i < length s → E (get_or (a ∷ s) i d) (get_or s i d)) →
      E (get_or (a ∷ s) (length s) d) x → Chain E (a ∷ s ++ x ∷ [])
  unfolding Chain
  chain_by x a [] d f last = (last, tt)
  chain_by x a (b ∷ s) d f last = (f 0 (omega arith), chain_by x b s d (λ i h. f (suc i) (omega arith)) last)

  -- .. and round it, where x is the first
  pub cycle_by : (s : List A) (d : A) → ((i : ℕ) → i < length s → E (get_or s i d) (get_or s ((i + 1) % length s) d)) →
      Cycle E s
  unfolding Cycle
  cycle_by [] d f = tt
  cycle_by (a ∷ s) d f =
      chain_by a a s d
      (λ i h.
      let next : i + 1 < suc (length s) = omega arith in
      rw (mod-eq_of_lt next, add-one i) at (f i (omega arith)))
      (rw (add-one (length s), mod_self (suc (length s))) at (f (length s) (omega arith)))
