-- Every permutation of the darts is built from one that moves no dart, by transpositions of a dart that
-- is not moved yet with another: an induction over permutations, and over any kind of them that
-- stays such when a moved dart is released (involutions).
-- If f moves a, then f after a transposition of f a and a leaves f a where it is, and else moves only
-- what f moves; and f is that after the same transposition.
use mathlib.Core.Path.{◌≡◌, sym, ◌∙◌, ap, subst}
use mathlib.Core.Logic.{◌⊎◌, inl, inr, ⊎_elim, ◌≢◌}
use mathlib.Core.Bool.{Bool, not, ◌&&◌}
use Prim.Native.Nat.{ℕ, zero, suc, ◌≤◌, ◌<◌}
use native.Mathlib.Nat.{le_refl}
use native.Mathlib.Omega.{arith}
use lib.Dec.{T, T_not, not_T, eqb}
use Rattle.finite.specs.Tests.{and_left, and_right, and_both, decide, same_or_not, differ_by, differ_use}
use Rattle.finite.specs.Bounded.{any, any_at, any_by, count}
use Rattle.finite.specs.Counting.{count_less}
use Rattle.orbits.proofs.Reach.{Dart}
use Rattle.orbits.proofs.Permutations.{Permutes, Involutes, involution_permutes, transposition, transposition_first, transposition_second, transposition_other, by_transposition, transposition_involutes, transposed, transposed_twice}

-- f moves the present dart d
abbrev moves : (ℕ → Bool) → (ℕ → ℕ) → ℕ → Bool
moves present f d = present d && not (eqb (f d) d)

moves_by : (present : ℕ → Bool) (f : ℕ → ℕ) (d : ℕ) → T (present d) → f d ≢ d → T (moves present f d)
moves_by present f d h m = and_both (present d) (not (eqb (f d) d)) h (differ_by (f d) d m)

moved : (present : ℕ → Bool) (f : ℕ → ℕ) (d : ℕ) → T (moves present f d) → f d ≢ d
moved present f d t = differ_use (f d) d (and_right (present d) (not (eqb (f d) d)) t)

-- f moves some dart, or none
moves_some : (n : ℕ) (present : ℕ → Bool) (f : ℕ → ℕ) →
    ((a : ℕ) × Dart n present a × (f a ≢ a)) ⊎ ((d : ℕ) → Dart n present d → f d ≡ d)
moves_some n present f =
    ⊎_elim
    (λ (t : T (any n (moves present f))).
    let a = any_at n (moves present f) t in
    inl (
      a.0,
      record { below = a.1; is_present = and_left (present a.0) (not (eqb (f a.0) a.0)) a.2 },
      moved present f a.0 a.2,
    ))
    (λ (t : T (not (any n (moves present f)))).
    inr
    (λ d h.
    ⊎_elim
    (λ (e : f d ≡ d). e)
    (λ (m : f d ≢ d).
    absurd
    (T_not (any n (moves present f)) t
    (any_by n (moves present f) d h.below (moves_by present f d h.is_present m))))
    (same_or_not (f d) d)))
    (decide (any n (moves present f)))

-- ---- f without the step from a

released_fixes : (f : ℕ → ℕ) (a : ℕ) → transposed (f a) a f (f a) ≡ f a
released_fixes f a = ap f (transposition_first (f a) a)

module _ {n : ℕ} {present : ℕ → Bool} {f : ℕ → ℕ} where
  released_moves_fewer : {a : ℕ} → Permutes n present f → Dart n present a → f a ≢ a →
      count n (moves present (transposed (f a) a f)) < count n (moves present f)
  released_moves_fewer {a} p h m =
      count_less n (f a) (moves present (transposed (f a) a f)) (moves present f)
      (λ d l t.
      moves_by present f d (and_left (present d) (not (eqb (transposed (f a) a f d) d)) t)
      (λ e.
      moved present (transposed (f a) a f) d t
      (ap f (transposition_other (f a) a d (λ u. again (ap f (sym u) ∙ (e ∙ u))) (λ u. m (ap f (sym u) ∙ (e ∙ u)))) ∙ e)))
      (p.stays h).below
      (not_T (moves present (transposed (f a) a f) (f a))
      (λ t. moved present (transposed (f a) a f) (f a) t (released_fixes f a)))
      (moves_by present f (f a) (p.stays h).is_present again)
    where
      again : f (f a) ≢ f a
      again e = m (p.injective (p.stays h) h e)

  -- without the pair of a dart that it moves, an involution is one still
  pub released_involutes : {a : ℕ} → Involutes n present f → Dart n present a →
      Involutes n present (transposed (f a) a f)
  released_involutes {a} i h =
      record {
        stays = λ {d} k. i.stays ((transposition_involutes (i.stays h) h).stays k);
        twice = λ {d} k.
            by_transposition (λ c e. f (transposition (f a) a (f e)) ≡ c) (f a) a d
            (ap f (transposition_first (f a) a))
            (cc (i.twice h, transposition_second (f a) a))
            (λ m o.
            ap f
            (transposition_other (f a) a (f d) (λ e. o ((involution_permutes i).injective k h e))
            (λ e. m (sym (i.twice k) ∙ ap f e))) ∙
            i.twice k);
      }

-- ---- the induction

module _ {n : ℕ} {present : ℕ → Bool} (Good Holds : (ℕ → ℕ) → Type 0)
    (permutes : (f : ℕ → ℕ) → Good f → Permutes n present f)
    (released : (f : ℕ → ℕ) (a : ℕ) → Good f → Dart n present a → Good (transposed (f a) a f))
    (unmoved : (f : ℕ → ℕ) → Good f → ((d : ℕ) → Dart n present d → f d ≡ d) → Holds f)
    (step : (f : ℕ → ℕ) (x y : ℕ) → Good f → Dart n present x → Dart n present y → f x ≡ x → x ≢ y →
    Holds f → Holds (transposed x y f)) where
  built_within : (k : ℕ) (f : ℕ → ℕ) → Good f → count n (moves present f) ≤ k → Holds f
  built_within zero f g small =
      ⊎_elim
      (λ s. absurd (omega (arith, released_moves_fewer (permutes f g) s.1 s.2)))
      (unmoved f g) (moves_some n present f)
  built_within (suc k) f g small =
      ⊎_elim
      (λ s.
      let a = s.0 in
      let less = released f a g s.1 in
      subst Holds (transposed_twice (f a) a f)
      (step (transposed (f a) a f) (f a) a less ((permutes f g).stays s.1) s.1 (released_fixes f a) s.2
      (built_within k (transposed (f a) a f) less
      (omega (arith, released_moves_fewer (permutes f g) s.1 s.2)))))
      (unmoved f g) (moves_some n present f)

  pub built_by_transpositions : (f : ℕ → ℕ) → Good f → Holds f
  built_by_transpositions f g = built_within (count n (moves present f)) f g (le_refl (count n (moves present f)))
