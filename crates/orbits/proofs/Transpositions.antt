-- A permutation after a transposition of two darts (the field's composition with a transposition):
-- it joins their orbits where they lie in two, and cuts their orbit in two where they lie in one.
-- Write g for f after a transposition of x and y: g x = f y, g y = f x, and else g d = f d.
-- If x is not in the orbit of y, then from f y on g goes through the orbit of y as f does, to y. So
-- g reaches y from x, and the orbits of g are those of f with these two joined.
-- If it is, let f stopped at x be f but at x, which it leaves where it is. It comes from f y to x,
-- and never to y: else y would lie on a cycle of it, and x would lead back to y. But all that g
-- reaches from x is reached from f y so. So x and y lie in two orbits of g, and f is g after the
-- same transposition.
use mathlib.Core.Path.{◌≡◌, refl, sym, ap, subst}
use mathlib.Core.Logic.{◌⊎◌, inl, inr, ⊎_elim, ◌≢◌}
use mathlib.Core.Bool.{Bool, cond}
use Prim.Native.Nat.{ℕ, suc}
use lib.Dec.{eqb}
use borrow.Author.Tests.{ne_eqb, eq-eqb}
use Rattle.finite.specs.Tests.{same_or_not}
use Rattle.orbits.specs.Reach.{Reach, here, there, by_one}
use Rattle.orbits.specs.Classes.{classes}
use Rattle.orbits.proofs.Reach.{Dart, reach_trans, reach_sym, by_one_link, by_one_each}
use Rattle.orbits.proofs.Permutations.{Permutes, transposition, transposition_first, transposition_second, transposition_other, first_second_other, by_transposition, transposition_involutes, transposed, transposed_twice, transposed_permutes, orbit_symmetric, orbit_holds, orbit_by, link_back, first_link, cycle_back, fixed_reach}
use Rattle.orbits.proofs.Classes.{Joins, join_lowers_classes}

-- ---- two orbits are joined

-- one link of f after the transposition
transposed_first : (f : ℕ → ℕ) (x y : ℕ) → Reach (by_one (transposed x y f)) x (f y)
transposed_first f x y =
    subst (Reach (by_one (transposed x y f)) x) (ap f (transposition_first x y)) (by_one_link (transposed x y f) x)

transposed_second : (f : ℕ → ℕ) (x y : ℕ) → Reach (by_one (transposed x y f)) y (f x)
transposed_second f x y =
    subst (Reach (by_one (transposed x y f)) y) (ap f (transposition_second x y)) (by_one_link (transposed x y f) y)

transposed_other : (f : ℕ → ℕ) (x y d : ℕ) → d ≢ x → d ≢ y → Reach (by_one (transposed x y f)) d (f d)
transposed_other f x y d m o =
    subst (Reach (by_one (transposed x y f)) d) (ap f (transposition_other x y d m o)) (by_one_link (transposed x y f) d)

module _ {n : ℕ} {present : ℕ → Bool} {f : ℕ → ℕ} {x y : ℕ} (p : Permutes n present f)
    (h : Dart n present x) (k : Dart n present y) where
  -- from f y on, the orbit of y as f has it
  transposed_follows : {z : ℕ} → ¬ Reach (by_one f) x y → Reach (by_one f) (f y) z →
      Reach (by_one (transposed x y f)) (f y) z
  transposed_follows apart here = here
  transposed_follows {z} apart (there {b = b} r e) =
      by_one_each (Reach (by_one (transposed x y f)) (f y)) f b z e
      (⊎_elim
      (λ (i : b ≡ x).
      absurd (apart (reach_sym (orbit_symmetric p) k (reach_trans (by_one_link f y) (rw i at r)))))
      (⊎_elim
      (λ (i : b ≡ y). rw i here)
      (λ o. reach_trans (transposed_follows apart r) (transposed_other f x y b o.0 o.1)))
      (first_second_other x y b))

  -- the orbits of f after the transposition are those of f with the orbits of x and y joined
  pub transposition_joins : ¬ Reach (by_one f) x y → Joins n present (by_one f) (by_one (transposed x y f)) x y
  transposition_joins apart =
      record {
        finer = λ c d g r. orbit_by p g linked r;
        joined = to;
        no_more = λ Q step forth back c d g r q.
            orbit_holds (transposed_permutes p h k) Q g
            (λ b m t.
            step (transposition x y b) (f (transposition x y b)) ((transposition_involutes h k).stays m) (by_one_link f (transposition x y b))
            (by_transposition (λ i e. Q i → Q e) x y b forth back (λ u v w. w) t))
            r q;
      }
    where
      to : Reach (by_one (transposed x y f)) x y
      to = reach_trans (transposed_first f x y) (transposed_follows apart (link_back p k))

      fro : Reach (by_one (transposed x y f)) y x
      fro = reach_sym (orbit_symmetric (transposed_permutes p h k)) h to

      linked : (b : ℕ) → Dart n present b → Reach (by_one (transposed x y f)) b (f b)
      linked b m =
          ⊎_elim
          (λ (i : b ≡ x). rw i (reach_trans to (transposed_second f x y)))
          (⊎_elim
          (λ (i : b ≡ y). rw i (reach_trans fro (transposed_first f x y)))
          (λ o. transposed_other f x y b o.0 o.1))
          (first_second_other x y b)

  -- if x and y lie in two orbits, the transposition joins them
  pub transposition_lowers_orbits : ¬ Reach (by_one f) x y →
      classes (by_one f) n present ≡ suc (classes (by_one (transposed x y f)) n present)
  transposition_lowers_orbits apart =
      join_lowers_classes (orbit_symmetric p) (orbit_symmetric (transposed_permutes p h k)) h k apart (transposition_joins apart)

-- ---- one orbit is cut in two

-- f but at x, where it stays
unfoldable stopped : (ℕ → ℕ) → ℕ → ℕ → ℕ
stopped f x d = cond (eqb d x) x (f d)

stopped_there : (f : ℕ → ℕ) (x : ℕ) → stopped f x x ≡ x
unfolding stopped
stopped_there f x = rw (eq-eqb x x refl)

stopped_other : (f : ℕ → ℕ) (x d : ℕ) → d ≢ x → stopped f x d ≡ f d
unfolding stopped
stopped_other f x d m = rw (ne_eqb d x m)

module _ (f : ℕ → ℕ) (x y : ℕ) (differ : x ≢ y) (reach : Reach (by_one f) y x) where
  stopped_link : (d : ℕ) → d ≢ x → Reach (by_one (stopped f x)) d (f d)
  stopped_link d m = subst (Reach (by_one (stopped f x)) d) (stopped_other f x d m) (by_one_link (stopped f x) d)

  -- along a path of f the link stopped at x comes as far, or to x
  stopped_follows : (z : ℕ) → Reach (by_one f) y z → Reach (by_one (stopped f x)) y z ⊎ Reach (by_one (stopped f x)) y x
  stopped_follows z here = inl here
  stopped_follows z (there {b = c} r e) =
      ⊎_elim
      (λ (s : Reach (by_one (stopped f x)) y c).
      ⊎_elim
      (λ (i : c ≡ x). inr (rw i at s))
      (λ (m : c ≢ x). inl (by_one_each (Reach (by_one (stopped f x)) y) f c z e (reach_trans s (stopped_link c m))))
      (same_or_not c x))
      (λ s. inr s)
      (stopped_follows c r)

  stopped_reaches : Reach (by_one (stopped f x)) y x
  stopped_reaches = ⊎_elim (λ s. s) (λ s. s) (stopped_follows x reach)

  -- the link stopped at x comes to x from f y
  stopped_arrives : Reach (by_one (stopped f x)) (f y) x
  stopped_arrives =
      ⊎_elim
      (λ (e : y ≡ x). absurd (differ (sym e)))
      (λ s. rw (stopped_other f x y (λ e. differ (sym e))) at s)
      (first_link (stopped f x) y x stopped_reaches)

  -- and not to y
  stopped_misses : ¬ Reach (by_one (stopped f x)) (f y) y
  stopped_misses r =
      differ
      (fixed_reach (stopped f x) x y (stopped_there f x)
      (cycle_back (stopped f x) y x (rw (stopped_other f x y (λ e. differ (sym e))) r) stopped_reaches))

  -- what f reaches from x after the transposition the link stopped at x reaches from f y
  transposed_stopped : (z : ℕ) → Reach (by_one (transposed x y f)) x z → Reach (by_one (stopped f x)) (f y) z
  transposed_stopped z here = stopped_arrives
  transposed_stopped z (there {b = c} r e) =
      by_one_each (Reach (by_one (stopped f x)) (f y)) (transposed x y f) c z e
      (by_transposition (λ d t. Reach (by_one (stopped f x)) (f y) d → Reach (by_one (stopped f x)) (f y) (f t)) x y c
      (λ s. here) (λ s. absurd (stopped_misses s)) (λ m o s. reach_trans s (stopped_link c m)) (transposed_stopped c r))

  transposition_cuts : ¬ Reach (by_one (transposed x y f)) x y
  transposition_cuts r = stopped_misses (transposed_stopped y r)

-- if x and y lie in one orbit, the transposition cuts it in two
pub transposition_raises_orbits : {n : ℕ} {present : ℕ → Bool} {f : ℕ → ℕ} {x y : ℕ} → Permutes n present f →
    Dart n present x → Dart n present y → x ≢ y → Reach (by_one f) x y →
    classes (by_one (transposed x y f)) n present ≡ suc (classes (by_one f) n present)
transposition_raises_orbits {n} {present} {f} {x} {y} p h k differ r =
    subst (λ (g : ℕ → ℕ). classes (by_one (transposed x y f)) n present ≡ suc (classes (by_one g) n present))
    (transposed_twice x y f)
    (transposition_lowers_orbits (transposed_permutes p h k) h k
    (transposition_cuts f x y differ (reach_sym (orbit_symmetric p) h r)))
