-- Permutations of the present darts (specs/Links), in the order of this page: transpositions of two
-- darts; involutions, compositions and transpositions permute; paths of one link; iterates; every dart
-- comes back within as many steps as there are darts, by the pigeonhole; so links that are
-- permutations lead back, and orbits and connected parts are the classes of an equivalence.
use mathlib.Core.Path.{◌≡◌, refl, sym, ◌∙◌, ap, subst, fun_ext}
use mathlib.Core.Logic.{◌⊎◌, inl, inr, ⊎_elim, ◌≢◌}
use mathlib.Core.Bool.{Bool, cond}
use mathlib.Core.List.{List}
use Prim.Native.Nat.{ℕ, zero, suc, ◌≤◌, ◌<◌}
use native.Mathlib.Nat.{not-suc-le-zero, le_refl}
use native.Mathlib.Omega.{arith}
use lib.Dec.{eqb}
use borrow.Author.Tests.{ne_eqb, eq-eqb}
use Rattle.finite.specs.Tests.{same_or_not}
use Rattle.finite.specs.Bounded.{count}
use Rattle.finite.specs.Counting.{pigeonhole}
use Rattle.finite.specs.ListLaws.{elem_one}
use Rattle.orbits.specs.Reach.{Reach, here, there, by_one, by_two}
pub use Rattle.orbits.specs.Links.{Permutes, Involutes, ◌then◌}
use Rattle.orbits.proofs.Reach.{Dart, Keeps, Symmetric, reach_trans, reach_holds, by_one_each, by_two_each, by_one_link, by_first_link, by_second_link}

-- x for y and y for x
unfoldable pub transposition : ℕ → ℕ → ℕ → ℕ
transposition x y d = let rest = cond (eqb d y) x d in cond (eqb d x) y rest

pub transposition_first : (x y : ℕ) → transposition x y x ≡ y
unfolding transposition
transposition_first x y = rw (eq-eqb x x refl)

pub transposition_second : (x y : ℕ) → transposition x y y ≡ x
unfolding transposition
transposition_second x y =
    ⊎_elim
    (λ (e : y ≡ x). rw e (transposition_first x x))
    (λ (n : y ≢ x). rw (ne_eqb y x n, eq-eqb y y refl))
    (same_or_not y x)

pub transposition_other : (x y d : ℕ) → d ≢ x → d ≢ y → transposition x y d ≡ d
unfolding transposition
transposition_other x y d m n = rw (ne_eqb d x m, ne_eqb d y n)

pub first_second_other : (x y d : ℕ) → (d ≡ x) ⊎ (d ≡ y) ⊎ ((d ≢ x) × (d ≢ y))
first_second_other x y d =
    ⊎_elim
    (λ (e : d ≡ x). inl e)
    (λ (m : d ≢ x).
    ⊎_elim (λ (e : d ≡ y). inr (inl e)) (λ (n : d ≢ y). inr (inr (m, n))) (same_or_not d y))
    (same_or_not d x)

-- what holds of x and y, of y and x, and of any other dart and itself, holds of d and its transposition
pub by_transposition {ℓ} : (Q : ℕ → ℕ → Type ℓ) (x y d : ℕ) →
    Q x y → Q y x → (d ≢ x → d ≢ y → Q d d) → Q d (transposition x y d)
by_transposition Q x y d first second other =
    ⊎_elim
    (λ (e : d ≡ x). rw (e, transposition_first) first)
    (⊎_elim
    (λ (e : d ≡ y). rw (e, transposition_second) second)
    (λ o. rw (transposition_other x y d o.0 o.1) (other o.0 o.1)))
    (first_second_other x y d)

pub transposition_twice : (x y d : ℕ) → transposition x y (transposition x y d) ≡ d
transposition_twice x y d =
    by_transposition (λ c e. transposition x y e ≡ c) x y d (transposition_second x y) (transposition_first x y) (transposition_other x y d)

module _ {n : ℕ} {present : ℕ → Bool} where
  pub involution_permutes : {f : ℕ → ℕ} → Involutes n present f → Permutes n present f
  involution_permutes {f} i =
      record { stays = λ {d} h. i.stays h; injective = λ {c} {d} g h e. cc (i.twice g, i.twice h) }

  pub compose_permutes : {f g : ℕ → ℕ} → Permutes n present f → Permutes n present g →
      Permutes n present (f then g)
  compose_permutes {f} {g} p q =
      record {
        stays = λ {d} h. q.stays (p.stays h);
        injective = λ {c} {d} h k e. p.injective h k (q.injective (p.stays h) (p.stays k) e);
      }

  pub same_permutes : {f e : ℕ → ℕ} → Permutes n present f → ((d : ℕ) → Dart n present d → f d ≡ e d) →
      Permutes n present e
  same_permutes {f} {e} p same =
      record {
        stays = λ {d} h. subst (Dart n present) (same d h) (p.stays h);
        injective = λ {c} {d} h k u. p.injective h k (same c h ∙ (u ∙ sym (same d k)));
      }

  pub transposition_involutes : {x y : ℕ} → Dart n present x → Dart n present y → Involutes n present (transposition x y)
  transposition_involutes {x} {y} g h =
      record {
        stays = λ {d} k. by_transposition (λ c e. Dart n present e) x y d h g (λ m o. k);
        twice = λ {d} k. transposition_twice x y d;
      }

-- f after a transposition of x and y
abbrev pub transposed : ℕ → ℕ → (ℕ → ℕ) → ℕ → ℕ
transposed x y f d = f (transposition x y d)

pub transposed_twice : (x y : ℕ) (f : ℕ → ℕ) → transposed x y (transposed x y f) ≡ f
transposed_twice x y f = fun_ext (λ d. ap f (transposition_twice x y d))

pub transposed_permutes : {n : ℕ} {present : ℕ → Bool} {f : ℕ → ℕ} {x y : ℕ} → Permutes n present f →
    Dart n present x → Dart n present y → Permutes n present (transposed x y f)
transposed_permutes p g h = compose_permutes (involution_permutes (transposition_involutes g h)) p

-- ---- paths of one link

-- a path starts with a link, if it is not empty
pub first_link : (f : ℕ → ℕ) (a b : ℕ) → Reach (by_one f) a b → (a ≡ b) ⊎ Reach (by_one f) (f a) b
first_link f a b here = inl refl
first_link f a b (there {b = c} r e) =
    inr
    (by_one_each (Reach (by_one f) (f a)) f c b e
    (⊎_elim (λ (i : a ≡ c). rw i here) (λ s. reach_trans s (by_one_link f c)) (first_link f a c r)))

-- a dart that comes back is reached from all that it reaches
pub cycle_back : (f : ℕ → ℕ) (a b : ℕ) → Reach (by_one f) (f a) a → Reach (by_one f) a b → Reach (by_one f) b a
cycle_back f a b s here = here
cycle_back f a b s (there {b = c} r e) =
    by_one_each (λ z. Reach (by_one f) z a) f c b e
    (⊎_elim (λ (i : c ≡ a). rw i s) (λ t. t) (first_link f c a (cycle_back f a c s r)))

-- a dart that a link leaves where it is reaches itself alone
pub fixed_reach : (f : ℕ → ℕ) (a b : ℕ) → f a ≡ a → Reach (by_one f) a b → a ≡ b
fixed_reach f a b s here = refl
fixed_reach f a b s (there {b = c} r e) = cc (fixed_reach f a c s r, elem_one b (f c) e)

-- ---- iterates

unfoldable pub iterate : (ℕ → ℕ) → ℕ → ℕ → ℕ
iterate f zero d = d
iterate f (suc k) d = f (iterate f k d)

pub iterate_after : (f : ℕ → ℕ) (k d : ℕ) → iterate f k (f d) ≡ iterate f (suc k) d
unfolding iterate
iterate_after f zero d = refl
iterate_after f (suc k) d = ap f (iterate_after f k d)

pub iterate_reach : (f : ℕ → ℕ) (k d : ℕ) → Reach (by_one f) d (iterate f k d)
unfolding iterate
iterate_reach f zero d = here
iterate_reach f (suc k) d = reach_trans (iterate_reach f k d) (by_one_link f (iterate f k d))

module _ {n : ℕ} {present : ℕ → Bool} {f : ℕ → ℕ} (p : Permutes n present f) where
  pub iterate_dart : {a : ℕ} (k : ℕ) → Dart n present a → Dart n present (iterate f k a)
  unfolding iterate
  iterate_dart zero h = h
  iterate_dart (suc k) h = p.stays (iterate_dart k h)

  -- two iterates that meet met at a
  pub iterates_meet : {a : ℕ} (i j : ℕ) → Dart n present a → i < j → iterate f i a ≡ iterate f j a →
      (m : ℕ) × (0 < m) × (m ≤ j) × (iterate f m a ≡ a)
  unfolding iterate
  iterates_meet zero j h l e = (j, l, le_refl j, sym e)
  iterates_meet (suc i) zero h l e = absurd (not-suc-le-zero l)
  iterates_meet (suc i) (suc j) h l e =
      let m = iterates_meet i j h (omega arith) (p.injective (iterate_dart i h) (iterate_dart j h) e) in
      (m.0, m.1, omega arith, m.3)

  -- every dart comes back, within as many steps as there are darts
  pub comes_back : {a : ℕ} → Dart n present a →
      (m : ℕ) × (0 < m) × (m ≤ count n present) × (iterate f m a ≡ a)
  comes_back {a} h =
      let two = pigeonhole n present (λ i. iterate f i a)
      (λ k l. ((iterate_dart k h).below, (iterate_dart k h).is_present)) in
      let m = iterates_meet two.0 two.1 h two.2 two.4 in
      (m.0, m.1, omega arith, m.3)

  pub orbit_keeps : Keeps n present (by_one f)
  orbit_keeps = record { stays = λ {d} c h e. by_one_each (Dart n present) f d c e (p.stays h) }

  -- a link that is a permutation leads back
  pub link_back : {d : ℕ} → Dart n present d → Reach (by_one f) (f d) d
  link_back {d} h = let m = comes_back h in after m.0 m.1 m.3
    where
      after : (m : ℕ) → 0 < m → iterate f m d ≡ d → Reach (by_one f) (f d) d
      after zero l e = absurd (not-suc-le-zero l)
      after (suc k) l e = subst (Reach (by_one f) (f d)) (iterate_after f k d ∙ e) (iterate_reach f k (f d))

  pub orbit_symmetric : Symmetric n present (by_one f)
  orbit_symmetric =
      record {
        keeps = orbit_keeps;
        back = λ {d} c h e. by_one_each (λ b. Reach (by_one f) b d) f d c e (link_back h);
      }

  -- what holds at a dart and goes over the link holds in its orbit
  pub orbit_holds {ℓ} : {a b : ℕ} (Q : ℕ → Type ℓ) → Dart n present a →
      ((d : ℕ) → Dart n present d → Q d → Q (f d)) → Reach (by_one f) a b → Q a → Q b
  orbit_holds Q h step r q = reach_holds Q orbit_keeps h (λ d c k e t. by_one_each Q f d c e (step d k t)) r q

  pub orbit_by : {other : ℕ → List ℕ} {a b : ℕ} → Dart n present a →
      ((d : ℕ) → Dart n present d → Reach other d (f d)) → Reach (by_one f) a b → Reach other a b
  orbit_by {other} {a} h step r = orbit_holds (Reach other a) h (λ d k t. reach_trans t (step d k)) r here

-- ---- the same for two links

module _ {n : ℕ} {present : ℕ → Bool} {f g : ℕ → ℕ} (p : Permutes n present f) (q : Permutes n present g) where
  pub part_keeps : Keeps n present (by_two f g)
  part_keeps = record { stays = λ {d} c h e. by_two_each (Dart n present) f g d c e (p.stays h) (q.stays h) }

  pub part_symmetric : Symmetric n present (by_two f g)
  part_symmetric =
      record {
        keeps = part_keeps;
        back = λ {d} c h e.
            by_two_each (λ b. Reach (by_two f g) b d) f g d c e
            (orbit_by p (p.stays h) (λ b k. by_first_link f g b) (link_back p h))
            (orbit_by q (q.stays h) (λ b k. by_second_link f g b) (link_back q h));
      }

  pub part_holds {ℓ} : {a b : ℕ} (Q : ℕ → Type ℓ) → Dart n present a →
      ((d : ℕ) → Dart n present d → Q d → Q (f d)) → ((d : ℕ) → Dart n present d → Q d → Q (g d)) →
      Reach (by_two f g) a b → Q a → Q b
  part_holds Q h first second r t =
      reach_holds Q part_keeps h (λ d c k e u. by_two_each Q f g d c e (first d k u) (second d k u)) r t

  pub part_by : {other : ℕ → List ℕ} {a b : ℕ} → Dart n present a →
      ((d : ℕ) → Dart n present d → Reach other d (f d)) → ((d : ℕ) → Dart n present d → Reach other d (g d)) →
      Reach (by_two f g) a b → Reach other a b
  part_by {other} {a} h first second r =
      part_holds (Reach other a) h (λ d k t. reach_trans t (first d k)) (λ d k t. reach_trans t (second d k)) r here
