-- The laws of reaching, in the order of this page: paths put together and carried from one set of
-- links to another; links that keep the present darts; the test `reaches` agrees with the relation
-- `Reach` where all that is reached lies below the bound, since each round of `spread` adds a dart until
-- the list is closed under the links; links that lead back make reaching an equivalence.
use mathlib.Core.Path.{◌≡◌}
use mathlib.Core.Logic.{◌⊎◌, inl, inr, ⊎_elim, ◌↔◌}
use mathlib.Core.Bool.{Bool, not}
use mathlib.Core.List.{List, [], ◌∷◌, flat_map}
use Prim.Native.Nat.{ℕ, zero, suc, ◌+◌, ◌≤◌, ◌<◌}
use native.Mathlib.Nat.{le_refl}
use native.Mathlib.Omega.{arith}
use lib.Dec.{T, T_not}
use Rattle.finite.specs.Tests.{decide, same_test}
use Rattle.finite.specs.Bounded.{count}
use Rattle.finite.specs.Counting.{count_small, count_less, count_some}
use Rattle.finite.specs.Lists.{elem, union, all_in}
use Rattle.finite.specs.ListLaws.{elem_one, elem_head, elem_tail, elem_cases, all_elem, some_fails}
use Rattle.finite.specs.ListLaws.{elem_union, elem_union_left, elem_union_right, elem_flat_map}
use Rattle.finite.specs.ListLaws.{elem_flat_map_by}
use Rattle.orbits.specs.Reach.{Reach, here, there, by_one, by_two, spread, reached, reaches, StaysBelow}
pub use Rattle.orbits.specs.Links.{Dart, Keeps}

-- ---- paths

pub reach_trans : {next : ℕ → List ℕ} {a b c : ℕ} → Reach next a b → Reach next b c → Reach next a c
reach_trans r here = r
reach_trans r (there s e) = there (reach_trans r s) e

pub one_link : {next : ℕ → List ℕ} {a : ℕ} (c : ℕ) → T (elem c (next a)) → Reach next a c
one_link c e = there here e

-- a link, and each of two links, from a dart
pub by_one_link : (f : ℕ → ℕ) (d : ℕ) → Reach (by_one f) d (f d)
by_one_link f d = one_link (f d) (elem_head (f d) [])

pub by_first_link : (f g : ℕ → ℕ) (d : ℕ) → Reach (by_two f g) d (f d)
by_first_link f g d = one_link (f d) (elem_head (f d) (g d ∷ []))

pub by_second_link : (f g : ℕ → ℕ) (d : ℕ) → Reach (by_two f g) d (g d)
by_second_link f g d = one_link (g d) (elem_tail (g d) (f d) (g d ∷ []) (elem_head (g d) []))

-- what holds of each link's dart holds of all that lies one link away
pub by_one_each {ℓ} : (Q : ℕ → Type ℓ) (f : ℕ → ℕ) (d c : ℕ) → T (elem c (by_one f d)) → Q (f d) → Q c
by_one_each Q f d c e q = rw (elem_one c (f d) e) q

pub by_two_each {ℓ} : (Q : ℕ → Type ℓ) (f g : ℕ → ℕ) (d c : ℕ) → T (elem c (by_two f g d)) →
    Q (f d) → Q (g d) → Q c
by_two_each Q f g d c e q r =
    ⊎_elim
    (λ (i : c ≡ f d). rw i q)
    (λ (m : T (elem c (g d ∷ []))). rw (elem_one c (g d) m) r)
    (elem_cases c (f d) (g d ∷ []) e)

-- a link taken twice over reaches what it reaches alone
pub double_to_single : {f : ℕ → ℕ} {a b : ℕ} → Reach (by_two f f) a b → Reach (by_one f) a b
double_to_single here = here
double_to_single {f} {a} (there {b = b} {c = c} r e) =
    let on = reach_trans (double_to_single r) (by_one_link f b) in by_two_each (Reach (by_one f) a) f f b c e on on

pub single_to_double : {f : ℕ → ℕ} {a b : ℕ} → Reach (by_one f) a b → Reach (by_two f f) a b
single_to_double here = here
single_to_double {f} {a} (there {b = b} {c = c} r e) =
    by_one_each (Reach (by_two f f) a) f b c e (reach_trans (single_to_double r) (by_first_link f f b))

-- ---- present darts

pub reach_dart : {n : ℕ} {present : ℕ → Bool} {next : ℕ → List ℕ} {a b : ℕ} →
    Keeps n present next → Dart n present a → Reach next a b → Dart n present b
reach_dart k d here = d
reach_dart k d (there {c = c} r e) = k.stays c (reach_dart k d r) e

-- what holds at the start of a path and goes over each link holds at its end
pub reach_holds {ℓ} : {n : ℕ} {present : ℕ → Bool} {next : ℕ → List ℕ} {a b : ℕ} (Q : ℕ → Type ℓ) →
    Keeps n present next → Dart n present a →
    ((d c : ℕ) → Dart n present d → T (elem c (next d)) → Q d → Q c) → Reach next a b → Q a → Q b
reach_holds Q k d step here q = q
reach_holds Q k d step (there {b = b} {c = c} r e) q =
    step b c (reach_dart k d r) e (reach_holds Q k d step r q)

-- ---- the test

spread_sound : (next : ℕ → List ℕ) (a k : ℕ) (s : List ℕ) → ((x : ℕ) → T (elem x s) → Reach next a x) →
    (x : ℕ) → T (elem x (spread next k s)) → Reach next a x
unfolding spread
spread_sound next a zero s f x h = f x h
spread_sound next a (suc k) s f x h =
    spread_sound next a k (union (flat_map next s) s)
    (λ y m.
    ⊎_elim
    (λ (l : T (elem y (flat_map next s))).
    let i = elem_flat_map y next s l in there (f i.0 i.1) i.2)
    (λ (r : T (elem y s)). f y r)
    (elem_union y (flat_map next s) s m))
    x h

pub reaches_sound : (next : ℕ → List ℕ) (n a b : ℕ) → T (reaches next n a b) → Reach next a b
unfolding reaches reached
reaches_sound next n a b t =
    spread_sound next a n (a ∷ []) (λ x h. rw (elem_one x a h) here) b t

-- the members of s with all that lies one link from them
widened : (ℕ → List ℕ) → List ℕ → List ℕ
widened next s = union (flat_map next s) s

-- every link from a member leads to a member
abbrev Closed : (ℕ → List ℕ) → List ℕ → Type 0
Closed next s = (x c : ℕ) → T (elem x s) → T (elem c (next x)) → T (elem c s)

size : ℕ → List ℕ → ℕ
size n s = count n (λ x. elem x s)

widened_closed : (next : ℕ → List ℕ) (s : List ℕ) → Closed next s → Closed next (widened next s)
unfolding widened
widened_closed next s closed x c m e =
    elem_union_right c (flat_map next s) s (closed x c (⊎_elim linked (λ r. r) (elem_union x (flat_map next s) s m)) e)
  where
    linked : T (elem x (flat_map next s)) → T (elem x s)
    linked l = let i = elem_flat_map x next s l in closed i.0 x i.1 i.2

spread_closed : (next : ℕ → List ℕ) (k : ℕ) (s : List ℕ) → Closed next s → Closed next (spread next k s)
unfolding spread widened
spread_closed next zero s closed = closed
spread_closed next (suc k) s closed = spread_closed next k (widened next s) (widened_closed next s closed)

spread_holds : (next : ℕ → List ℕ) (k : ℕ) (s : List ℕ) (x : ℕ) → T (elem x s) → T (elem x (spread next k s))
unfolding spread widened
spread_holds next zero s x m = m
spread_holds next (suc k) s x m = spread_holds next k (widened next s) x (elem_union_right x (flat_map next s) s m)

widened_sound : (next : ℕ → List ℕ) (a : ℕ) (s : List ℕ) → ((x : ℕ) → T (elem x s) → Reach next a x) →
    (x : ℕ) → T (elem x (widened next s)) → Reach next a x
unfolding widened spread
widened_sound next a s f = spread_sound next a 1 s f

module _ {n : ℕ} {next : ℕ → List ℕ} {a : ℕ} (stays : StaysBelow n next a) where
  -- widening adds a member, or there was none to add
  widened_grows : (s : List ℕ) → ((x : ℕ) → T (elem x s) → Reach next a x) →
      Closed next s ⊎ (size n s < size n (widened next s))
  unfolding widened size
  widened_grows s f =
      ⊎_elim
      (λ (t : T (all_in (λ x. elem x s) (flat_map next s))).
      inl (λ x c m e. all_elem (λ x. elem x s) (flat_map next s) t c (elem_flat_map_by c x next s m e)))
      (λ (t : T (not (all_in (λ x. elem x s) (flat_map next s)))).
      let new = some_fails (λ x. elem x s) (flat_map next s) t in
      let m = elem_union_left new.0 (flat_map next s) s new.1 in
      inr (count_less n new.0 (λ x. elem x s) (λ x. elem x (widened next s))
      (λ x h r. elem_union_right x (flat_map next s) s r)
      (stays new.0 (widened_sound next a s f new.0 m)) new.2 m))
      (decide (all_in (λ x. elem x s) (flat_map next s)))

  spread_ends : (k : ℕ) (s : List ℕ) → ((x : ℕ) → T (elem x s) → Reach next a x) →
      Closed next (spread next k s) ⊎ (k + size n s ≤ size n (spread next k s))
  unfolding spread widened
  spread_ends zero s f = inr (omega arith)
  spread_ends (suc k) s f =
      ⊎_elim
      (λ (closed : Closed next s). inl (spread_closed next (suc k) s closed))
      (λ (l : size n s < size n (widened next s)).
      ⊎_elim (λ closed. inl closed)
      (λ (h : k + size n (widened next s) ≤ size n (spread next k (widened next s))). inr (omega arith))
      (spread_ends k (widened next s) (widened_sound next a s f)))
      (widened_grows s f)

  reached_closed : Closed next (reached next n a)
  unfolding reached size
  reached_closed =
      ⊎_elim
      (λ closed. closed)
      (λ (h : n + size n (a ∷ []) ≤ size n (spread next n (a ∷ []))).
      absurd (omega (
        arith,
        count_small n (λ x. elem x (spread next n (a ∷ []))),
        count_some n a (λ x. elem x (a ∷ [])) (stays a here) (elem_head a []),
      )))
      (spread_ends n (a ∷ []) (λ x m. rw (elem_one x a m) here))

  pub stays_complete : {b : ℕ} → Reach next a b → T (reaches next n a b)
  unfolding reaches reached
  stays_complete here = spread_holds next n (a ∷ []) a (elem_head a [])
  stays_complete (there {b = b} {c = c} r e) = reached_closed b c (stays_complete r) e

-- where all that is reached lies below two bounds, the test does not go by the bound; nor by the
-- links, where they reach the same
pub reaches_same : {n m : ℕ} {next other : ℕ → List ℕ} {a : ℕ} → StaysBelow n next a → StaysBelow m other a →
    ((b : ℕ) → Reach next a b → Reach other a b) → ((b : ℕ) → Reach other a b → Reach next a b) →
    (b : ℕ) → reaches next n a b ≡ reaches other m a b
reaches_same {n} {m} {next} {other} {a} s t to from b =
    same_test (reaches next n a b) (reaches other m a b)
    (λ h. stays_complete t (to b (reaches_sound next n a b h)))
    (λ h. stays_complete s (from b (reaches_sound other m a b h)))

module _ {n : ℕ} {present : ℕ → Bool} {next : ℕ → List ℕ} (keeps : Keeps n present next) where
  -- links that keep the darts stay below their bound, and below any larger one
  pub keeps_stays : {a m : ℕ} → Dart n present a → n ≤ m → StaysBelow m next a
  keeps_stays d l b r = omega (arith, (reach_dart keeps d r).below)

  pub reaches_complete : {a b : ℕ} → Dart n present a → Reach next a b → T (reaches next n a b)
  reaches_complete d r = stays_complete (keeps_stays d (le_refl n)) r

  -- the test agrees with the relation
  pub reaches_iff : {a : ℕ} (b : ℕ) → Dart n present a → T (reaches next n a b) ↔ Reach next a b
  reaches_iff {a} b d = (reaches_sound next n a b, λ r. reaches_complete d r)

  -- reaching is decided by the test
  pub decide_reach : {a : ℕ} (b : ℕ) → Dart n present a → Reach next a b ⊎ ¬ Reach next a b
  decide_reach {a} b d =
      ⊎_elim
      (λ (t : T (reaches next n a b)). inl (reaches_sound next n a b t))
      (λ (t : T (not (reaches next n a b))). inr (λ r. T_not (reaches next n a b) t (reaches_complete d r)))
      (decide (reaches next n a b))

  -- a wider bound changes nothing
  pub reaches_wider : {a m : ℕ} → Dart n present a → n ≤ m → (b : ℕ) → reaches next n a b ≡ reaches next m a b
  reaches_wider d l =
      reaches_same (keeps_stays d (le_refl n)) (keeps_stays d l) (λ b r. r) (λ b r. r)

-- ---- links that lead back

-- from each dart that a link leads to there is a path back, so reaching is an equivalence
pub record Symmetric (n : ℕ) (present : ℕ → Bool) (next : ℕ → List ℕ) : Type 0 where
  pub keeps : Keeps n present next
  pub back : {d : ℕ} (c : ℕ) → Dart n present d → T (elem c (next d)) → Reach next c d

pub reach_sym : {n : ℕ} {present : ℕ → Bool} {next : ℕ → List ℕ} {a b : ℕ} →
    Symmetric n present next → Dart n present a → Reach next a b → Reach next b a
reach_sym w d here = here
reach_sym w d (there {c = c} r e) =
    reach_trans (w.back c (reach_dart w.keeps d r) e) (reach_sym w d r)
