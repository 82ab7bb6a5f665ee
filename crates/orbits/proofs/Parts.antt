-- What a visit finds, in the order of this page: the queue of no dart; a visit that begins with it finds
-- just what is reached, as a set; the same for one link; how callers show that links lead to darts
-- alone, and take the set at the bound of their darts.
use mathlib.Core.Path.{◌≡◌, sym}
use mathlib.Core.Logic.{⊎_elim}
use mathlib.Core.Bool.{Bool, false}
use mathlib.Core.List.{List}
use Prim.Native.Nat.{ℕ, ◌≤◌, ◌<◌}
use native.Mathlib.Omega.{arith}
use lib.Dec.{T, eqb, eqb→eq}
use lib.ListN.{length, get_or, replicate, length-replicate, get_or-replicate, get_or-eq_default}
use Rattle.finite.specs.Tests.{same_test}
use Rattle.finite.specs.Bounded.{any_at, count, lt_or_ge}
use Rattle.finite.specs.Counting.{count_none}
use Rattle.orbits.specs.Reach.{Reach, here, there, by_one, by_two, reaches, StaysBelow}
use Rattle.orbits.specs.Sets.{dart_limit, set_of}
use Rattle.orbits.specs.Links.{link_of, test_of, Followable, Permuted}
use Rattle.orbits.specs.Queue.{queued}
use Rattle.orbits.specs.Visits.{Closed, Visited}
use Rattle.orbits.specs.declared.visits.Queue.{Queue}
use Rattle.orbits.proofs.Reach.{Dart, Keeps, keeps_stays, reaches_sound, stays_complete, reaches_same, reaches_wider, double_to_single, single_to_double, by_two_each}
use Rattle.orbits.proofs.Permutations.{part_keeps}
use Rattle.orbits.proofs.Sets.{set_of_same}
use Rattle.orbits.proofs.Queue.{place}

-- ---- no dart

no_answer : (n d : ℕ) → ¬ T (test_of (replicate n false) d)
no_answer n d t =
    ⊎_elim
    (λ (h : d < n). rw (get_or-replicate n d false false h) at t)
    (λ (h : n ≤ d).
    rw (get_or-eq_default (replicate n false) false {n = d} (rw (length-replicate n false) h)) at t)
    (lt_or_ge d n)

pub empty_placed : (order : List ℕ) (d : ℕ) → T (test_of (replicate dart_limit false) d) → T (queued order 0 d)
empty_placed order d t = absurd (no_answer dart_limit d t)

pub empty_size : 0 ≡ count dart_limit (test_of (replicate dart_limit false))
empty_size = sym (count_none dart_limit (test_of (replicate dart_limit false)) (λ d l. no_answer dart_limit d))

-- of a queue whose end is 0
module _ (q : Queue) (none : q.end ≡ 0) where
  pub none_seen : (d : ℕ) → ¬ T (test_of q.seen d)
  none_seen d t = let at = place q d t in absurd (omega (arith, at.1, none))

  pub closed_none : (f g : ℕ → ℕ) → Closed f g q.seen
  closed_none f g d t = absurd (none_seen d t)

-- ---- what a visit finds

-- what holds both links of each member holds all that is reached
pub closed_reach : {f g : ℕ → ℕ} (seen : List Bool) → Closed f g seen → {a b : ℕ} →
    Reach (by_two f g) a b → T (test_of seen a) → T (test_of seen b)
closed_reach seen closed here t = t
closed_reach {f} {g} seen closed {a} (there {b = b} {c = c} r e) t =
    let links = closed b (closed_reach seen closed r t) in
    by_two_each (λ x. T (test_of seen x)) f g b c e links.0 links.1

-- from no dart, the queue comes to hold just what is reached from d
pub visited_set : {f g : List ℕ} {d : ℕ} {q r : Queue} → q.end ≡ 0 → Followable f g d → Visited f g d q r →
    set_of (queued r.order r.end) ≡ set_of (reaches (by_two (link_of f) (link_of g)) dart_limit d)
unfolding queued
visited_set {f} {g} {d} {r = r} none w v =
    set_of_same (queued r.order r.end) (reaches (by_two (link_of f) (link_of g)) dart_limit d)
    (λ e l. same_test (queued r.order r.end e) (reaches (by_two (link_of f) (link_of g)) dart_limit d e) (to e) (from e))
  where
    to : (e : ℕ) → T (queued r.order r.end e) → T (reaches (by_two (link_of f) (link_of g)) dart_limit d e)
    to e t =
        let at = any_at r.end (λ i. eqb e (get_or r.order i 0)) t in
        stays_complete w.below
        (rw (eqb→eq e (get_or r.order at.0 0) at.2) (v.lengthened.added at.0 (omega (arith, none)) at.1))

    from : (e : ℕ) → T (reaches (by_two (link_of f) (link_of g)) dart_limit d e) → T (queued r.order r.end e)
    from e t =
        let reached = reaches_sound (by_two (link_of f) (link_of g)) dart_limit d e t in
        r.placed e (closed_reach r.seen v.closed reached v.start)

-- ---- one link

pub orbit_within : {f : List ℕ} {d : ℕ} → length f ≡ dart_limit → StaysBelow dart_limit (by_one (link_of f)) d →
    Followable f f d
orbit_within whole stays =
    record { first_whole = whole; second_whole = whole; below = λ b r. stays b (double_to_single r) }

pub orbit_set : {f : ℕ → ℕ} {d : ℕ} → StaysBelow dart_limit (by_one f) d →
    set_of (reaches (by_two f f) dart_limit d) ≡ set_of (reaches (by_one f) dart_limit d)
orbit_set {f} {d} stays =
    set_of_same (reaches (by_two f f) dart_limit d) (reaches (by_one f) dart_limit d)
    (λ b l.
    reaches_same (λ c r. stays c (double_to_single r)) stays (λ c r. double_to_single r) (λ c r. single_to_double r) b)

-- ---- for callers

pub part_within : {n : ℕ} {present : ℕ → Bool} {f g : List ℕ} {d : ℕ} → Permuted n present f g → Dart n present d →
    Followable f g d
part_within p h =
    record {
      first_whole = p.first.whole;
      second_whole = p.second.whole;
      below = keeps_stays (part_keeps p.first.permutes p.second.permutes) h p.within;
    }

-- the darts lie below n, and the set does not go by the bound
pub reached_set_bound : {n : ℕ} {present : ℕ → Bool} {next : ℕ → List ℕ} {d : ℕ} → Keeps n present next →
    Dart n present d → n ≤ dart_limit → set_of (reaches next dart_limit d) ≡ set_of (reaches next n d)
reached_set_bound {n} {next = next} {d = d} k h l =
    set_of_same (reaches next dart_limit d) (reaches next n d) (λ b m. sym (reaches_wider k h l b))
