-- The count of parts, in the order of this page: what holds when the darts below a have been passed; at the
-- start; past a dart that is absent or in the queue; past a dart from which a visit was made, which is
-- the least of its part; at the end.
use mathlib.Core.Path.{◌≡◌, refl, ◌∙◌, ap, subst}
use mathlib.Core.Logic.{⊎_elim}
use mathlib.Core.Bool.{Bool, true, false, not, ◌&&◌}
use mathlib.Core.List.{List}
use Prim.Native.Nat.{ℕ, ◌+◌, ◌≤◌, ◌<◌, zero-le}
use native.Mathlib.Nat.{not-suc-le-zero}
use native.Mathlib.Numerals.{add-one}
use native.Mathlib.Omega.{arith}
use mir.Val.{bool_byte}
use lib.Dec.{T, T_not, not_T}
use Rattle.finite.specs.Tests.{and_left, and_right, and_both, of_true, decide}
use Rattle.finite.specs.Bounded.{one_if, sum, count, lt_or_ge}
use Rattle.finite.specs.Counting.{count_small, one_if_passes, one_if_fails}
use Rattle.orbits.specs.Reach.{Reach, by_one, by_two}
use Rattle.orbits.specs.Classes.{is_least, classes}
use Rattle.orbits.specs.Links.{Dart, Permutes, link_of, test_of, Permuted}
use Rattle.orbits.specs.Visits.{Closed, Ready, Visited}
use Rattle.orbits.specs.declared.visits.Queue.{Queue}
use Rattle.orbits.proofs.Reach.{Symmetric, double_to_single, single_to_double}
use Rattle.orbits.proofs.Permutations.{orbit_keeps, part_keeps, part_symmetric}
use Rattle.orbits.proofs.Classes.{least_iff_first, same_classes}
use Rattle.orbits.proofs.Queue.{lengthened_seen, lengthened_cases}
use Rattle.orbits.proofs.Parts.{none_seen, closed_none, closed_reach, part_within}

-- a is the first dart of its part
abbrev first : List ℕ → List ℕ → ℕ → (ℕ → Bool) → ℕ → Bool
first f g n present a = present a && is_least (by_two (link_of f) (link_of g)) n a

-- The darts below a have been passed: what they reach is in the queue, and nothing else; their parts
-- are counted.
pub record Counting (f g : List ℕ) (n : ℕ) (present : ℕ → Bool) (q : Queue) (parts a : ℕ) : Type 0 where
  pub links : Closed (link_of f) (link_of g) q.seen
  pub from : (e : ℕ) → T (test_of q.seen e) →
      (b : ℕ) × (b < a) × Dart n present b × Reach (by_two (link_of f) (link_of g)) b e
  pub passed : (b : ℕ) → b < a → Dart n present b → T (test_of q.seen b)
  pub within : a ≤ n
  pub parts_counted : parts ≡ count a (first f g n present)

pub counting_none : (f g : List ℕ) (n : ℕ) (present : ℕ → Bool) {q : Queue} → q.end ≡ 0 → Counting f g n present q 0 0
unfolding count sum
counting_none f g n present {q} none =
    record {
      links = closed_none q none (link_of f) (link_of g);
      from = λ e t. absurd (none_seen q none e t);
      passed = λ b l h. absurd (not-suc-le-zero l);
      within = zero-le;
      parts_counted = refl;
    }

-- the same under other names, as where two ways through the code meet
pub counting_same : {f g : List ℕ} {n : ℕ} {present : ℕ → Bool} {q r : Queue} {parts parts₁ a : ℕ} → r ≡ q →
    parts₁ ≡ parts → Counting f g n present q parts a → Counting f g n present r parts₁ a
counting_same s e c = rw (s, e) c

pub counting_ends : {f g : List ℕ} {n : ℕ} {present : ℕ → Bool} {q : Queue} {parts a : ℕ} →
    Counting f g n present q parts a → n ≤ a → parts ≡ classes (by_two (link_of f) (link_of g)) n present
unfolding classes
counting_ends {f} {g} {n} {present} {a = a} c l =
    let e : a ≡ n = omega (arith, c.within) in
    c.parts_counted ∙ ap (λ (k : ℕ). count k (first f g n present)) e

pub count_next : (a : ℕ) (p : ℕ → Bool) → count (a + 1) p ≡ count a p + one_if (p a)
unfolding count sum
count_next a p = ap (λ (k : ℕ). count k p) (add-one a)

pub byte_small : (b : Bool) → bool_byte b ≤ 1
byte_small true = omega arith
byte_small false = omega arith

pub one_if_byte : (b : Bool) → bool_byte b ≡ one_if b
unfolding one_if
one_if_byte true = refl
one_if_byte false = refl

-- there are no more parts than darts passed
pub counting_small : {f g : List ℕ} {n : ℕ} {present : ℕ → Bool} {q : Queue} {parts a : ℕ} →
    Counting f g n present q parts a → parts ≤ a
counting_small {f} {g} {n} {present} {a = a} c =
    omega (arith, c.parts_counted, count_small a (first f g n present))

module _ {f g : List ℕ} {n : ℕ} {present : ℕ → Bool} (p : Permuted n present f g) where
  symmetric : Symmetric n present (by_two (link_of f) (link_of g))
  symmetric = part_symmetric p.first.permutes p.second.permutes

  module _ {q : Queue} {parts a : ℕ} (c : Counting f g n present q parts a) (l : a < n) where
    -- a dart that is in the queue is reached from one before it
    old_not_first : T (test_of q.seen a) → ¬ T (first f g n present a)
    old_not_first t u =
        let b = c.from a t in
        (least_iff_first symmetric
        (record { below = l; is_present = and_left (present a) _ u })).0
        (and_right (present a) _ u) b.0 b.1 b.2 b.3

    -- past a dart that is absent or in the queue
    pub counting_skip : present a && not (test_of q.seen a) ≡ false →
        Counting f g n present q parts (a + 1)
    counting_skip old =
        record {
          links = c.links;
          from = λ e t. let b = c.from e t in (b.0, omega (arith, b.1), b.2, b.3);
          passed = λ b h d.
              ⊎_elim
              (λ (m : b < a). c.passed b m d)
              (λ (m : a ≤ b).
              let e : b ≡ a = omega arith in
              rw e (in_queue (subst (λ (x : ℕ). T (present x)) e d.is_present)))
              (lt_or_ge b a);
          within = omega arith;
          parts_counted =
              omega (
                arith,
                c.parts_counted,
                count_next a (first f g n present),
                one_if_fails (first f g n present a) (not_T (first f g n present a) not_first),
              );
        }
      where
        in_queue : T (present a) → T (test_of q.seen a)
        in_queue t =
            ⊎_elim
            (λ s. s)
            (λ (s : T (not (test_of q.seen a))).
            absurd (subst T old (and_both (present a) (not (test_of q.seen a)) t s)))
            (decide (test_of q.seen a))

        not_first : ¬ T (first f g n present a)
        not_first u = old_not_first (in_queue (and_left (present a) _ u)) u

    -- a dart that is not in the queue is the first of its part
    module _ (new : present a && not (test_of q.seen a) ≡ true) where
      is_unseen : T (present a && not (test_of q.seen a))
      is_unseen = of_true (present a && not (test_of q.seen a)) new

      a_present : T (present a)
      a_present = and_left (present a) (not (test_of q.seen a)) is_unseen

      not_seen : ¬ T (test_of q.seen a)
      not_seen = T_not (test_of q.seen a) (and_right (present a) (not (test_of q.seen a)) is_unseen)

      a_dart : Dart n present a
      a_dart = record { below = l; is_present = a_present }

      a_least : T (is_least (by_two (link_of f) (link_of g)) n a)
      a_least =
          (least_iff_first symmetric a_dart).1
          (λ b h d r. not_seen (closed_reach q.seen c.links r (c.passed b h d)))

      -- its part can be visited
      pub counting_ready : Ready f g a q
      counting_ready = record { within = part_within p a_dart; closed = c.links }

      -- past it, with its part counted
      pub counting_part : {r : Queue} → Visited f g a q r → Counting f g n present r (parts + 1) (a + 1)
      counting_part v =
          record {
            links = v.closed;
            from = λ e t.
                ⊎_elim
                (λ (o : T (test_of q.seen e)). let b = c.from e o in (b.0, omega (arith, b.1), b.2, b.3))
                (λ (s : Reach (by_two (link_of f) (link_of g)) a e). (a, omega arith, a_dart, s))
                (lengthened_cases v.lengthened e t);
            passed = λ b h d.
                ⊎_elim
                (λ (m : b < a). lengthened_seen v.lengthened b (c.passed b m d))
                (λ (m : a ≤ b). let e : b ≡ a = omega arith in rw e v.start)
                (lt_or_ge b a);
            within = omega arith;
            parts_counted =
                omega (
                  arith,
                  c.parts_counted,
                  count_next a (first f g n present),
                  one_if_passes (first f g n present a) (and_both (present a) _ a_present a_least),
                );
          }

-- ---- one link

-- the parts under a link taken twice over are its orbits
pub orbits_counted : {n : ℕ} {present : ℕ → Bool} {f : ℕ → ℕ} → Permutes n present f →
    classes (by_two f f) n present ≡ classes (by_one f) n present
orbits_counted p =
    same_classes (part_keeps p p) (orbit_keeps p) (λ a b h r. double_to_single r) (λ a b h r. single_to_double r)
