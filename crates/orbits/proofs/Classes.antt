-- The number of classes, in the order of this page: what `is_least` says; every dart reaches one
-- least dart of its class; links that reach the same give the same number; the number is the length
-- of every list with one dart of each class; joining two classes lowers it by one, for just one
-- least dart is lost; what a closed part is.
use mathlib.Core.Path.{◌≡◌, refl, sym, subst}
use mathlib.Core.Logic.{◌⊎◌, inl, inr, ⊎_elim, ◌≢◌, ◌↔◌}
use mathlib.Core.Bool.{Bool, not, ◌&&◌}
use mathlib.Core.List.{List}
use Prim.Native.Nat.{ℕ, suc, ◌≤◌, ◌<◌}
use native.Mathlib.Omega.{arith}
use lib.ListN.{length}
use lib.Dec.{T, T_not, not_T, eqb, ltb, ltb→lt, nltb→le}
use Rattle.finite.specs.Tests.{and_left, and_right, and_both, decide, same_test, differ_by, differ_use}
use Rattle.finite.specs.Bounded.{all_at, all_by, count}
use Rattle.finite.specs.Counting.{count_same, count_one_more, count_injection, least_passing}
use Rattle.finite.specs.Lists.{elem, first_in, distinct, members}
use Rattle.finite.specs.ListLaws.{all_elem, all_of_elem}
use Rattle.finite.specs.Distinct.{length_distinct, elem_members, elem_members_by, distinct_members}
use Rattle.finite.specs.Distinct.{length_members}
use Rattle.finite.specs.FirstPassing.{first_found}
use Rattle.orbits.specs.Reach.{Reach, here, by_one, by_two, reached, reaches}
use Rattle.orbits.specs.Classes.{is_least, classes, is_fixed, is_closed}
use Rattle.orbits.proofs.Reach.{Dart, Keeps, Symmetric, reach_dart, reach_trans, reach_sym, reaches_sound, reaches_complete, by_one_link}
use Rattle.orbits.proofs.Permutations.{Permutes, same_permutes, orbit_keeps, orbit_by}

-- ---- least darts

module _ {n : ℕ} {present : ℕ → Bool} {next : ℕ → List ℕ} (k : Keeps n present next) where
  -- a least dart reaches nothing below it
  pub least_reach : {a b : ℕ} → Dart n present a → T (is_least next n a) → Reach next a b → a ≤ b
  unfolding is_least reaches
  least_reach {a} {b} d t r =
      ⊎_elim
      (λ (l : T (ltb b a)).
      absurd (T_not (reaches next n a b) (all_at a (λ c. not (reaches next n a c)) t b (ltb→lt b a l))
      (reaches_complete k d r)))
      (λ (l : T (not (ltb b a))). nltb→le b a l)
      (decide (ltb b a))

  pub least_by : {a : ℕ} → ((b : ℕ) → b < a → ¬ Reach next a b) → T (is_least next n a)
  unfolding is_least reaches
  least_by {a} f =
      all_by a (λ c. not (reaches next n a c))
      (λ b l. not_T (reaches next n a b) (λ t. f b l (reaches_sound next n a b t)))

  -- every dart reaches a least one
  pub least_of : {a : ℕ} → Dart n present a → (l : ℕ) × Reach next a l × T (is_least next n l)
  least_of {a} d =
      let m = least_passing a (reaches next n a) (reaches_complete k d here) in
      let r = reaches_sound next n a m.0 m.2 in
      (m.0, r, least_by (λ b l s. m.3 b l (reaches_complete k d (reach_trans r s))))

-- and only one
pub least_unique : {n : ℕ} {present : ℕ → Bool} {next : ℕ → List ℕ} {c d : ℕ} → Symmetric n present next →
    Dart n present c → Dart n present d → T (is_least next n c) → T (is_least next n d) → Reach next c d → c ≡ d
least_unique w h k s t r =
    omega (arith, least_reach w.keeps h s r, least_reach w.keeps k t (reach_sym w h r))

-- so a dart is least just where no dart below it reaches it
pub least_iff_first : {n : ℕ} {present : ℕ → Bool} {next : ℕ → List ℕ} {a : ℕ} → Symmetric n present next →
    Dart n present a → T (is_least next n a) ↔ ((b : ℕ) → b < a → Dart n present b → ¬ Reach next b a)
least_iff_first w h = (
  λ t b (l : b < _) d r. omega (arith, least_reach w.keeps h t (reach_sym w d r)),
  λ first. least_by w.keeps (λ b l r. first b l (reach_dart w.keeps h r) (reach_sym w h r)),
)

-- ---- the same classes

-- the test that `classes` counts by
abbrev stands : (ℕ → List ℕ) → ℕ → (ℕ → Bool) → ℕ → Bool
stands next n present a = present a && is_least next n a

classes_count : (next : ℕ → List ℕ) (n : ℕ) (present : ℕ → Bool) →
    classes next n present ≡ count n (stands next n present)
unfolding classes
classes_count next n present = refl

-- a dart that stands for its class under links that reach more stands for it under fewer
stands_finer : {n : ℕ} {present : ℕ → Bool} {next other : ℕ → List ℕ} {a : ℕ} →
    Keeps n present next → Keeps n present other → ((b : ℕ) → Dart n present a → Reach next a b → Reach other a b) →
    a < n → T (stands other n present a) → T (stands next n present a)
stands_finer {n} {present} {next} {other} {a} k o f h t =
    let is_there = and_left (present a) (is_least other n a) t in
    let d : Dart n present a = record { below = h; is_present = is_there } in
    and_both (present a) (is_least next n a) is_there
    (least_by k
    (λ b l r. omega (arith, least_reach o d (and_right (present a) (is_least other n a) t) (f b d r))))

pub same_classes : {n : ℕ} {present : ℕ → Bool} {next other : ℕ → List ℕ} →
    Keeps n present next → Keeps n present other →
    ((a b : ℕ) → Dart n present a → Reach next a b → Reach other a b) →
    ((a b : ℕ) → Dart n present a → Reach other a b → Reach next a b) →
    classes next n present ≡ classes other n present
unfolding classes
same_classes {n} {present} {next} {other} k o f g =
    count_same n (stands next n present) (stands other n present)
    (λ a h.
    same_test (stands next n present a) (stands other n present a) (stands_finer o k (g a) h) (stands_finer k o (f a) h))

-- links that agree on the darts have the same orbits and parts
module _ {n : ℕ} {present : ℕ → Bool} {f e : ℕ → ℕ} (p : Permutes n present f)
    (same : (d : ℕ) → Dart n present d → f d ≡ e d) where
  pub same_orbits : classes (by_one f) n present ≡ classes (by_one e) n present
  same_orbits =
      same_classes (orbit_keeps p) (orbit_keeps (same_permutes p same))
      (λ a b h r. orbit_by p h (λ d k. rw (same d k) (by_one_link e d)) r)
      (λ a b h r. orbit_by (same_permutes p same) h (λ d k. rw (← (same d k)) (by_one_link f d)) r)

-- ---- representatives

-- a list with one dart of each class
pub record Represents (n : ℕ) (present : ℕ → Bool) (next : ℕ → List ℕ) (s : List ℕ) : Type 0 where
  pub all_distinct : T (distinct s)
  pub darts : (x : ℕ) → T (elem x s) → Dart n present x
  pub apart : (x y : ℕ) → T (elem x s) → T (elem y s) → Reach next x y → x ≡ y
  pub every : (d : ℕ) → Dart n present d → (x : ℕ) × T (elem x s) × Reach next d x

module _ {n : ℕ} {present : ℕ → Bool} {next : ℕ → List ℕ} (w : Symmetric n present next) where
  -- the least darts, one of each class
  pub least_represent : Represents n present next (members n (λ a. present a && is_least next n a))
  least_represent =
      record {
        all_distinct = distinct_members n (stands next n present);
        darts = dart;
        apart = λ x y h k r. least_unique w (dart x h) (dart y k) (least x h) (least y k) r;
        every = λ d h.
            let l = least_of w.keeps h in
            let dart_there = reach_dart w.keeps h l.1 in (
              l.0,
              elem_members_by n l.0 (stands next n present) dart_there.below
                  (and_both (present l.0) (is_least next n l.0) dart_there.is_present l.2),
              l.1,
            );
      }
    where
      dart : (x : ℕ) → T (elem x (members n (stands next n present))) → Dart n present x
      dart x h =
          let m = elem_members n x (stands next n present) h in
          record { below = m.0; is_present = and_left (present x) (is_least next n x) m.1 }

      least : (x : ℕ) → T (elem x (members n (stands next n present))) → T (is_least next n x)
      least x h = and_right (present x) (is_least next n x) (elem_members n x (stands next n present) h).1

  length_represents : {s : List ℕ} → Represents n present next s → length s ≡ count n (λ k. elem k s)
  length_represents {s} r = length_distinct n s r.all_distinct (λ x m. (r.darts x m).below)

  -- send each dart of one list to the dart of its class in the other
  represents_within : {s t : List ℕ} → Represents n present next s → Represents n present next t →
      count n (λ k. elem k s) ≤ count n (λ k. elem k t)
  represents_within {s} {t} r q =
      count_injection n n (λ k. elem k s) (λ k. elem k t) to
      (λ k h m. ((q.darts (to k) (found k m).0).below, (found k m).0))
      (λ i j g h m o e.
      r.apart i j m o
      (reach_trans (leads i m)
      (rw e (reach_sym w (r.darts j o) (leads j o)))))
    where
      to : ℕ → ℕ
      to k = first_in (reaches next n k) 0 t

      found : (k : ℕ) → T (elem k s) → T (elem (to k) t) × T (reaches next n k (to k))
      found k m =
          let v = q.every k (r.darts k m) in
          first_found (reaches next n k) 0 v.0 t v.1 (reaches_complete w.keeps (r.darts k m) v.2)

      leads : (k : ℕ) → T (elem k s) → Reach next k (to k)
      leads k m = reaches_sound next n k (to k) (found k m).1

  -- every list of representatives is as long as there are classes
  pub classes_represented : {s : List ℕ} → Represents n present next s → length s ≡ classes next n present
  classes_represented {s} r =
      omega (
        arith,
        classes_count next n present,
        length_members n (stands next n present),
        length_represents r,
        length_represents least_represent,
        represents_within r least_represent,
        represents_within least_represent r,
      )

-- ---- two classes joined

-- `other` reaches what `next` reaches, y from x, and no more: what goes over all that `next`
-- reaches, from x to y and from y to x, goes over all that `other` reaches
pub record Joins (n : ℕ) (present : ℕ → Bool) (next other : ℕ → List ℕ) (x y : ℕ) : Type 1 where
  pub finer : (c d : ℕ) → Dart n present c → Reach next c d → Reach other c d
  pub joined : Reach other x y
  pub no_more : (Q : ℕ → Type 0) → ((c d : ℕ) → Dart n present c → Reach next c d → Q c → Q d) →
      (Q x → Q y) → (Q y → Q x) → (c d : ℕ) → Dart n present c → Reach other c d → Q c → Q d

joins_sym : {n : ℕ} {present : ℕ → Bool} {next other : ℕ → List ℕ} {x y : ℕ} → Symmetric n present other →
    Dart n present x → Joins n present next other x y → Joins n present next other y x
joins_sym v h j =
    record {
      finer = j.finer;
      joined = reach_sym v h j.joined;
      no_more = λ Q step forth back. j.no_more Q step back forth;
    }

module _ {n : ℕ} {present : ℕ → Bool} {next other : ℕ → List ℕ}
    (w : Symmetric n present next) (v : Symmetric n present other) where
  -- what `other` reaches from k: the class of k, and if k lies in the class of x or y the other one
  join_cases : {x y : ℕ} (k b : ℕ) → Dart n present k → Joins n present next other x y → Reach other k b →
      Reach next k b ⊎ (Reach next k x × Reach next y b) ⊎ (Reach next k y × Reach next x b)
  join_cases {x} {y} k b h j r =
      j.no_more
      (λ e. Reach next k e ⊎ (Reach next k x × Reach next y e) ⊎ (Reach next k y × Reach next x e))
      (λ c d g s. ⊎_elim (λ t. inl (reach_trans t s))
      (⊎_elim (λ t. inr (inl (t.0, reach_trans t.1 s))) (λ t. inr (inr (t.0, reach_trans t.1 s)))))
      (⊎_elim (λ t. inr (inl (t, here))) (⊎_elim (λ t. inr (inl (t.0, here))) (λ t. inl t.0)))
      (⊎_elim (λ t. inr (inr (t, here))) (⊎_elim (λ t. inl t.0) (λ t. inr (inr (t.0, here)))))
      k b h r (inl here)

  -- the larger of the two least darts is lost, and no other
  join_loses : {x y l m : ℕ} → Dart n present x → Dart n present y → Joins n present next other x y →
      Reach next x l → T (is_least next n l) → Reach next y m → T (is_least next n m) → l < m →
      classes next n present ≡ suc (classes other n present)
  unfolding classes
  join_loses {x} {y} {l} {m} h k j p s q t less =
      count_one_more n m (stands next n present) (stands other n present) dm.below
      (and_both (present m) (is_least next n m) dm.is_present t)
      (not_T (stands other n present m) lost)
      (λ d b e.
      same_test (stands next n present d) (stands other n present d) (remains d b e)
      (stands_finer w.keeps v.keeps (λ c g. j.finer d c g) b))
    where
      dl : Dart n present l
      dl = reach_dart w.keeps h p

      dm : Dart n present m
      dm = reach_dart w.keeps k q

      lost : T (stands other n present m) → ⊥
      lost u =
          let down : Reach other m l =
          reach_trans (j.finer m y dm (reach_sym w k q)) (reach_trans (reach_sym v h j.joined) (j.finer x l h p)) in
          omega (arith, least_reach v.keeps dm (and_right (present m) (is_least other n m) u) down)

      remains : (d : ℕ) → d < n → d ≢ m → T (stands next n present d) → T (stands other n present d)
      remains d b e u =
          let is_there = and_left (present d) (is_least next n d) u in
          let least = and_right (present d) (is_least next n d) u in
          let dd : Dart n present d = record { below = b; is_present = is_there } in
          and_both (present d) (is_least other n d) is_there
          (least_by v.keeps
          (λ c i r.
          ⊎_elim
          (λ (z : Reach next d c). omega (arith, least_reach w.keeps dd least z))
          (⊎_elim
          (λ z. omega (
            arith,
            least_unique w dd dl least s (reach_trans z.0 p),
            least_reach w.keeps dm t (reach_trans (reach_sym w k q) z.1),
          ))
          (λ z. e (least_unique w dd dm least t (reach_trans z.0 q))))
          (join_cases d c dd j r)))

  -- joining the classes of x and y, if they are two, lowers the number by one
  pub join_lowers_classes : {x y : ℕ} → Dart n present x → Dart n present y → ¬ Reach next x y →
      Joins n present next other x y → classes next n present ≡ suc (classes other n present)
  join_lowers_classes {x} {y} h k apart j =
      let l = least_of w.keeps h in
      let m = least_of w.keeps k in
      ⊎_elim
      (λ (t : T (ltb l.0 m.0)).
      join_loses h k j l.1 l.2 m.1 m.2 (ltb→lt l.0 m.0 t))
      (λ (t : T (not (ltb l.0 m.0))).
      let differ : l.0 ≢ m.0 =
      λ e. apart (reach_trans l.1 (reach_sym w k (subst (Reach next y) (sym e) m.1))) in
      join_loses k h (joins_sym v h j) m.1 m.2 l.1 l.2 (omega (arith, nltb→le l.0 m.0 t)))
      (decide (ltb l.0 m.0))

-- ---- closed parts

-- the test that `is_closed` makes at each dart
both_move : (f g : ℕ → ℕ) (d : ℕ) → T (not (is_fixed f d) && not (is_fixed g d)) ↔ ((f d ≢ d) × (g d ≢ d))
unfolding is_fixed
both_move f g d = (
  λ t. (
    differ_use (f d) d (and_left (not (eqb (f d) d)) (not (eqb (g d) d)) t),
    differ_use (g d) d (and_right (not (eqb (f d) d)) (not (eqb (g d) d)) t),
  ),
  λ m. and_both (not (eqb (f d) d)) (not (eqb (g d) d)) (differ_by (f d) d m.0) (differ_by (g d) d m.1),
)

module _ {n : ℕ} {present : ℕ → Bool} {f g : ℕ → ℕ} (k : Keeps n present (by_two f g)) where
  -- a part is closed just where both links move each of its darts
  pub closed_iff : {a : ℕ} → Dart n present a →
      T (is_closed f g n a) ↔ ((d : ℕ) → Reach (by_two f g) a d → (f d ≢ d) × (g d ≢ d))
  unfolding is_closed reaches
  closed_iff {a} h = (
    λ t d r.
        (both_move f g d).0
        (all_elem (λ e. not (is_fixed f e) && not (is_fixed g e)) (reached (by_two f g) n a) t d (reaches_complete k h r)),
    λ m.
        all_of_elem (λ e. not (is_fixed f e) && not (is_fixed g e)) (reached (by_two f g) n a)
        (λ d t. (both_move f g d).1 (m d (reaches_sound (by_two f g) n a d t))),
  )
