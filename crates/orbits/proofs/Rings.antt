-- The orbit of a dart as a list: from the dart, each member's link is the next, and the last member's
-- the dart itself; no member stands twice. `ring` of finite runs through it.
-- Take the least number of links that leads back. Two darts on the way that were the same would
-- lead back by fewer.
use mathlib.Core.Path.{◌≡◌, refl, sym, ap, subst, ◌∙◌}
use mathlib.Core.Logic.{◌≢◌, ⊎_elim}
use mathlib.Core.Bool.{Bool}
use mathlib.Core.List.{List, [], ◌∷◌, ◌++◌}
use Prim.Native.Nat.{ℕ, zero, suc, ◌+◌, ◌-◌, ◌≤◌, ◌<◌}
use native.Mathlib.Nat.{zero-add, suc-add, not-suc-le-zero}
use native.Mathlib.Omega.{arith}
use lib.Dec.{T, eqb, eqb→eq}
use lib.ListN.{length}
use Rattle.finite.specs.Tests.{equal_by}
use Rattle.finite.specs.Bounded.{count}
use Rattle.finite.specs.Counting.{least_passing}
use Rattle.finite.specs.Lists.{elem, distinct}
use Rattle.finite.specs.ListLaws.{elem_head, elem_cases}
use Rattle.finite.specs.Distinct.{distinct_cons}
use Rattle.finite.specs.Cycles.{Chain, Cycle}
use Rattle.finite.specs.CycleLaws.{cycle_holds}
use Rattle.orbits.specs.Reach.{Reach, here, by_one}
use Rattle.orbits.proofs.Reach.{Dart, reach_dart, reach_trans, by_one_link}
use Rattle.orbits.proofs.Permutations.{Permutes, iterate, iterate_after, comes_back, orbit_keeps}

-- a, f a, f (f a) and so on, k of them
unfoldable trail : (ℕ → ℕ) → ℕ → ℕ → List ℕ
trail f zero a = []
trail f (suc k) a = a ∷ trail f k (f a)

trail_length : (f : ℕ → ℕ) (k a : ℕ) → length (trail f k a) ≡ k
unfolding trail
trail_length f zero a = refl
trail_length f (suc k) a = ap suc (trail_length f k (f a))

trail_chain : (f : ℕ → ℕ) (k a : ℕ) → Chain (λ x y. f x ≡ y) (trail f k a ++ iterate f k a ∷ [])
unfolding trail Chain iterate
trail_chain f zero a = tt
trail_chain f (suc zero) a = (refl, tt)
trail_chain f (suc (suc k)) a =
    let c = subst (λ (d : ℕ). Chain (λ x y. f x ≡ y) (trail f (suc k) (f a) ++ d ∷ [])) (iterate_after f (suc k) a)
    (trail_chain f (suc k) (f a)) in
    (refl, c)

trail_elem : (f : ℕ → ℕ) (k a x : ℕ) → T (elem x (trail f k a)) → (j : ℕ) × (j < k) × (x ≡ iterate f j a)
unfolding trail elem iterate
trail_elem f zero a x m = absurd m
trail_elem f (suc k) a x m =
    ⊎_elim
    (λ (e : x ≡ a). (0, omega arith, e))
    (λ (l : T (elem x (trail f k (f a)))).
    let r = trail_elem f k (f a) x l in (suc r.0, omega arith, r.2 ∙ iterate_after f r.0 a))
    (elem_cases x a (trail f k (f a)) m)

trail_distinct : (f : ℕ → ℕ) (k a : ℕ) →
    ((i j : ℕ) → i < j → j < k → iterate f i a ≢ iterate f j a) → T (distinct (trail f k a))
unfolding trail distinct iterate
trail_distinct f zero a apart = tt
trail_distinct f (suc k) a apart =
    distinct_cons a (trail f k (f a))
    (λ m.
    let r = trail_elem f k (f a) a m in
    apart 0 (suc r.0) (omega arith) (omega arith) (r.2 ∙ iterate_after f r.0 a))
    (trail_distinct f k (f a)
    (λ i j l h e.
    apart (suc i) (suc j) (omega arith) (omega arith)
    (sym (iterate_after f i a) ∙ (e ∙ iterate_after f j a))))

iterate_add : (f : ℕ → ℕ) (c i a : ℕ) → iterate f (c + i) a ≡ iterate f c (iterate f i a)
unfolding iterate
iterate_add f zero i a = ap (λ (k : ℕ). iterate f k a) (zero-add i)
iterate_add f (suc c) i a = ap (λ (k : ℕ). iterate f k a) (suc-add c i) ∙ ap f (iterate_add f c i a)

-- links that meet lead back by fewer
meet_sooner : (f : ℕ → ℕ) (p i j a : ℕ) → i < j → j < suc p → iterate f (suc p) a ≡ a →
    iterate f i a ≡ iterate f j a → (q : ℕ) × (q < p) × (iterate f (suc q) a ≡ a)
meet_sooner f p i j a l h home e =
    let c = suc p - j in
    let q = c + i - 1 in
    let eq : suc q ≡ c + i = omega arith in
    let ep : c + j ≡ suc p = omega arith in (
      q,
      omega arith,
      ap (λ (k : ℕ). iterate f k a) eq ∙ (iterate_add f c i a ∙ (ap (iterate f c) e ∙ (sym (iterate_add f c j a)
          ∙ (ap (λ (k : ℕ). iterate f k a) ep ∙ home)))),
    )

-- an orbit as a list: all after a
pub record Ringed (f : ℕ → ℕ) (a : ℕ) (t : List ℕ) : Type 0 where
  pub cycle : Cycle (λ x y. f x ≡ y) (a ∷ t)
  pub all_distinct : T (distinct (a ∷ t))

-- the orbit of a dart that comes back
ringed_from : (f : ℕ → ℕ) (p a : ℕ) → iterate f (suc p) a ≡ a →
    (t : List ℕ) × Ringed f a t × (length (a ∷ t) ≤ suc p)
unfolding trail Cycle
ringed_from f p a home =
    let back : ℕ → Bool = λ q. eqb (iterate f (suc q) a) a in
    let least = least_passing p back (equal_by (iterate f (suc p) a) a home) in
    let q = least.0 in
    let again = eqb→eq (iterate f (suc q) a) a least.2 in (
      trail f q (f a),
      record {
        cycle =
            subst (λ (d : ℕ). Chain (λ x y. f x ≡ y) (trail f (suc q) a ++ d ∷ [])) again (trail_chain f (suc q) a);
        all_distinct =
            trail_distinct f (suc q) a
            (λ i j l h e.
            let s = meet_sooner f q i j a l h again e in
            least.3 s.0 s.1 (equal_by (iterate f (suc s.0) a) a s.2));
      },
      omega (arith, trail_length f q (f a)),
    )

module _ {n : ℕ} {present : ℕ → Bool} {f : ℕ → ℕ} (p : Permutes n present f) {a : ℕ} (h : Dart n present a) where
  pub orbit_ringed : (t : List ℕ) × Ringed f a t × (length (a ∷ t) ≤ count n present)
  orbit_ringed = let m = comes_back p h in from m.0 m.1 m.2 m.3
    where
      from : (m : ℕ) → 0 < m → m ≤ count n present → iterate f m a ≡ a →
          (t : List ℕ) × Ringed f a t × (length (a ∷ t) ≤ count n present)
      from zero l e home = absurd (not-suc-le-zero l)
      from (suc m) l e home = let r = ringed_from f m a home in (r.0, r.1, omega arith)

  -- its members are what is reached
  pub ringed_reach : {t : List ℕ} → Ringed f a t → (x : ℕ) → T (elem x (a ∷ t)) → Reach (by_one f) a x
  ringed_reach {t} r x m =
      cycle_holds (λ x y. f x ≡ y) (Reach (by_one f) a)
      (λ x y (e : f x ≡ y) (q : Reach (by_one f) a x).
      subst (Reach (by_one f) a) e (reach_trans q (by_one_link f x)))
      a x (a ∷ t) r.cycle (elem_head a t) m here

  pub ringed_darts : {t : List ℕ} → Ringed f a t → (x : ℕ) → T (elem x (a ∷ t)) → Dart n present x
  ringed_darts r x m = reach_dart (orbit_keeps p) h (ringed_reach r x m)
