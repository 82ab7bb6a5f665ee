-- The first member that passes a test, in the order of this page: where one passes, the first is a
-- member that passes; it is that one where only one does; it cuts the list in two, and all before
-- it fail; where no member passes, there is none and the default is given.
use Rattle.std.specs.Prelude.{◌≡◌, refl, Bool, not, ◌||◌, List, [], ◌∷◌, ◌++◌, ℕ, T}
use Rattle.std.proofs.Common.{ap, ⊎_elim, T_not}
use Rattle.std.proofs.Math.Path.{sym, subst}
use Rattle.std.proofs.Math.Dec.{not_T}
use Rattle.finite.specs.Tests.{or_left, or_right, decide, is_true, is_false}
use Rattle.finite.specs.Lists.{elem, any_in, first_in}
use Rattle.finite.specs.ListLaws.{elem_head, elem_tail, elem_cases}

pub first_found : (p : ℕ → Bool) (d x : ℕ) (s : List ℕ) → T (elem x s) → T (p x) →
    T (elem (first_in p d s) s) × T (p (first_in p d s))
unfolding first_in elem
first_found p d x [] m t = absurd m
first_found p d x (y ∷ s) m t =
    ⊎_elim
    (λ (u : T (p y)).
    let e : first_in p d (y ∷ s) ≡ y = rw (is_true (p y) u) in
    subst (λ (z : ℕ). T (elem z (y ∷ s)) × T (p z)) (sym e) (elem_head y s, u))
    (λ (u : T (not (p y))).
    let r = first_found p d x s
    (⊎_elim (λ (e : x ≡ y). absurd (T_not (p y) u (rw e at t))) (λ l. l) (elem_cases x y s m)) t in
    let e : first_in p d (y ∷ s) ≡ first_in p d s = rw (is_false (p y) (T_not (p y) u)) in
    subst (λ (z : ℕ). T (elem z (y ∷ s)) × T (p z)) (sym e) (elem_tail (first_in p d s) y s r.0, r.1))
    (decide (p y))

pub first_only : (p : ℕ → Bool) (d x : ℕ) (s : List ℕ) → T (elem x s) → T (p x) →
    ((y : ℕ) → T (elem y s) → T (p y) → y ≡ x) → first_in p d s ≡ x
first_only p d x s m t only =
    let found = first_found p d x s m t in only (first_in p d s) found.0 found.1

-- it cuts the list in two, and all before it fail
pub record FirstPassing (p : ℕ → Bool) (s : List ℕ) (x : ℕ) : Type 0 where
  pub front : List ℕ
  pub back : List ℕ
  pub cut : s ≡ front ++ x ∷ back
  pub passes : T (p x)
  pub fails : (y : ℕ) → T (elem y front) → ¬ T (p y)

pub first_passing : (p : ℕ → Bool) (d : ℕ) (s : List ℕ) → T (any_in p s) →
    FirstPassing p s (first_in p d s)
unfolding any_in first_in elem
first_passing p d [] t = absurd t
first_passing p d (x ∷ s) t =
    ⊎_elim
    (λ (h : T (p x)).
    rw (is_true (p x) h)
    (record { front = []; back = s; cut = refl; passes = h; fails = λ y m k. m }))
    (λ (h : T (not (p x))).
    let n = T_not (p x) h in
    let r = first_passing p d s (rw (is_false (p x) n) at t) in
    rw (is_false (p x) n)
    (record {
      front = x ∷ r.front;
      back = r.back;
      cut = ap (λ (t : List ℕ). x ∷ t) r.cut;
      passes = r.passes;
      fails =
          λ y m k.
          ⊎_elim (λ (e : y ≡ x). n (rw e at k)) (λ l. r.fails y l k) (elem_cases y x r.front m);
    }))
    (decide (p x))

-- no member passes
pub none_passes : (p : ℕ → Bool) (s : List ℕ) → T (not (any_in p s)) → (x : ℕ) → T (elem x s) →
    ¬ T (p x)
unfolding any_in elem
none_passes p [] t x m k = m
none_passes p (y ∷ s) t x m k =
    ⊎_elim
    (λ (e : x ≡ y). T_not (p y || any_in p s) t (or_left (p y) (any_in p s) (rw e at k)))
    (λ (l : T (elem x s)).
    none_passes p s
    (not_T (any_in p s) (λ h. T_not (p y || any_in p s) t (or_right (p y) (any_in p s) h))) x l k)
    (elem_cases x y s m)

pub first_none : (p : ℕ → Bool) (d : ℕ) (s : List ℕ) → ((x : ℕ) → T (elem x s) → ¬ T (p x)) → first_in p d s ≡ d
unfolding first_in
first_none p d [] none = refl
first_none p d (x ∷ s) none =
    rw (is_false (p x) (none x (elem_head x s))) (first_none p d s (λ y h. none y (elem_tail y x s h)))
