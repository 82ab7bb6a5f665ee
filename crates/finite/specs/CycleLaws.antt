-- More laws of chains and cycles of numbers, in the order of this page: relations along a chain and
-- round a cycle, and the place where a test changes; the ring of numbers that a cycle is.
use Rattle.std.specs.Prelude.{◌≡◌, Bool, not, ℕ, zero, suc, ◌≤◌, ◌<◌, eqb, length}
use Rattle.std.proofs.Common.{sym, ap, not-suc-le-zero, le_of_suc-le-suc, T_not, eqb→eq}
use Rattle.std.proofs.Math.Path.{subst}
use Rattle.std.proofs.Math.Logic.{⊎_elim}
use mathlib.Core.List.{List, [], ◌∷◌, ◌++◌, append-nil, map, map-append}
use Rattle.std.proofs.Math.Dec.{T}
use Rattle.finite.specs.Tests.{and_left, decide, is_true, is_false, equal_by}
use Rattle.finite.specs.Lists.{elem, distinct, ring}
use Rattle.finite.specs.ListLaws.{elem_head, elem_tail, elem_cases, elem_one, elem_append}
use Rattle.finite.specs.ListLaws.{elem_append_left, elem_cut, elem_swap}
use Rattle.finite.specs.Cycles.{Chain, Cycle, cycle_rotate}

-- ---- along a chain

module _ (E : ℕ → ℕ → Type 0) where
  -- the front of a chain
  pub chain_front : (s t : List ℕ) → Chain E (s ++ t) → Chain E s
  unfolding Chain
  chain_front [] t c = tt
  chain_front (a ∷ []) t c = tt
  chain_front (a ∷ b ∷ s) t c = (c.0, chain_front (b ∷ s) t c.1)

  -- a chain without its first member
  chain_rest : (a : ℕ) (s : List ℕ) → Chain E (a ∷ s) → Chain E s
  unfolding Chain
  chain_rest a [] c = tt
  chain_rest a (b ∷ s) c = c.1

  -- another relation, which follows from each member but the last to the one after it
  pub chain_change : (F : ℕ → ℕ → Type 0) (x : ℕ) (s : List ℕ) (z : ℕ) →
      ((a b : ℕ) → T (elem a (x ∷ s)) → T (elem b (s ++ z ∷ [])) → E a b → F a b) →
      Chain E (x ∷ s ++ z ∷ []) → Chain F (x ∷ s ++ z ∷ [])
  unfolding Chain
  chain_change F x [] z f c = (f x z (elem_head x []) (elem_head z []) c.0, tt)
  chain_change F x (y ∷ s) z f c = (
    f x y (elem_head x (y ∷ s)) (elem_head y (s ++ z ∷ [])) c.0,
    chain_change F y s z (λ a b i j. f a b (elem_tail a x (y ∷ s) i) (elem_tail b y (s ++ z ∷ []) j)) c.1,
  )

  -- what passes from each member to the one after it passes from the first to all
  pub chain_carry : (Q : ℕ → Type 0) (x : ℕ) (s : List ℕ) →
      ((a b : ℕ) → T (elem a (x ∷ s)) → T (elem b s) → E a b → Q a → Q b) →
      Chain E (x ∷ s) → Q x → (a : ℕ) → T (elem a (x ∷ s)) → Q a
  unfolding Chain elem
  chain_carry Q x [] f c h a m = subst Q (sym (elem_one a x m)) h
  chain_carry Q x (y ∷ s) f c h a m =
      ⊎_elim
      (λ (e : a ≡ x). subst Q (sym e) h)
      (chain_carry Q y s (λ b d i j. f b d (elem_tail b x (y ∷ s) i) (elem_tail d y s j)) c.1
      (f x y (elem_head x (y ∷ s)) (elem_head y s) c.0 h) a)
      (elem_cases a x (y ∷ s) m)

  -- a relation that passes on leads from the first to the last
  pub chain_ends : ((a b c : ℕ) → E a b → E b c → E a c) → (x : ℕ) (s : List ℕ) (z : ℕ) →
      Chain E (x ∷ s ++ z ∷ []) → E x z
  unfolding Chain
  chain_ends pass x [] z c = c.0
  chain_ends pass x (y ∷ s) z c = pass x y z c.0 (chain_ends pass y s z c.1)

  -- one stands after the first, and one before the last
  pub chain_first : (x : ℕ) (s : List ℕ) (z : ℕ) → Chain E (x ∷ s ++ z ∷ []) →
      (y : ℕ) × T (elem y (s ++ z ∷ [])) × E x y
  unfolding Chain
  chain_first x [] z c = (z, elem_head z [], c.0)
  chain_first x (y ∷ s) z c = (y, elem_head y (s ++ z ∷ []), c.0)

  pub chain_last : (x : ℕ) (s : List ℕ) (z : ℕ) → Chain E (x ∷ s ++ z ∷ []) →
      (y : ℕ) × T (elem y (x ∷ s)) × E y z
  unfolding Chain
  chain_last x [] z c = (x, elem_head x [], c.0)
  chain_last x (y ∷ s) z c =
      let r = chain_last y s z c.1 in (r.0, elem_tail r.0 x (y ∷ s) r.1, r.2)

  -- from each member but the last there is a step to a member
  pub chain_next : (x z : ℕ) (s : List ℕ) → Chain E (s ++ z ∷ []) → T (elem x s) →
      (y : ℕ) × T (elem y (s ++ z ∷ [])) × E x y
  unfolding Chain elem
  chain_next x z [] c m = absurd m
  chain_next x z (a ∷ s) c m =
      ⊎_elim
      (λ (e : x ≡ a).
      let r = chain_first a s z c in (r.0, elem_tail r.0 a (s ++ z ∷ []) r.1, rw e r.2))
      (λ (l : T (elem x s)).
      let r = chain_next x z s (chain_rest a (s ++ z ∷ []) c) l in
      (r.0, elem_tail r.0 a (s ++ z ∷ []) r.1, r.2))
      (elem_cases x a s m)

  -- where a test fails at the first and passes later, it passes just after some member where it fails
  pub chain_switch : (p : ℕ → Bool) (x : ℕ) (s : List ℕ) → Chain E (x ∷ s) → ¬ T (p x) →
      (y : ℕ) → T (elem y s) → T (p y) →
      (a : ℕ) × (b : ℕ) × T (elem a (x ∷ s)) × T (elem b s) × E a b × ¬ T (p a) × T (p b)
  unfolding Chain elem
  chain_switch p x [] c n y m t = absurd m
  chain_switch p x (z ∷ s) c n y m t =
      ⊎_elim
      (λ (h : T (p z)). (x, z, elem_head x (z ∷ s), elem_head z s, c.0, n, h))
      (λ (h : T (not (p z))).
      let r = chain_switch p z s c.1 (T_not (p z) h) y
      (⊎_elim (λ (e : y ≡ z). absurd (T_not (p z) h (rw e at t))) (λ k. k) (elem_cases y z s m)) t in
      (r.0, r.1, elem_tail r.0 x (z ∷ s) r.2, elem_tail r.1 z s r.3, r.4, r.5, r.6))
      (decide (p z))

  -- ---- round a cycle

  -- a cycle may begin at any member, and has the same members then
  pub cycle_from : (x : ℕ) (s : List ℕ) → Cycle E s → T (elem x s) →
      (t : List ℕ) × Cycle E (x ∷ t) × ((a : ℕ) → T (elem a s) → T (elem a (x ∷ t)))
      × ((a : ℕ) → T (elem a (x ∷ t)) → T (elem a s))
  cycle_from x s c m =
      let k = elem_cut x s m in (
        k.1 ++ k.0,
        cycle_rotate E k.0 x k.1 (rw k.2 at c),
        λ a i. elem_swap a k.0 (x ∷ k.1) (rw k.2 at i),
        λ a i. rw k.2 (elem_swap a (x ∷ k.1) k.0 i),
      )

  pub cycle_swap : (s t : List ℕ) → Cycle E (s ++ t) → Cycle E (t ++ s)
  cycle_swap s [] c = rw append-nil at c
  cycle_swap s (x ∷ t) c = cycle_rotate E s x t c

  pub cycle_change : (F : ℕ → ℕ → Type 0) (s : List ℕ) →
      ((a b : ℕ) → T (elem a s) → T (elem b s) → E a b → F a b) → Cycle E s → Cycle F s
  unfolding Cycle
  cycle_change F [] f c = tt
  cycle_change F (x ∷ s) f c = chain_change F x s x (λ a b i j. f a b i (elem_swap b s (x ∷ []) j)) c

  -- each member has one after it, and one before it
  pub cycle_after : (x : ℕ) (s : List ℕ) → Cycle E s → T (elem x s) → (y : ℕ) × T (elem y s) × E x y
  unfolding Cycle
  cycle_after x s c m =
      let k = cycle_from x s c m in
      let r = chain_first x k.0 x k.1 in
      (r.0, k.3 r.0 (elem_swap r.0 k.0 (x ∷ []) r.1), r.2)

  pub cycle_before : (x : ℕ) (s : List ℕ) → Cycle E s → T (elem x s) → (y : ℕ) × T (elem y s) × E y x
  unfolding Cycle
  cycle_before x s c m =
      let k = cycle_from x s c m in
      let r = chain_last x k.0 x k.1 in
      (r.0, k.3 r.0 r.1, r.2)

  -- what goes over each step goes all round
  pub cycle_holds : (Q : ℕ → Type 0) → ((x y : ℕ) → E x y → Q x → Q y) →
      (x y : ℕ) (s : List ℕ) → Cycle E s → T (elem x s) → T (elem y s) → Q x → Q y
  unfolding Cycle
  cycle_holds Q step x y s c m n q =
      let k = cycle_from x s c m in
      chain_carry Q x (k.0 ++ x ∷ []) (λ a b i j e. step a b e) k.1 q y
      (elem_append_left y (x ∷ k.0) (x ∷ []) (k.2 y n))

  -- where a test fails at one member and passes at another, it passes just after some member where it fails
  pub cycle_switch : (p : ℕ → Bool) (s : List ℕ) → Cycle E s →
      (x y : ℕ) → T (elem x s) → ¬ T (p x) → T (elem y s) → T (p y) →
      (a : ℕ) × (b : ℕ) × T (elem a s) × T (elem b s) × E a b × ¬ T (p a) × T (p b)
  unfolding Cycle
  cycle_switch p s c x y i n j t =
      let k = cycle_from x s c i in
      let r = chain_switch p x (k.0 ++ x ∷ []) k.1 n y (elem_swap y (x ∷ []) k.0 (k.2 y j)) t in (
        r.0,
        r.1,
        k.3 r.0 (but_last k.0 r.0 r.2),
        k.3 r.1 (elem_swap r.1 k.0 (x ∷ []) r.3),
        r.4,
        r.5,
        r.6,
      )
    where
      -- to add x at the end adds no member
      but_last : (u : List ℕ) (a : ℕ) → T (elem a (x ∷ u ++ x ∷ [])) → T (elem a (x ∷ u))
      but_last u a m =
          ⊎_elim (λ h. h) (λ h. rw (elem_one a x h) (elem_head x u)) (elem_append a (x ∷ u) (x ∷ []) m)

-- ---- the members taken to other things

module _ {A : Type 0} (f : ℕ → A) (E : A → A → Type 0) where
  pub chain_map : (s : List ℕ) → Chain (λ a b. E (f a) (f b)) s → Chain E (map f s)
  unfolding Chain
  chain_map [] c = tt
  chain_map (a ∷ []) c = tt
  chain_map (a ∷ b ∷ s) c = (c.0, chain_map (b ∷ s) c.1)

  pub cycle_map : (s : List ℕ) → Cycle (λ a b. E (f a) (f b)) s → Cycle E (map f s)
  unfolding Cycle
  cycle_map [] c = tt
  cycle_map (a ∷ s) c =
      subst (λ (t : List A). Chain E (f a ∷ t)) (map-append f s (a ∷ [])) (chain_map (a ∷ s ++ a ∷ []) c)

-- ---- the ring of numbers that a cycle is

ring_of_chain : (f : ℕ → ℕ) (x a : ℕ) (s : List ℕ) (k : ℕ) →
    Chain (λ c d. f c ≡ d) (a ∷ s ++ x ∷ []) → ¬ T (elem x s) → length s < k → ring f x k a ≡ a ∷ s
unfolding ring Chain
ring_of_chain f x a s zero c n h = absurd (not-suc-le-zero h)
ring_of_chain f x a [] (suc k) c n h = rw (is_true (eqb (f a) x) (equal_by (f a) x c.0))
ring_of_chain f x a (b ∷ s) (suc k) c n h =
    rw (c.0, is_false (eqb b x) (λ t. n (rw (eqb→eq b x t) (elem_head x s))))
    (ap (λ (t : List ℕ). a ∷ t)
    (ring_of_chain f x b s k c.1 (λ m. n (elem_tail x b s m)) (le_of_suc-le-suc h)))

-- where f leads round a list without repetition, the ring from its first member is that list
pub ring_of_cycle : (f : ℕ → ℕ) (x : ℕ) (s : List ℕ) (k : ℕ) →
    Cycle (λ c d. f c ≡ d) (x ∷ s) → T (distinct (x ∷ s)) → length (x ∷ s) ≤ k → ring f x k x ≡ x ∷ s
unfolding Cycle distinct
ring_of_cycle f x s k c d h =
    ring_of_chain f x x s k c (T_not (elem x s) (and_left (not (elem x s)) (distinct s) d)) h
