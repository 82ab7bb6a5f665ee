-- The laws of membership and of tests over lists, in the order of this page: a member of a list; a
-- test that passes at all members; membership in what is put together; a member that cuts its list
-- in two; the members of a list place by place; the test that two lists are the same; the sum of what
-- is put together. No number of members is compared here: that is Distinct.
use Rattle.std.specs.Prelude.{◌≡◌, ◌⊎◌, Bool, not, ◌&&◌, eqb, length, get_or, replicate}
use Rattle.std.proofs.Math.Path.{refl, sym, ap, subst}
use Rattle.std.proofs.Common.{◌∙◌, inl, inr, ⊎_elim, not-suc-le-zero, le_of_suc-le-suc, add-suc, suc-add, arith, eqb→eq, T_not}
use mathlib.Core.List.{List, [], ◌∷◌, ◌++◌, flat_map}
use Prim.Native.Nat.{ℕ, zero, suc, ◌+◌, ◌<◌}
use Rattle.std.proofs.Math.Nat.{add-zero}
use Rattle.std.proofs.Math.Dec.{T, eqb_refl}
use Rattle.finite.specs.Tests.{and_left, and_right, and_both, or_cases, or_left, or_right}
use Rattle.finite.specs.Tests.{decide, is_true, is_false, and_true, and_assoc}
use Rattle.finite.specs.Lists.{elem, same_by, same_list, all_in, all_places, total, insert, union}

-- ---- a member

pub elem_head : (x : ℕ) (s : List ℕ) → T (elem x (x ∷ s))
unfolding elem
elem_head x s = or_left (eqb x x) (elem x s) (eqb_refl x)

pub elem_tail : (x y : ℕ) (s : List ℕ) → T (elem x s) → T (elem x (y ∷ s))
unfolding elem
elem_tail x y s t = or_right (eqb x y) (elem x s) t

pub elem_cases : (x y : ℕ) (s : List ℕ) → T (elem x (y ∷ s)) → (x ≡ y) ⊎ T (elem x s)
unfolding elem
elem_cases x y s t =
    ⊎_elim (λ (h : T (eqb x y)). inl (eqb→eq x y h)) (λ h. inr h) (or_cases (eqb x y) (elem x s) t)

pub elem_one : (x y : ℕ) → T (elem x (y ∷ [])) → x ≡ y
unfolding elem
elem_one x y t = ⊎_elim (λ (e : x ≡ y). e) (λ (h : ⊥). absurd h) (elem_cases x y [] t)

-- a test that passes at all members passes at each, and the other way round
pub all_elem : (p : ℕ → Bool) (s : List ℕ) → T (all_in p s) → (x : ℕ) → T (elem x s) → T (p x)
unfolding all_in elem
all_elem p [] t x h = absurd h
all_elem p (y ∷ s) t x h =
    ⊎_elim
    (λ (e : x ≡ y). subst (λ (z : ℕ). T (p z)) (sym e) (and_left (p y) (all_in p s) t))
    (λ (m : T (elem x s)). all_elem p s (and_right (p y) (all_in p s) t) x m)
    (elem_cases x y s h)

pub all_of_elem : (p : ℕ → Bool) (s : List ℕ) → ((x : ℕ) → T (elem x s) → T (p x)) → T (all_in p s)
unfolding all_in
all_of_elem p [] f = tt
all_of_elem p (y ∷ s) f =
    and_both (p y) (all_in p s) (f y (elem_head y s))
    (all_of_elem p s (λ x h. f x (elem_tail x y s h)))

-- a test that does not pass at all members fails at one
pub some_fails : (p : ℕ → Bool) (s : List ℕ) → T (not (all_in p s)) →
    (x : ℕ) × T (elem x s) × T (not (p x))
unfolding all_in
some_fails p [] t = absurd t
some_fails p (y ∷ s) t =
    ⊎_elim
    (λ (h : T (p y)).
    let i = some_fails p s (rw (is_true (p y) h) at t) in (i.0, elem_tail i.0 y s i.1, i.2))
    (λ (h : T (not (p y))). (y, elem_head y s, h))
    (decide (p y))

-- ---- membership in what is put together

pub elem_append : (x : ℕ) (s t : List ℕ) → T (elem x (s ++ t)) → T (elem x s) ⊎ T (elem x t)
elem_append x [] t h = inr h
elem_append x (y ∷ s) t h =
    ⊎_elim
    (λ (e : x ≡ y). inl (rw e (elem_head y s)))
    (λ (m : T (elem x (s ++ t))).
    ⊎_elim (λ (l : T (elem x s)). inl (elem_tail x y s l)) (λ r. inr r) (elem_append x s t m))
    (elem_cases x y (s ++ t) h)

pub elem_append_left : (x : ℕ) (s t : List ℕ) → T (elem x s) → T (elem x (s ++ t))
unfolding elem
elem_append_left x [] t h = absurd h
elem_append_left x (y ∷ s) t h =
    ⊎_elim
    (λ (e : x ≡ y). subst (λ (z : ℕ). T (elem z (y ∷ (s ++ t)))) (sym e) (elem_head y (s ++ t)))
    (λ (m : T (elem x s)). elem_tail x y (s ++ t) (elem_append_left x s t m))
    (elem_cases x y s h)

pub elem_append_right : (x : ℕ) (s t : List ℕ) → T (elem x t) → T (elem x (s ++ t))
elem_append_right x [] t h = h
elem_append_right x (y ∷ s) t h = elem_tail x y (s ++ t) (elem_append_right x s t h)

-- what is inserted is there already, or goes to the end
insert_cases : (y : ℕ) (s : List ℕ) → (T (elem y s) × (insert y s ≡ s)) ⊎ (insert y s ≡ s ++ y ∷ [])
unfolding insert
insert_cases y s =
    ⊎_elim
    (λ (t : T (elem y s)). inl (t, rw (is_true (elem y s) t)))
    (λ (t : T (not (elem y s))). inr (rw (is_false (elem y s) (T_not (elem y s) t))))
    (decide (elem y s))

pub elem_insert : (x y : ℕ) (s : List ℕ) → T (elem x (insert y s)) → (x ≡ y) ⊎ T (elem x s)
elem_insert x y s h =
    ⊎_elim
    (λ old. inr (rw old.1 at h))
    (λ (new : insert y s ≡ s ++ y ∷ []).
    ⊎_elim
    (λ (l : T (elem x s)). inr l)
    (λ (r : T (elem x (y ∷ []))). inl (elem_one x y r))
    (elem_append x s (y ∷ []) (rw new at h)))
    (insert_cases y s)

pub elem_inserted : (y : ℕ) (s : List ℕ) → T (elem y (insert y s))
elem_inserted y s =
    ⊎_elim
    (λ old. rw old.1 old.0)
    (λ (new : insert y s ≡ s ++ y ∷ []). rw new (elem_append_right y s (y ∷ []) (elem_head y [])))
    (insert_cases y s)

pub elem_insert_old : (x y : ℕ) (s : List ℕ) → T (elem x s) → T (elem x (insert y s))
elem_insert_old x y s h =
    ⊎_elim
    (λ old. rw old.1 h)
    (λ (new : insert y s ≡ s ++ y ∷ []). rw new (elem_append_left x s (y ∷ []) h))
    (insert_cases y s)

pub elem_union : (x : ℕ) (s t : List ℕ) → T (elem x (union s t)) → T (elem x s) ⊎ T (elem x t)
unfolding union
elem_union x [] t h = inr h
elem_union x (y ∷ s) t h =
    ⊎_elim
    (λ (l : T (elem x s)). inl (elem_tail x y s l))
    (λ (r : T (elem x (insert y t))).
    ⊎_elim
    (λ (e : x ≡ y). inl (subst (λ (z : ℕ). T (elem z (y ∷ s))) (sym e) (elem_head y s)))
    (λ m. inr m)
    (elem_insert x y t r))
    (elem_union x s (insert y t) h)

pub elem_union_right : (x : ℕ) (s t : List ℕ) → T (elem x t) → T (elem x (union s t))
unfolding union
elem_union_right x [] t h = h
elem_union_right x (y ∷ s) t h = elem_union_right x s (insert y t) (elem_insert_old x y t h)

pub elem_union_left : (x : ℕ) (s t : List ℕ) → T (elem x s) → T (elem x (union s t))
unfolding union elem
elem_union_left x [] t h = absurd h
elem_union_left x (y ∷ s) t h =
    ⊎_elim
    (λ (e : x ≡ y).
    subst (λ (z : ℕ). T (elem z (union (y ∷ s) t))) (sym e) (elem_union_right y s (insert y t) (elem_inserted y t)))
    (λ (m : T (elem x s)). elem_union_left x s (insert y t) m)
    (elem_cases x y s h)

pub elem_flat_map : (y : ℕ) (f : ℕ → List ℕ) (s : List ℕ) → T (elem y (flat_map f s)) →
    (x : ℕ) × T (elem x s) × T (elem y (f x))
unfolding flat_map elem
elem_flat_map y f [] h = absurd h
elem_flat_map y f (x ∷ s) h =
    ⊎_elim
    (λ (l : T (elem y (f x))). (x, elem_head x s, l))
    (λ (r : T (elem y (flat_map f s))).
    let i = elem_flat_map y f s r in (i.0, elem_tail i.0 x s i.1, i.2))
    (elem_append y (f x) (flat_map f s) h)

pub elem_flat_map_by : (y x : ℕ) (f : ℕ → List ℕ) (s : List ℕ) → T (elem x s) → T (elem y (f x)) →
    T (elem y (flat_map f s))
unfolding flat_map elem
elem_flat_map_by y x f [] h m = absurd h
elem_flat_map_by y x f (z ∷ s) h m =
    ⊎_elim
    (λ (e : x ≡ z). elem_append_left y (f z) (flat_map f s) (rw e at m))
    (λ (t : T (elem x s)). elem_append_right y (f z) (flat_map f s) (elem_flat_map_by y x f s t m))
    (elem_cases x z s h)

-- ---- a member and its place

-- a member cuts its list in two
pub elem_cut : (x : ℕ) (s : List ℕ) → T (elem x s) → (u : List ℕ) × (v : List ℕ) × (s ≡ u ++ x ∷ v)
unfolding elem
elem_cut x [] m = absurd m
elem_cut x (y ∷ s) m =
    ⊎_elim
    (λ (e : x ≡ y). ([], s, ap (λ (z : ℕ). z ∷ s) (sym e)))
    (λ (t : T (elem x s)).
    let c = elem_cut x s t in (y ∷ c.0, c.1, ap (λ (r : List ℕ). y ∷ r) c.2))
    (elem_cases x y s m)

pub elem_middle : (x : ℕ) (s t : List ℕ) → T (elem x (s ++ x ∷ t))
elem_middle x s t = elem_append_right x s (x ∷ t) (elem_head x t)

pub elem_swap : (x : ℕ) (s t : List ℕ) → T (elem x (s ++ t)) → T (elem x (t ++ s))
elem_swap x s t m = ⊎_elim (elem_append_right x t s) (elem_append_left x t s) (elem_append x s t m)

-- ---- place by place

module _ {ℓ} {A : Type ℓ} where
  -- a test that passes at all members passes at each place, and the other way round
  pub all_in_at : (p : A → Bool) (s : List A) → T (all_in p s) → (k : ℕ) (d : A) → k < length s →
      T (p (get_or s k d))
  unfolding all_in
  all_in_at p [] t k d h = absurd (not-suc-le-zero h)
  all_in_at p (x ∷ s) t zero d h = and_left (p x) (all_in p s) t
  all_in_at p (x ∷ s) t (suc k) d h =
      all_in_at p s (and_right (p x) (all_in p s) t) k d (le_of_suc-le-suc h)

  pub all_in_by : (p : A → Bool) (s : List A) (d : A) →
      ((k : ℕ) → k < length s → T (p (get_or s k d))) → T (all_in p s)
  unfolding all_in
  all_in_by p [] d f = tt
  all_in_by p (x ∷ s) d f =
      and_both (p x) (all_in p s) (f 0 (omega arith))
      (all_in_by p s d (λ k h. f (suc k) (omega arith)))

  -- one member more at the end
  pub all_in_snoc : (p : A → Bool) (s : List A) (x : A) → all_in p (s ++ x ∷ []) ≡ (all_in p s && p x)
  unfolding all_in
  all_in_snoc p [] x = and_true (p x)
  all_in_snoc p (y ∷ s) x = rw (all_in_snoc p s x) (and_assoc (p y) (all_in p s) (p x))

  pub all_places_at : (p : ℕ → A → Bool) (i : ℕ) (s : List A) → T (all_places p i s) →
      (k : ℕ) (d : A) → k < length s → T (p (i + k) (get_or s k d))
  unfolding all_places
  all_places_at p i [] t k d h = absurd (not-suc-le-zero h)
  all_places_at p i (x ∷ s) t zero d h =
      rw add-zero (and_left (p i x) (all_places p (suc i) s) t)
  all_places_at p i (x ∷ s) t (suc k) d h =
      subst (λ (j : ℕ). T (p j (get_or s k d))) (suc-add i k ∙ sym (add-suc i k))
      (all_places_at p (suc i) s (and_right (p i x) (all_places p (suc i) s) t) k d
      (le_of_suc-le-suc h))

  pub all_places_by : (p : ℕ → A → Bool) (i : ℕ) (s : List A) (d : A) →
      ((k : ℕ) → k < length s → T (p (i + k) (get_or s k d))) → T (all_places p i s)
  unfolding all_places
  all_places_by p i [] d f = tt
  all_places_by p i (x ∷ s) d f =
      and_both (p i x) (all_places p (suc i) s) (rw add-zero at (f 0 (omega arith)))
      (all_places_by p (suc i) s d
      (λ k h.
      subst (λ (j : ℕ). T (p j (get_or s k d))) (add-suc i k ∙ sym (suc-add i k))
      (f (suc k) (omega arith))))

  -- within a list the default does not matter
  pub get_d_any : (s : List A) (k : ℕ) (d e : A) → k < length s → get_or s k d ≡ get_or s k e
  get_d_any [] k d e h = absurd (not-suc-le-zero h)
  get_d_any (x ∷ s) zero d e h = refl
  get_d_any (x ∷ s) (suc k) d e h = get_d_any s k d e (le_of_suc-le-suc h)

-- ---- a list of one member, over and over: past its end it stands too where it is the default

pub replicate_at : {A : Type 0} (n : ℕ) (a : A) (k : ℕ) → get_or (replicate n a) k a ≡ a
replicate_at zero a k = refl
replicate_at (suc n) a zero = refl
replicate_at (suc n) a (suc k) = replicate_at n a k

-- ---- two lists: the test that they are the same, and the statement

module _ {A : Type 0} (same : A → A → Bool) where
  pub same_by_eq : ((x y : A) → T (same x y) → x ≡ y) → (s t : List A) → T (same_by same s t) → s ≡ t
  unfolding same_by
  same_by_eq eq [] [] h = refl
  same_by_eq eq [] (y ∷ t) h = absurd h
  same_by_eq eq (x ∷ s) [] h = absurd h
  same_by_eq eq (x ∷ s) (y ∷ t) h =
      rw (eq x y (and_left (same x y) (same_by same s t) h), same_by_eq eq s t (and_right (same x y) (same_by same s t) h))

  pub same_by_refl : ((x : A) → T (same x x)) → (s : List A) → T (same_by same s s)
  unfolding same_by
  same_by_refl own [] = tt
  same_by_refl own (x ∷ s) = and_both (same x x) (same_by same s s) (own x) (same_by_refl own s)

  -- place by place
  pub same_by_at : (s t : List A) (d : A) → T (same_by same s t) → (k : ℕ) → k < length s →
      T (same (get_or s k d) (get_or t k d))
  unfolding same_by
  same_by_at [] t d h k l = absurd (not-suc-le-zero l)
  same_by_at (x ∷ s) [] d h k l = absurd h
  same_by_at (x ∷ s) (y ∷ t) d h zero l = and_left (same x y) (same_by same s t) h
  same_by_at (x ∷ s) (y ∷ t) d h (suc k) l =
      same_by_at s t d (and_right (same x y) (same_by same s t) h) k (le_of_suc-le-suc l)

  pub same_by_by : (s t : List A) (d : A) → length s ≡ length t →
      ((k : ℕ) → k < length s → T (same (get_or s k d) (get_or t k d))) → T (same_by same s t)
  unfolding same_by
  same_by_by [] [] d e f = tt
  same_by_by [] (y ∷ t) d e f = absurd (omega arith)
  same_by_by (x ∷ s) [] d e f = absurd (omega arith)
  same_by_by (x ∷ s) (y ∷ t) d e f =
      and_both (same x y) (same_by same s t) (f 0 (omega arith))
      (same_by_by s t d (omega arith) (λ k l. f (suc k) (omega arith)))

  -- lists of different lengths are not the same
  pub same_by_length : (s t : List A) → T (same_by same s t) → length s ≡ length t
  unfolding same_by
  same_by_length [] [] h = refl
  same_by_length [] (y ∷ t) h = absurd h
  same_by_length (x ∷ s) [] h = absurd h
  same_by_length (x ∷ s) (y ∷ t) h = ap suc (same_by_length s t (and_right (same x y) (same_by same s t) h))

pub same_list_eq : (s t : List ℕ) → T (same_list s t) → s ≡ t
same_list_eq = same_by_eq eqb eqb→eq

pub same_list_refl : (s : List ℕ) → T (same_list s s)
same_list_refl = same_by_refl eqb eqb_refl

-- ---- the sum of what is put together

pub total_append : (s t : List ℕ) → total (s ++ t) ≡ total s + total t
unfolding total
total_append [] t = omega arith
total_append (x ∷ s) t = omega (arith, total_append s t)
