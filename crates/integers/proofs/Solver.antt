-- A solver for polynomial identities over ℤ, by reflection: the two sides are written as
-- expressions, and that their difference is zero is computed. Soundness is proved once.
--     identity 2 (λ a b. (a ⊕ b) ⊗ (a ⊖ b) ≐ a ⊗ a ⊖ b ⊗ b) tt
--         : (a b : ℤ) → (a +ℤ b) *ℤ (a -ℤ b) ≡ a *ℤ a -ℤ b *ℤ b
-- In this order: soundness; `solve` and `identity`; examples.
use Rattle.std.specs.Prelude.{◌≡◌, refl, List, [], ◌∷◌, ℕ, zero, suc, T, ℤ, pos, negsuc, neg_ℤ, ◌+ℤ◌, ◌-ℤ◌, ◌*ℤ◌}
use Rattle.std.proofs.Common.{sym, ◌∙◌, ap, ap₂}
use Rattle.std.proofs.Math.IntN.{+ℤ_idl, +ℤ_idr, +ℤ_assoc, +ℤ_comm, zero-*ℤ, *ℤ-zero}
use Rattle.std.proofs.Math.Facts.{and_yes}
use Rattle.integers.specs.Ring.{*ℤ_distrib_left, *ℤ_distrib_right, *ℤ_assoc, *ℤ_left_comm}
use Rattle.integers.specs.Ring.{+ℤ_interchange, *ℤ_1, 1_*ℤ, negℤ_*ℤ_left, eq_of_difference}
use Rattle.integers.specs.Solver.{Expr, var, con, ◌⊕◌, ◌⊖◌, ◌⊗◌, ⊝, at, eval, Poly, const, horner, later, value}
use Rattle.integers.specs.Solver.{alone, join, shift, plus, scaled, scale, under, times, variable, norm}
use Rattle.integers.specs.Solver.{is_zero, vanishes, equal}
use Rattle.integers.specs.Solver.{Equation, ◌≐◌, Checked, Holds, Over, named, ForAll}

-- ---- soundness: each operation computes the value that it is named for

alone_value : (p : Poly) (ρ : ℕ → ℤ) → value (alone p) ρ ≡ value p (later ρ)
alone_value (const k) ρ = refl
alone_value (horner p q) ρ = simp (*ℤ-zero, +ℤ_idr)

join_value : (p q : Poly) (ρ : ℕ → ℤ) → value (join p q) ρ ≡ value p (later ρ) +ℤ ρ 0 *ℤ value q ρ
join_value p (const (pos zero)) ρ = alone_value p ρ ∙ simp (*ℤ-zero, +ℤ_idr)
join_value p (const (pos (suc n))) ρ = refl
join_value p (const (negsuc n)) ρ = refl
join_value p (horner q r) ρ = refl

shift_value : (k : ℤ) (p : Poly) (ρ : ℕ → ℤ) → value (shift k p) ρ ≡ k +ℤ value p ρ
shift_value k (const c) ρ = refl
shift_value k (horner p q) ρ =
    ap (λ x. x +ℤ ρ 0 *ℤ value q ρ) (shift_value k p (later ρ))
    ∙ +ℤ_assoc k (value p (later ρ)) (ρ 0 *ℤ value q ρ)

plus_value : (p r : Poly) (ρ : ℕ → ℤ) → value (plus p r) ρ ≡ value p ρ +ℤ value r ρ
plus_value (const k) r ρ = shift_value k r ρ
plus_value (horner p q) (const k) ρ =
    shift_value k (horner p q) ρ ∙ +ℤ_comm k (value (horner p q) ρ)
plus_value (horner p q) (horner p' q') ρ =
    join_value (plus p p') (plus q q') ρ
    ∙ ap₂ (λ x y. x +ℤ ρ 0 *ℤ y) (plus_value p p' (later ρ)) (plus_value q q' ρ)
    ∙ simp *ℤ_distrib_left
    (+ℤ_interchange (value p (later ρ)) (value p' (later ρ)) (ρ 0 *ℤ value q ρ) (ρ 0 *ℤ value q' ρ))

scaled_value : (k : ℤ) (p : Poly) (ρ : ℕ → ℤ) → value (scaled k p) ρ ≡ k *ℤ value p ρ
scaled_value k (const c) ρ = refl
scaled_value k (horner p q) ρ =
    ap₂ (λ x y. x +ℤ ρ 0 *ℤ y) (scaled_value k p (later ρ)) (scaled_value k q ρ)
    ∙ simp (*ℤ_distrib_left, *ℤ_left_comm)

scale_value : (k : ℤ) (p : Poly) (ρ : ℕ → ℤ) → value (scale k p) ρ ≡ k *ℤ value p ρ
scale_value (pos zero) p ρ = sym (zero-*ℤ (value p ρ))
scale_value (pos (suc n)) p ρ = scaled_value (pos (suc n)) p ρ
scale_value (negsuc n) p ρ = scaled_value (negsuc n) p ρ

minus_value : (p : Poly) (ρ : ℕ → ℤ) → value (scale (negsuc 0) p) ρ ≡ neg_ℤ (value p ρ)
minus_value p ρ =
    scale_value (negsuc 0) p ρ ∙ negℤ_*ℤ_left (pos 1) (value p ρ) ∙ ap neg_ℤ (1_*ℤ (value p ρ))

module _ (f : Poly → Poly) (v : ℤ) (ρ : ℕ → ℤ)
    (h : (s : Poly) → value (f s) (later ρ) ≡ v *ℤ value s (later ρ)) where
  under_value : (r : Poly) → value (under f r) ρ ≡ v *ℤ value r ρ
  under_value (const k) = alone_value (f (const k)) ρ ∙ h (const k)
  under_value (horner p q) =
      join_value (f p) (under f q) ρ
      ∙ ap₂ (λ x y. x +ℤ ρ 0 *ℤ y) (h p) (under_value q)
      ∙ simp (*ℤ_distrib_left, *ℤ_left_comm)

times_value : (p r : Poly) (ρ : ℕ → ℤ) → value (times p r) ρ ≡ value p ρ *ℤ value r ρ
times_value (const k) r ρ = scale_value k r ρ
times_value (horner p q) r ρ =
    plus_value (under (times p) r) (join (const (pos 0)) (times q r)) ρ
    ∙ ap₂ ◌+ℤ◌
    (under_value (times p) (value p (later ρ)) ρ (λ s. times_value p s (later ρ)) r)
    (join_value (const (pos 0)) (times q r) ρ ∙ ap (λ y. pos 0 +ℤ ρ 0 *ℤ y) (times_value q r ρ))
    ∙ simp (+ℤ_idl, *ℤ_distrib_right, *ℤ_assoc)

variable_value : (i : ℕ) (ρ : ℕ → ℤ) → value (variable i) ρ ≡ ρ i
variable_value zero ρ = simp (+ℤ_idl, *ℤ_1)
variable_value (suc i) ρ = simp (*ℤ-zero, +ℤ_idr) (variable_value i (later ρ))

norm_value : (e : Expr) (ρ : ℕ → ℤ) → value (norm e) ρ ≡ eval e ρ
norm_value (var i) ρ = variable_value i ρ
norm_value (con k) ρ = refl
norm_value (e ⊕ f) ρ = plus_value (norm e) (norm f) ρ ∙ ap₂ ◌+ℤ◌ (norm_value e ρ) (norm_value f ρ)
norm_value (e ⊖ f) ρ =
    plus_value (norm e) (scale (negsuc 0) (norm f)) ρ
    ∙ ap₂ ◌+ℤ◌ (norm_value e ρ) (minus_value (norm f) ρ ∙ ap neg_ℤ (norm_value f ρ))
norm_value (e ⊗ f) ρ = times_value (norm e) (norm f) ρ ∙ ap₂ ◌*ℤ◌ (norm_value e ρ) (norm_value f ρ)
norm_value (⊝ e) ρ = minus_value (norm e) ρ ∙ ap neg_ℤ (norm_value e ρ)

is_zero_value : (k : ℤ) → T (is_zero k) → k ≡ pos 0
is_zero_value (pos zero) t = refl
is_zero_value (pos (suc n)) t = absurd t
is_zero_value (negsuc n) t = absurd t

vanishes_value : (p : Poly) (ρ : ℕ → ℤ) → T (vanishes p) → value p ρ ≡ pos 0
vanishes_value (const k) ρ t = is_zero_value k t
vanishes_value (horner p q) ρ t =
    let both = and_yes (vanishes p) (vanishes q) t in
    ap₂ (λ x y. x +ℤ ρ 0 *ℤ y) (vanishes_value p (later ρ) both.0) (vanishes_value q ρ both.1)
    ∙ simp (*ℤ-zero, +ℤ_idl)

-- ---- the solver

-- variable i is number i of the list
pub solve : (xs : List ℤ) (e f : Expr) → T (equal e f) → eval e (at xs) ≡ eval f (at xs)
solve xs e f t =
    eq_of_difference (eval e (at xs)) (eval f (at xs))
    (sym (norm_value (e ⊖ f) (at xs)) ∙ vanishes_value (norm (e ⊖ f)) (at xs) t)

-- The same with names for the variables: from an equation over n expressions, the law of n numbers.
-- The `tt` is refused where the equation is no identity. A constant k is `con k`. A polynomial with
-- a name gets a twin over `Expr` beside it, and where both are shut the proof says `unfolding` with
-- both. The variables stand for any numbers: `identity 2 (..) tt x y` is the law at x and y.
for_all : (n : ℕ) (P : List ℤ → Type 0) → ((xs : List ℤ) → P xs) → ForAll n P
for_all zero P h = h []
for_all (suc n) P h = λ x. for_all n (λ xs. P (x ∷ xs)) (λ xs. h (x ∷ xs))

holds : (q : Equation) → T (Checked q) → (xs : List ℤ) → Holds q xs
holds (e ≐ f) t xs = solve xs e f t

pub identity : (n : ℕ) (q : Over n) → T (Checked (named n 0 q)) → ForAll n (Holds (named n 0 q))
identity n q t = for_all n (Holds (named n 0 q)) (holds (named n 0 q) t)

-- ---- in use

square_of_sum : (a b : ℤ) → (a +ℤ b) *ℤ (a +ℤ b) ≡ a *ℤ a +ℤ pos 2 *ℤ (a *ℤ b) +ℤ b *ℤ b
square_of_sum = identity 2 (λ a b. (a ⊕ b) ⊗ (a ⊕ b) ≐ a ⊗ a ⊕ con (pos 2) ⊗ (a ⊗ b) ⊕ b ⊗ b) tt

by_number : (a b : ℤ) → (a -ℤ b) *ℤ (a -ℤ b) ≡ (b -ℤ a) *ℤ (b -ℤ a)
by_number a b =
    let a' = var 0 in
    let b' = var 1 in
    solve (a ∷ b ∷ []) ((a' ⊖ b') ⊗ (a' ⊖ b')) ((b' ⊖ a') ⊗ (b' ⊖ a')) tt
