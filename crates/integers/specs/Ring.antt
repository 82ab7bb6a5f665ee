-- The ring laws of ℤ that `lib.IntN` lacks, in this order: induction by one step up and one step
-- down; sums regrouped; the product distributes, is associative and has the unit 1, and negation
-- moves through it; differences; cancelling.
-- `lib.IntN` has the group laws of the sum, and of the product `*ℤ-comm`, `zero-*ℤ`, `*ℤ-zero`.
-- A difference is a sum, a -ℤ b = a +ℤ neg_ℤ b, by definition. For more than one law's step use the
-- solver, `Solver.antt`.
use Rattle.std.specs.Prelude.{◌≡◌, refl, zero, suc, ℤ, pos, negsuc, neg_ℤ, ◌+ℤ◌, ◌-ℤ◌, ◌*ℤ◌}
use Rattle.std.proofs.Common.{sym, ◌∙◌, ap}
use Rattle.std.proofs.Math.IntN.{suc_ℤ, pred_ℤ, one, neg_ℤ-neg_ℤ, neg_ℤ-+ℤ, +ℤ_idl, +ℤ_idr, +ℤ_assoc, +ℤ_comm, +ℤ_invr, +ℤ_invl, suc_ℤ-+ℤ, pred_ℤ-+ℤ, zero-*ℤ, *ℤ-one, *ℤ_comm, suc_ℤ-*ℤ, pred_ℤ-*ℤ, +ℤ-neg_ℤ_cancel}

-- what holds of 0, and passes to the next number and to the one before, holds of every number
pub by_steps {ℓ} :
    (P : ℤ → Type ℓ) → P (pos 0) → ((a : ℤ) → P a → P (suc_ℤ a)) →
    ((a : ℤ) → P a → P (pred_ℤ a)) → (a : ℤ) → P a
by_steps P z s p (pos zero) = z
by_steps P z s p (pos (suc n)) = s (pos n) (by_steps P z s p (pos n))
by_steps P z s p (negsuc zero) = p (pos 0) z
by_steps P z s p (negsuc (suc n)) = p (negsuc n) (by_steps P z s p (negsuc n))

-- ---- sums regrouped

pub +ℤ_left_comm : (a b c : ℤ) → a +ℤ (b +ℤ c) ≡ b +ℤ (a +ℤ c)
+ℤ_left_comm a b c = sym (+ℤ_assoc a b c) ∙ ap (λ x. x +ℤ c) (+ℤ_comm a b) ∙ +ℤ_assoc b a c

pub +ℤ_right_comm : (a b c : ℤ) → (a +ℤ b) +ℤ c ≡ (a +ℤ c) +ℤ b
+ℤ_right_comm a b c = +ℤ_assoc a b c ∙ ap (λ x. a +ℤ x) (+ℤ_comm b c) ∙ sym (+ℤ_assoc a c b)

pub +ℤ_interchange : (a b c d : ℤ) → (a +ℤ b) +ℤ (c +ℤ d) ≡ (a +ℤ c) +ℤ (b +ℤ d)
+ℤ_interchange a b c d = simp (+ℤ_assoc, +ℤ_left_comm)

-- ---- the product distributes, is associative, and has the unit 1

pub *ℤ_distrib_right : (a b c : ℤ) → (a +ℤ b) *ℤ c ≡ a *ℤ c +ℤ b *ℤ c
*ℤ_distrib_right a b c = by_steps (λ a. (a +ℤ b) *ℤ c ≡ a *ℤ c +ℤ b *ℤ c) none up down a
  where
    none : (pos 0 +ℤ b) *ℤ c ≡ pos 0 *ℤ c +ℤ b *ℤ c
    none = ap (λ x. x *ℤ c) (+ℤ_idl b) ∙ sym (ap (λ x. x +ℤ b *ℤ c) (zero-*ℤ c) ∙ +ℤ_idl (b *ℤ c))

    up : (a : ℤ) → (a +ℤ b) *ℤ c ≡ a *ℤ c +ℤ b *ℤ c → (suc_ℤ a +ℤ b) *ℤ c ≡ suc_ℤ a *ℤ c +ℤ b *ℤ c
    up a h =
        ap (λ x. x *ℤ c) (suc_ℤ-+ℤ a b) ∙ suc_ℤ-*ℤ (a +ℤ b) c ∙ ap (λ x. x +ℤ c) h
        ∙ +ℤ_right_comm (a *ℤ c) (b *ℤ c) c ∙ ap (λ x. x +ℤ b *ℤ c) (sym (suc_ℤ-*ℤ a c))

    down : (a : ℤ) → (a +ℤ b) *ℤ c ≡ a *ℤ c +ℤ b *ℤ c → (pred_ℤ a +ℤ b) *ℤ c ≡ pred_ℤ a *ℤ c +ℤ b *ℤ c
    down a h =
        ap (λ x. x *ℤ c) (pred_ℤ-+ℤ a b) ∙ pred_ℤ-*ℤ (a +ℤ b) c ∙ ap (λ x. x -ℤ c) h
        ∙ +ℤ_right_comm (a *ℤ c) (b *ℤ c) (neg_ℤ c) ∙ ap (λ x. x +ℤ b *ℤ c) (sym (pred_ℤ-*ℤ a c))

pub *ℤ_distrib_left : (a b c : ℤ) → a *ℤ (b +ℤ c) ≡ a *ℤ b +ℤ a *ℤ c
*ℤ_distrib_left a b c = simp (*ℤ_comm a) (*ℤ_distrib_right b c a)

-- x is the negative of whatever it cancels
pub negℤ_unique : (x y : ℤ) → x +ℤ y ≡ pos 0 → x ≡ neg_ℤ y
negℤ_unique x y h = sym (+ℤ-neg_ℤ_cancel x y) ∙ ap (λ z. z -ℤ y) h ∙ +ℤ_idl (neg_ℤ y)

pub negℤ_*ℤ_left : (a b : ℤ) → neg_ℤ a *ℤ b ≡ neg_ℤ (a *ℤ b)
negℤ_*ℤ_left a b =
    negℤ_unique (neg_ℤ a *ℤ b) (a *ℤ b)
    (sym (*ℤ_distrib_right (neg_ℤ a) a b) ∙ ap (λ x. x *ℤ b) (+ℤ_invl a) ∙ zero-*ℤ b)

pub negℤ_*ℤ_right : (a b : ℤ) → a *ℤ neg_ℤ b ≡ neg_ℤ (a *ℤ b)
negℤ_*ℤ_right a b = simp (*ℤ_comm a) (negℤ_*ℤ_left b a)

pub negℤ_*ℤ_negℤ : (a b : ℤ) → neg_ℤ a *ℤ neg_ℤ b ≡ a *ℤ b
negℤ_*ℤ_negℤ a b = simp (negℤ_*ℤ_left, negℤ_*ℤ_right, neg_ℤ-neg_ℤ)

pub *ℤ_assoc : (a b c : ℤ) → (a *ℤ b) *ℤ c ≡ a *ℤ (b *ℤ c)
*ℤ_assoc a b c = by_steps (λ a. (a *ℤ b) *ℤ c ≡ a *ℤ (b *ℤ c)) none up down a
  where
    none : (pos 0 *ℤ b) *ℤ c ≡ pos 0 *ℤ (b *ℤ c)
    none = simp zero-*ℤ

    up : (a : ℤ) → (a *ℤ b) *ℤ c ≡ a *ℤ (b *ℤ c) → (suc_ℤ a *ℤ b) *ℤ c ≡ suc_ℤ a *ℤ (b *ℤ c)
    up a h = simp (suc_ℤ-*ℤ, *ℤ_distrib_right, h)

    down : (a : ℤ) → (a *ℤ b) *ℤ c ≡ a *ℤ (b *ℤ c) → (pred_ℤ a *ℤ b) *ℤ c ≡ pred_ℤ a *ℤ (b *ℤ c)
    down a h = simp (pred_ℤ-*ℤ, *ℤ_distrib_right, negℤ_*ℤ_left, h)

pub *ℤ_left_comm : (a b c : ℤ) → a *ℤ (b *ℤ c) ≡ b *ℤ (a *ℤ c)
*ℤ_left_comm a b c = sym (*ℤ_assoc a b c) ∙ ap (λ x. x *ℤ c) (*ℤ_comm a b) ∙ *ℤ_assoc b a c

pub *ℤ_1 : (a : ℤ) → a *ℤ pos 1 ≡ a
unfolding one
*ℤ_1 a = *ℤ-one a

pub 1_*ℤ : (a : ℤ) → pos 1 *ℤ a ≡ a
1_*ℤ a = *ℤ_comm (pos 1) a ∙ *ℤ_1 a

-- ---- differences

pub difference_of_products : (a b c : ℤ) → a *ℤ (b -ℤ c) ≡ a *ℤ b -ℤ a *ℤ c
difference_of_products a b c = simp (*ℤ_distrib_left, negℤ_*ℤ_right)

pub -ℤ_is : (a b : ℤ) → a -ℤ b ≡ a +ℤ neg_ℤ b
-ℤ_is a b = refl

pub -ℤ_self : (a : ℤ) → a -ℤ a ≡ pos 0
-ℤ_self = +ℤ_invr

pub -ℤ_zero : (a : ℤ) → a -ℤ pos 0 ≡ a
-ℤ_zero = +ℤ_idr

pub zero_-ℤ : (a : ℤ) → pos 0 -ℤ a ≡ neg_ℤ a
zero_-ℤ a = +ℤ_idl (neg_ℤ a)

pub negℤ_-ℤ : (a b : ℤ) → neg_ℤ (a -ℤ b) ≡ b -ℤ a
negℤ_-ℤ a b = simp (neg_ℤ-+ℤ, neg_ℤ-neg_ℤ) (+ℤ_comm (neg_ℤ a) b)

pub eq_of_difference : (a b : ℤ) → a -ℤ b ≡ pos 0 → a ≡ b
eq_of_difference a b h = negℤ_unique a (neg_ℤ b) h ∙ neg_ℤ-neg_ℤ b

-- ---- cancelling

pub +ℤ_cancel_right : (a b c : ℤ) → a +ℤ c ≡ b +ℤ c → a ≡ b
+ℤ_cancel_right a b c h = sym (+ℤ-neg_ℤ_cancel a c) ∙ ap (λ x. x -ℤ c) h ∙ +ℤ-neg_ℤ_cancel b c

pub +ℤ_cancel_left : (a b c : ℤ) → c +ℤ a ≡ c +ℤ b → a ≡ b
+ℤ_cancel_left a b c h = +ℤ_cancel_right a b c (+ℤ_comm a c ∙ h ∙ +ℤ_comm c b)

pub negℤ_cancel : (a b : ℤ) → neg_ℤ a ≡ neg_ℤ b → a ≡ b
negℤ_cancel a b h = sym (neg_ℤ-neg_ℤ a) ∙ ap neg_ℤ h ∙ neg_ℤ-neg_ℤ b

-- ---- in use: a short step is one law or one `simp`
square_of_difference : (a b : ℤ) → (a -ℤ b) *ℤ (a -ℤ b) ≡ (b -ℤ a) *ℤ (b -ℤ a)
square_of_difference a b = simp (← negℤ_-ℤ b a, negℤ_*ℤ_negℤ)
