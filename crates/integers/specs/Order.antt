-- The order of ℤ, and how `omega` reads it. The order and the tests that the machine's signed
-- comparisons compute are `lib.Signed`'s: `◌≤ℤ◌`, `◌<ℤ◌`, `le_z`, `lt_z`; here is `eq_z` besides.
-- A number z is `up z` less `dn z`, two naturals one of which is 0: so a comparison in ℤ is one in
-- ℕ, and `omega (arith, order)` proves linear facts of ℤ. In this order: the parts; comparisons and
-- tests by the parts; the set `order`; sums by the parts; the laws of the order; tests and the
-- order; cases; examples.
use Rattle.std.specs.Prelude.{◌≡◌, refl, ◌≢◌, ◌⊎◌, ◌↔◌, Bool, true, false, not, cond, ℕ, zero, suc, ◌+◌, ◌-◌, ◌*◌, ◌≤◌, ◌<◌, max, min, T, ltb, eqb, ℤ, pos, negsuc, neg_ℤ, ◌+ℤ◌, ◌-ℤ◌, ◌*ℤ◌, nat_abs, ◌≤ℤ◌, ◌<ℤ◌}
use Rattle.std.proofs.Common.{sym, ap, subst, inl, inr, ⊎_elim, arith, ltb-true, ltb-false, eqb-true, eq-eqb, ne_eqb, ltb→lt, leb→le, lt→ltb, le→leb}
use Rattle.std.proofs.Math.Logic.{⊎_swap}
use Rattle.std.proofs.lemmas.Bool.{eqb-false}
use Rattle.std.proofs.Math.IntN.{sub_ℕ}
use Rattle.std.specs.Int.Signed.{lt_z, le_z}

-- ---- the two parts of a number

abbrev pub up : ℤ → ℕ
up (pos n) = n
up (negsuc n) = 0

abbrev pub dn : ℤ → ℕ
dn (pos n) = 0
dn (negsuc n) = suc n

-- one of the two is 0, and the other is the absolute value
pub nat_abs_splits : (z : ℤ) → (nat_abs z ≡ max (up z) (dn z)) × (min (up z) (dn z) ≡ 0)
nat_abs_splits (pos n) = omega arith
nat_abs_splits (negsuc n) = omega arith

-- a compares with b as `cross a b` with `cross b a`
abbrev pub cross : ℤ → ℤ → ℕ
cross a b = up a + dn b

-- ---- comparisons and tests, by the parts

le_z→ : (a b : ℤ) → T (le_z a b) → cross a b ≤ cross b a
le_z→ (pos a) (pos b) t = omega (arith, leb→le a b t)
le_z→ (pos a) (negsuc b) t = absurd t
le_z→ (negsuc a) (pos b) t = omega arith
le_z→ (negsuc a) (negsuc b) t = omega (arith, leb→le b a t)

→le_z : (a b : ℤ) → cross a b ≤ cross b a → T (le_z a b)
→le_z (pos a) (pos b) h = le→leb a b (omega arith)
→le_z (pos a) (negsuc b) h = omega arith
→le_z (negsuc a) (pos b) h = tt
→le_z (negsuc a) (negsuc b) h = le→leb b a (omega arith)

lt_z→ : (a b : ℤ) → T (lt_z a b) → cross a b < cross b a
lt_z→ (pos a) (pos b) t = omega (arith, ltb→lt a b t)
lt_z→ (pos a) (negsuc b) t = absurd t
lt_z→ (negsuc a) (pos b) t = omega arith
lt_z→ (negsuc a) (negsuc b) t = omega (arith, ltb→lt b a t)

→lt_z : (a b : ℤ) → cross a b < cross b a → T (lt_z a b)
→lt_z (pos a) (pos b) h = lt→ltb a b (omega arith)
→lt_z (pos a) (negsuc b) h = omega arith
→lt_z (negsuc a) (pos b) h = tt
→lt_z (negsuc a) (negsuc b) h = lt→ltb b a (omega arith)

→≡ : (a b : ℤ) → cross a b ≡ cross b a → a ≡ b
→≡ (pos a) (pos b) h = ap pos (omega arith)
→≡ (pos a) (negsuc b) h = absurd (omega arith)
→≡ (negsuc a) (pos b) h = absurd (omega arith)
→≡ (negsuc a) (negsuc b) h = ap negsuc (omega arith)

module _ {a b : ℤ} where
  pub ≤_splits : a ≤ℤ b → cross a b ≤ cross b a
  ≤_splits h = le_z→ a b h.le

  pub splits_≤ : cross a b ≤ cross b a → a ≤ℤ b
  splits_≤ h = record { le = →le_z a b h }

  pub <_splits : a <ℤ b → cross a b < cross b a
  <_splits h = lt_z→ a b h.lt

  pub splits_< : cross a b < cross b a → a <ℤ b
  splits_< h = record { lt = →lt_z a b h }

  pub ≡_splits : a ≡ b → cross a b ≡ cross b a
  ≡_splits h = subst (λ c. cross a c ≡ cross c a) h refl

  pub splits_≡ : cross a b ≡ cross b a → a ≡ b
  splits_≡ = →≡ a b

  pub ¬≤_splits : ¬ (a ≤ℤ b) → cross b a < cross a b
  ¬≤_splits n = let f : ¬ (cross a b ≤ cross b a) = λ h. n (splits_≤ h) in omega arith

  pub ¬<_splits : ¬ (a <ℤ b) → cross b a ≤ cross a b
  ¬<_splits n = let f : ¬ (cross a b < cross b a) = λ h. n (splits_< h) in omega arith

  pub ≢_splits : a ≢ b → cross a b ≢ cross b a
  ≢_splits n h = n (splits_≡ h)

-- whether a and b are equal, computed
abbrev pub eq_z : ℤ → ℤ → Bool
eq_z a b = eqb (cross a b) (cross b a)

true→T : {t : Bool} → t ≡ true → T t
true→T e = subst T (sym e) tt

T→true : (t : Bool) → T t → t ≡ true
T→true true h = refl
T→true false h = absurd h

¬T→false : (t : Bool) → ¬ (T t) → t ≡ false
¬T→false true h = absurd (h tt)
¬T→false false h = refl

module _ (a b : ℤ) where
  pub le_z_true_splits : le_z a b ≡ true → cross a b ≤ cross b a
  le_z_true_splits e = le_z→ a b (true→T e)

  pub le_z_false_splits : le_z a b ≡ false → cross b a < cross a b
  le_z_false_splits e = ¬≤_splits {a = a} {b = b} (λ h. subst T e h.le)

  pub lt_z_true_splits : lt_z a b ≡ true → cross a b < cross b a
  lt_z_true_splits e = lt_z→ a b (true→T e)

  pub lt_z_false_splits : lt_z a b ≡ false → cross b a ≤ cross a b
  lt_z_false_splits e = ¬<_splits {a = a} {b = b} (λ h. subst T e h.lt)

  pub eq_z_true_splits : eq_z a b ≡ true → cross a b ≡ cross b a
  eq_z_true_splits = eqb-true (cross a b) (cross b a)

  pub eq_z_false_splits :
      eq_z a b ≡ false → min (cross a b) (cross b a) < max (cross a b) (cross b a)
  eq_z_false_splits e = let n = eqb-false (cross a b) (cross b a) e in omega arith

  pub splits_le_z_true : cross a b ≤ cross b a → le_z a b ≡ true
  splits_le_z_true h = T→true (le_z a b) (→le_z a b h)

  pub splits_le_z_false : cross b a < cross a b → le_z a b ≡ false
  splits_le_z_false h = ¬T→false (le_z a b) (λ t. let k = le_z→ a b t in omega arith)

  pub splits_lt_z_true : cross a b < cross b a → lt_z a b ≡ true
  splits_lt_z_true h = T→true (lt_z a b) (→lt_z a b h)

  pub splits_lt_z_false : cross b a ≤ cross a b → lt_z a b ≡ false
  splits_lt_z_false h = ¬T→false (lt_z a b) (λ t. let k = lt_z→ a b t in omega arith)

  pub splits_eq_z_true : cross a b ≡ cross b a → eq_z a b ≡ true
  splits_eq_z_true = eq-eqb (cross a b) (cross b a)

  pub splits_eq_z_false :
      min (cross a b) (cross b a) < max (cross a b) (cross b a) → eq_z a b ≡ false
  splits_eq_z_false h = ne_eqb (cross a b) (cross b a) (λ e. omega arith)

-- ---- what `omega` is handed

-- It then reads comparisons and tests, among the hypotheses and as the goal. A sum is an unknown to
-- it, with its law in the list, `omega (arith, order, +ℤ_splits a b)`; so for a difference, a
-- negation, a multiple and `nat_abs`. A product is an unknown with no law. A negation among the
-- hypotheses is listed by hand, `≢_splits h`: no rule takes it. `◌≤ℤ◌` and `◌<ℤ◌` bind tighter than
-- `◌+ℤ◌`: write parentheses.

pub ruleset order = (
  ≤_splits,
  splits_≤,
  <_splits,
  splits_<,
  ≡_splits,
  splits_≡,
  le_z_true_splits,
  le_z_false_splits,
  lt_z_true_splits,
  lt_z_false_splits,
  splits_le_z_true,
  splits_le_z_false,
  splits_lt_z_true,
  splits_lt_z_false,
  eq_z_true_splits,
  eq_z_false_splits,
  splits_eq_z_true,
  splits_eq_z_false,
)

-- ---- sums, differences, negation and products, by the parts

subℕ_splits : (a b : ℕ) → up (sub_ℕ a b) + b ≡ a + dn (sub_ℕ a b)
subℕ_splits a b = go (ltb a b) refl
  where
    chosen : Bool → ℤ
    chosen t = cond t (negsuc (b - suc a)) (pos (a - b))

    go : (t : Bool) → ltb a b ≡ t → up (chosen t) + b ≡ a + dn (chosen t)
    go true e = omega (arith, ltb-true a b e)
    go false e = omega (arith, ltb-false a b e)

pub +ℤ_splits : (a b : ℤ) → up (a +ℤ b) + (dn a + dn b) ≡ (up a + up b) + dn (a +ℤ b)
+ℤ_splits (pos a) (pos b) = omega arith
+ℤ_splits (pos a) (negsuc b) = omega (arith, subℕ_splits a (suc b))
+ℤ_splits (negsuc a) (pos b) = omega (arith, subℕ_splits b (suc a))
+ℤ_splits (negsuc a) (negsuc b) = omega arith

pub negℤ_splits : (a : ℤ) → (up (neg_ℤ a) ≡ dn a) × (dn (neg_ℤ a) ≡ up a)
negℤ_splits (pos zero) = (refl, refl)
negℤ_splits (pos (suc n)) = (refl, refl)
negℤ_splits (negsuc n) = (refl, refl)

pub -ℤ_splits : (a b : ℤ) → up (a -ℤ b) + (dn a + up b) ≡ (up a + dn b) + dn (a -ℤ b)
-ℤ_splits a b = omega (arith, +ℤ_splits a (neg_ℤ b), negℤ_splits b)

-- linear where a is written in digits
pub *ℤ_splits : (a b : ℤ) →
    (up (a *ℤ b) ≡ up a * up b + dn a * dn b) × (dn (a *ℤ b) ≡ up a * dn b + dn a * up b)
*ℤ_splits (pos a) (pos b) = omega arith
*ℤ_splits (pos a) (negsuc b) = omega (arith, negℤ_splits (pos (a * suc b)))
*ℤ_splits (negsuc a) (pos b) = omega (arith, negℤ_splits (pos (suc a * b)))
*ℤ_splits (negsuc a) (negsuc b) = omega arith

-- ---- the laws of the order (`≤ℤ_refl`, `<ℤ_irrefl` and `<ℤ-≤ℤ_trans` are `lib.Signed`'s)

module _ {a b c : ℤ} where
  pub ≤ℤ_trans : a ≤ℤ b → b ≤ℤ c → a ≤ℤ c
  ≤ℤ_trans h k = omega (arith, order)

  pub <ℤ_trans : a <ℤ b → b <ℤ c → a <ℤ c
  <ℤ_trans h k = omega (arith, order)

  pub ≤ℤ_<ℤ_trans : a ≤ℤ b → b <ℤ c → a <ℤ c
  ≤ℤ_<ℤ_trans h k = omega (arith, order)

module _ {a b : ℤ} where
  pub ≤ℤ_antisym : a ≤ℤ b → b ≤ℤ a → a ≡ b
  ≤ℤ_antisym h k = omega (arith, order)

  pub <ℤ_weaken : a <ℤ b → a ≤ℤ b
  <ℤ_weaken h = omega (arith, order)

  pub <ℤ_asym : a <ℤ b → ¬ (b <ℤ a)
  <ℤ_asym h = omega (arith, order)

  pub <ℤ_≢ : a <ℤ b → a ≢ b
  <ℤ_≢ h = omega (arith, order)

  pub ≤ℤ_≢_<ℤ : a ≤ℤ b → a ≢ b → a <ℤ b
  ≤ℤ_≢_<ℤ h n = omega (arith, order, ≢_splits n)

  pub ≡_≤ℤ : a ≡ b → a ≤ℤ b
  ≡_≤ℤ e = omega (arith, order)

  pub negℤ_anti_≤ : a ≤ℤ b → neg_ℤ b ≤ℤ neg_ℤ a
  negℤ_anti_≤ h = omega (arith, order, negℤ_splits a, negℤ_splits b)

  pub negℤ_anti_< : a <ℤ b → neg_ℤ b <ℤ neg_ℤ a
  negℤ_anti_< h = omega (arith, order, negℤ_splits a, negℤ_splits b)

pub +ℤ_mono_≤ : {a b c d : ℤ} → a ≤ℤ b → c ≤ℤ d → (a +ℤ c) ≤ℤ (b +ℤ d)
+ℤ_mono_≤ {a} {b} {c} {d} h k = omega (arith, order, +ℤ_splits a c, +ℤ_splits b d)

pub ≤_difference : (a b : ℤ) → a ≤ℤ b ↔ pos 0 ≤ℤ (b -ℤ a)
≤_difference a b = omega (arith, order, -ℤ_splits b a)

pub <_difference : (a b : ℤ) → a <ℤ b ↔ pos 0 <ℤ (b -ℤ a)
<_difference a b = omega (arith, order, -ℤ_splits b a)

-- ---- a test's value as a fact of the order, and back. After a signed `<` in the code,
-- `c.if1.taken` is such an equation (`Range.antt` reads it from the bits)

module _ (a b : ℤ) where
  pub le_z_true : le_z a b ≡ true → a ≤ℤ b
  le_z_true e = omega (arith, order)

  pub le_z_false : le_z a b ≡ false → b <ℤ a
  le_z_false e = omega (arith, order)

  pub lt_z_true : lt_z a b ≡ true → a <ℤ b
  lt_z_true e = omega (arith, order)

  pub lt_z_false : lt_z a b ≡ false → b ≤ℤ a
  lt_z_false e = omega (arith, order)

  pub eq_z_true : eq_z a b ≡ true → a ≡ b
  eq_z_true e = omega (arith, order)

  pub eq_z_false : eq_z a b ≡ false → a ≢ b
  eq_z_false e = omega (arith, order)

  -- each test is the negation of the other, with its sides swapped
  pub lt_z_not : lt_z a b ≡ not (le_z b a)
  lt_z_not = go (le_z b a) refl
    where
      go : (t : Bool) → le_z b a ≡ t → lt_z a b ≡ not t
      go true e = omega (arith, order)
      go false e = omega (arith, order)

module _ {a b : ℤ} where
  pub le_le_z : a ≤ℤ b → le_z a b ≡ true
  le_le_z h = omega (arith, order)

  pub lt_le_z : b <ℤ a → le_z a b ≡ false
  lt_le_z h = omega (arith, order)

  pub lt_lt_z : a <ℤ b → lt_z a b ≡ true
  lt_lt_z h = omega (arith, order)

  pub le_lt_z : b ≤ℤ a → lt_z a b ≡ false
  le_lt_z h = omega (arith, order)

  pub eq_eq_z : a ≡ b → eq_z a b ≡ true
  eq_eq_z h = omega (arith, order)

  pub ne_eq_z : a ≢ b → eq_z a b ≡ false
  ne_eq_z n = omega (arith, order, ≢_splits n)

-- ---- cases

module _ (a b : ℤ) where
  pub ≤_or_> : (a ≤ℤ b) ⊎ (b <ℤ a)
  ≤_or_> = go (le_z a b) refl
    where
      go : (t : Bool) → le_z a b ≡ t → (a ≤ℤ b) ⊎ (b <ℤ a)
      go true e = inl (le_z_true a b e)
      go false e = inr (le_z_false a b e)

pub <_or_≥ : (a b : ℤ) → (a <ℤ b) ⊎ (b ≤ℤ a)
<_or_≥ a b = ⊎_swap (≤_or_> b a)

pub ≤ℤ_total : (a b : ℤ) → (a ≤ℤ b) ⊎ (b ≤ℤ a)
≤ℤ_total a b = ⊎_elim inl (λ h. inr (<ℤ_weaken h)) (≤_or_> a b)

pub trichotomy : (a b : ℤ) → (a <ℤ b) ⊎ (a ≡ b) ⊎ (b <ℤ a)
trichotomy a b =
    ⊎_elim inl (λ h. inr (⊎_elim (λ k. inl (≤ℤ_antisym k h)) inr (≤_or_> a b))) (<_or_≥ a b)

-- positive, zero or negative
pub signs : (z : ℤ) → (pos 0 <ℤ z) ⊎ (z ≡ pos 0) ⊎ (z <ℤ pos 0)
signs z = ⊎_elim (λ h. inr (inr h)) (⊎_elim (λ e. inr (inl e)) inl) (trichotomy z (pos 0))

-- ---- in use

-- a test runs on closed numbers
closed_test : lt_z (negsuc 999) (pos 3) ≡ true
closed_test = refl

-- products are unknowns
sum_of_products : (x y z w u v : ℤ) →
    x *ℤ y ≡ z *ℤ w +ℤ u *ℤ v → pos 0 <ℤ (z *ℤ w) → pos 0 ≤ℤ (u *ℤ v) → pos 0 <ℤ (x *ℤ y)
sum_of_products x y z w u v e h k = omega (arith, order, +ℤ_splits (z *ℤ w) (u *ℤ v))

-- a multiple, and a test for the goal
multiple : (x y : ℤ) → pos 0 <ℤ x → (pos 3 *ℤ x) ≤ℤ y → lt_z y x ≡ false
multiple x y h k = omega (arith, order, *ℤ_splits (pos 3) x)

-- an absolute value
absolute : (x y : ℤ) → nat_abs x ≤ 10 → pos 0 ≤ℤ y → negsuc 9 ≤ℤ (x +ℤ y)
absolute x y h k = omega (arith, order, nat_abs_splits x, +ℤ_splits x y)
