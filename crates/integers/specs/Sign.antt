-- The signs of products and sums. "Positive" is `pos 0 <ℤ a`, "not negative" is `pos 0 ≤ℤ a`, and
-- so on. In this order: negation; products, named by the signs of the two factors; squares; the
-- second factor, named by the signs of the first and of the product; products compared; sums.
-- For the first factor rewrite by `*ℤ-comm`. A sign law goes into the list of an `omega`:
--     omega (arith, order, pos-pos p q, +ℤ-splits (a *ℤ b) c)
use Rattle.std.specs.Prelude.{◌≡◌, ◌≢◌, ◌⊎◌, ◌*◌, ◌<◌, ℤ, pos, negsuc, neg_ℤ, ◌+ℤ◌, ◌-ℤ◌, ◌*ℤ◌, ◌≤ℤ◌, ◌<ℤ◌}
use Rattle.std.proofs.Common.{sym, ◌∙◌, ap, inl, inr, ⊎_elim, mul-pos, arith}
use Rattle.std.proofs.Math.IntN.{*ℤ_comm, ℤ_discrete}
use Rattle.integers.specs.Ring.{negℤ_*ℤ_negℤ, negℤ_*ℤ_left, negℤ_*ℤ_right}
use Rattle.integers.specs.Ring.{difference_of_products, eq_of_difference, -ℤ_self}
use Rattle.integers.specs.Order.{order, +ℤ_splits, negℤ_splits, ≤_difference, <_difference}
use Rattle.integers.specs.Order.{≤ℤ_antisym, <ℤ_weaken, ≡_≤ℤ, signs, ≤_or_>, <_or_≥, ≤ℤ_total}

-- ---- negation reverses a sign

pub negℤ_pos : {a : ℤ} → a <ℤ pos 0 → pos 0 <ℤ neg_ℤ a
negℤ_pos {a} h = omega (arith, order, negℤ_splits a)

pub negℤ_neg : {a : ℤ} → pos 0 <ℤ a → neg_ℤ a <ℤ pos 0
negℤ_neg {a} h = omega (arith, order, negℤ_splits a)

pub negℤ_nonneg : {a : ℤ} → a ≤ℤ pos 0 → pos 0 ≤ℤ neg_ℤ a
negℤ_nonneg {a} h = omega (arith, order, negℤ_splits a)

pub negℤ_nonpos : {a : ℤ} → pos 0 ≤ℤ a → neg_ℤ a ≤ℤ pos 0
negℤ_nonpos {a} h = omega (arith, order, negℤ_splits a)

-- ---- products

pub pos_pos : {a b : ℤ} → pos 0 <ℤ a → pos 0 <ℤ b → pos 0 <ℤ (a *ℤ b)
pos_pos {a = pos a} {b = pos b} h k =
    let p : 0 < a * b = mul-pos (omega (arith, order)) (omega (arith, order)) in
    omega (arith, order)
pos_pos {a = pos a} {b = negsuc b} h k = absurd k.lt
pos_pos {a = negsuc a} {b = b} h k = absurd h.lt

pub neg_neg : {a b : ℤ} → a <ℤ pos 0 → b <ℤ pos 0 → pos 0 <ℤ (a *ℤ b)
neg_neg {a} {b} h k = rw negℤ_*ℤ_negℤ at (pos_pos (negℤ_pos h) (negℤ_pos k))

pub pos_neg : {a b : ℤ} → pos 0 <ℤ a → b <ℤ pos 0 → (a *ℤ b) <ℤ pos 0
pos_neg {a} {b} h k =
    let p = rw negℤ_*ℤ_right at (pos_pos h (negℤ_pos k)) in
    omega (arith, order, negℤ_splits (a *ℤ b))

pub neg_pos : {a b : ℤ} → a <ℤ pos 0 → pos 0 <ℤ b → (a *ℤ b) <ℤ pos 0
neg_pos {a} {b} h k = rw *ℤ_comm (pos_neg k h)

pub nonneg_nonneg : {a b : ℤ} → pos 0 ≤ℤ a → pos 0 ≤ℤ b → pos 0 ≤ℤ (a *ℤ b)
nonneg_nonneg {a = pos a} {b = pos b} h k = omega (arith, order)
nonneg_nonneg {a = pos a} {b = negsuc b} h k = absurd k.le
nonneg_nonneg {a = negsuc a} {b = b} h k = absurd h.le

pub nonpos_nonpos : {a b : ℤ} → a ≤ℤ pos 0 → b ≤ℤ pos 0 → pos 0 ≤ℤ (a *ℤ b)
nonpos_nonpos {a} {b} h k = rw negℤ_*ℤ_negℤ at (nonneg_nonneg (negℤ_nonneg h) (negℤ_nonneg k))

pub nonneg_nonpos : {a b : ℤ} → pos 0 ≤ℤ a → b ≤ℤ pos 0 → (a *ℤ b) ≤ℤ pos 0
nonneg_nonpos {a} {b} h k =
    let p = rw negℤ_*ℤ_right at (nonneg_nonneg h (negℤ_nonneg k)) in
    omega (arith, order, negℤ_splits (a *ℤ b))

pub nonpos_nonneg : {a b : ℤ} → a ≤ℤ pos 0 → pos 0 ≤ℤ b → (a *ℤ b) ≤ℤ pos 0
nonpos_nonneg {a} {b} h k = rw *ℤ_comm (nonneg_nonpos k h)

-- ---- squares

pub square_nonneg : (a : ℤ) → pos 0 ≤ℤ (a *ℤ a)
square_nonneg a = ⊎_elim (λ h. nonneg_nonneg h h) (λ h. nonpos_nonpos h h) (≤ℤ_total (pos 0) a)

pub square_pos : {a : ℤ} → a ≢ pos 0 → pos 0 <ℤ (a *ℤ a)
square_pos {a} n =
    ⊎_elim (λ h. pos_pos h h) (⊎_elim (λ e. absurd (n e)) (λ h. neg_neg h h)) (signs a)

-- ---- the second factor's sign, from the first factor's and the product's

first_of : {A B : Type 0} → (B → ⊥) → A ⊎ B → A
first_of n (inl a) = a
first_of n (inr b) = absurd (n b)

module _ {a b : ℤ} (h : pos 0 <ℤ a) where
  pub second_pos_pos : pos 0 <ℤ (a *ℤ b) → pos 0 <ℤ b
  second_pos_pos k =
      first_of (λ q. omega (arith, order, nonneg_nonpos (<ℤ_weaken h) q)) (<_or_≥ (pos 0) b)

  pub second_pos_nonneg : pos 0 ≤ℤ (a *ℤ b) → pos 0 ≤ℤ b
  second_pos_nonneg k = first_of (λ q. omega (arith, order, pos_neg h q)) (≤_or_> (pos 0) b)

  pub second_pos_neg : (a *ℤ b) <ℤ pos 0 → b <ℤ pos 0
  second_pos_neg k =
      first_of (λ q. omega (arith, order, nonneg_nonneg (<ℤ_weaken h) q)) (<_or_≥ b (pos 0))

  pub second_pos_nonpos : (a *ℤ b) ≤ℤ pos 0 → b ≤ℤ pos 0
  second_pos_nonpos k = first_of (λ q. omega (arith, order, pos_pos h q)) (≤_or_> b (pos 0))

module _ {a b : ℤ} (h : a <ℤ pos 0) where
  pub second_neg_pos : pos 0 <ℤ (a *ℤ b) → b <ℤ pos 0
  second_neg_pos k = second_pos_neg (negℤ_pos h) (rw negℤ_*ℤ_left (negℤ_neg k))

  pub second_neg_nonneg : pos 0 ≤ℤ (a *ℤ b) → b ≤ℤ pos 0
  second_neg_nonneg k = second_pos_nonpos (negℤ_pos h) (rw negℤ_*ℤ_left (negℤ_nonpos k))

  pub second_neg_neg : (a *ℤ b) <ℤ pos 0 → pos 0 <ℤ b
  second_neg_neg k = second_pos_pos (negℤ_pos h) (rw negℤ_*ℤ_left (negℤ_pos k))

  pub second_neg_nonpos : (a *ℤ b) ≤ℤ pos 0 → pos 0 ≤ℤ b
  second_neg_nonpos k = second_pos_nonneg (negℤ_pos h) (rw negℤ_*ℤ_left (negℤ_nonneg k))

pub second_zero : {a b : ℤ} → a ≢ pos 0 → a *ℤ b ≡ pos 0 → b ≡ pos 0
second_zero {a} {b} n e =
    let low = ≡_≤ℤ (sym e) in
    let high = ≡_≤ℤ e in
    ⊎_elim (λ h. ≤ℤ_antisym (second_pos_nonpos h high) (second_pos_nonneg h low))
    (⊎_elim (λ z. absurd (n z))
    (λ h. ≤ℤ_antisym (second_neg_nonneg h low) (second_neg_nonpos h high)))
    (signs a)

pub zero_product : (a b : ℤ) → a *ℤ b ≡ pos 0 → (a ≡ pos 0) ⊎ (b ≡ pos 0)
zero_product a b e = elim (ℤ_discrete a (pos 0)) [ yes z ↦ inl z | no n ↦ inr (second_zero n e) ]

-- ---- products with one factor in common, compared

module _ {a b c : ℤ} where
  pub *ℤ_mono_≤ : pos 0 ≤ℤ a → b ≤ℤ c → (a *ℤ b) ≤ℤ (a *ℤ c)
  *ℤ_mono_≤ h k =
      (≤_difference (a *ℤ b) (a *ℤ c)).1
      (rw difference_of_products at (nonneg_nonneg h ((≤_difference b c).0 k)))

  pub *ℤ_mono_< : pos 0 <ℤ a → b <ℤ c → (a *ℤ b) <ℤ (a *ℤ c)
  *ℤ_mono_< h k =
      (<_difference (a *ℤ b) (a *ℤ c)).1
      (rw difference_of_products at (pos_pos h ((<_difference b c).0 k)))

  pub *ℤ_cancel_≤ : pos 0 <ℤ a → (a *ℤ b) ≤ℤ (a *ℤ c) → b ≤ℤ c
  *ℤ_cancel_≤ h k =
      (≤_difference b c).1
      (second_pos_nonneg h (rw difference_of_products ((≤_difference (a *ℤ b) (a *ℤ c)).0 k)))

  pub *ℤ_cancel_< : pos 0 <ℤ a → (a *ℤ b) <ℤ (a *ℤ c) → b <ℤ c
  *ℤ_cancel_< h k =
      (<_difference b c).1
      (second_pos_pos h (rw difference_of_products ((<_difference (a *ℤ b) (a *ℤ c)).0 k)))

  pub *ℤ_cancel_≡ : a ≢ pos 0 → a *ℤ b ≡ a *ℤ c → b ≡ c
  *ℤ_cancel_≡ n e =
      let none = difference_of_products a b c ∙ ap (λ x. x -ℤ a *ℤ c) e ∙ -ℤ_self (a *ℤ c) in
      eq_of_difference b c (second_zero n none)

-- ---- sums

pub sum_nonneg : {a b : ℤ} → pos 0 ≤ℤ a → pos 0 ≤ℤ b → pos 0 ≤ℤ (a +ℤ b)
sum_nonneg {a} {b} h k = omega (arith, order, +ℤ_splits a b)

pub sum_pos_left : {a b : ℤ} → pos 0 <ℤ a → pos 0 ≤ℤ b → pos 0 <ℤ (a +ℤ b)
sum_pos_left {a} {b} h k = omega (arith, order, +ℤ_splits a b)

pub sum_pos_right : {a b : ℤ} → pos 0 ≤ℤ a → pos 0 <ℤ b → pos 0 <ℤ (a +ℤ b)
sum_pos_right {a} {b} h k = omega (arith, order, +ℤ_splits a b)

-- ---- in use: y·x = u·v + w·z has x positive, where the other numbers have these signs
positive_from_sum : (x y u v w z : ℤ) →
    y *ℤ x ≡ u *ℤ v +ℤ w *ℤ z → pos 0 <ℤ y → pos 0 ≤ℤ u → pos 0 ≤ℤ v → w <ℤ pos 0 → z <ℤ pos 0 →
    pos 0 <ℤ x
positive_from_sum x y u v w z e hy hu hv hw hz =
    second_pos_pos hy (rw e (sum_pos_right (nonneg_nonneg hu hv) (neg_neg hw hz)))
