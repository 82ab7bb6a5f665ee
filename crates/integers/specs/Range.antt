-- Machine ranges: signed machine arithmetic on a polynomial does not wrap, and computes it over ℤ.
-- A signed local holds bits, so a function's needs speak of what is read back from them, for a
-- parameter x of `to_z w (of_z w x)`. With hx : Bounded 1000 x and hy : Bounded 1000 y,
--     fits w64 tt (mul (read w64 tt hx) (read w64 tt hy))
-- is the need of  x * y  at an `i64`. In this order: absolute values; `Bounded B z`, |z| is at most
-- B; `Number B z`, what the machine computes; `machine`, for `omega` after signed tests; an example.
-- `fits`, `back` and `read` stand in integers/proofs/Range.
use Rattle.std.specs.Prelude.{◌≡◌, refl, ◌≢◌, Bool, true, false, ℕ, zero, suc, ◌+◌, ◌*◌, ◌^◌, ◌≤◌, max, min, T, ltb, leb, eqb, ℤ, pos, negsuc, neg_ℤ, ◌+ℤ◌, ◌-ℤ◌, ◌*ℤ◌, nat_abs, ◌≤ℤ◌}
use Rattle.std.proofs.Common.{sym, ◌∙◌, ap, ap₂, subst, true≢false, add-le-add, mul-le-mul, le_refl, le_trans, lt_of_le_of_lt, arith, eq-eqb, ne_eqb, ltb→lt, leb→le, to_z-of_z}
use Rattle.std.proofs.lemmas.Bool.{false≢true}
use Rattle.std.specs.Int.Signed.{mag, lt_z, le_z, non_neg, nat_abs-le, pos-nat_abs, yes_non_neg}
use Rattle.std.specs.Int.{Width, w64}
use mir.Val.{Fits, SFits, to_z, of_z, bits, hbits}
use Rattle.integers.specs.Order.{up, dn, order, eq_z, eq_z_true, eq_z_false}
use Rattle.integers.specs.Order.{cross, nat_abs_splits, +ℤ_splits, ≡_splits}

-- ---- the absolute value of sums, differences and products

pub nat_abs_negℤ : (a : ℤ) → nat_abs (neg_ℤ a) ≡ nat_abs a
nat_abs_negℤ (pos zero) = refl
nat_abs_negℤ (pos (suc n)) = refl
nat_abs_negℤ (negsuc n) = refl

pub nat_abs_+ℤ : (a b : ℤ) → nat_abs (a +ℤ b) ≤ nat_abs a + nat_abs b
nat_abs_+ℤ a b =
    omega (arith, nat_abs_splits a, nat_abs_splits b, nat_abs_splits (a +ℤ b), +ℤ_splits a b)

pub nat_abs_-ℤ : (a b : ℤ) → nat_abs (a -ℤ b) ≤ nat_abs a + nat_abs b
nat_abs_-ℤ a b = rw nat_abs_negℤ at (nat_abs_+ℤ a (neg_ℤ b))

pub nat_abs_*ℤ : (a b : ℤ) → nat_abs (a *ℤ b) ≡ nat_abs a * nat_abs b
nat_abs_*ℤ (pos a) (pos b) = refl
nat_abs_*ℤ (pos a) (negsuc b) = nat_abs_negℤ (pos (a * suc b))
nat_abs_*ℤ (negsuc a) (pos b) = nat_abs_negℤ (pos (suc a * b))
nat_abs_*ℤ (negsuc a) (negsuc b) = refl

-- ---- |z| is at most B: a contract may cite it, and `omega (arith, machine)` reads and proves it

-- a record, so that z is found from a proof

pub record Bounded (B : ℕ) (z : ℤ) : Type 0 where
  pub bound : nat_abs z ≤ B

pub bounded_self : (z : ℤ) → Bounded (nat_abs z) z
bounded_self z = record { bound = le_refl (nat_abs z) }

pub bounded_more : {A B : ℕ} {z : ℤ} → A ≤ B → Bounded A z → Bounded B z
bounded_more h a = record { bound = le_trans a.bound h }

module _ {A B : ℕ} {x y : ℤ} (h : Bounded A x) (k : Bounded B y) where
  pub +ℤ_bounded : Bounded (A + B) (x +ℤ y)
  +ℤ_bounded = record { bound = le_trans (nat_abs_+ℤ x y) (add-le-add h.bound k.bound) }

  pub -ℤ_bounded : Bounded (A + B) (x -ℤ y)
  -ℤ_bounded = record { bound = le_trans (nat_abs_-ℤ x y) (add-le-add h.bound k.bound) }

  pub *ℤ_bounded : Bounded (A * B) (x *ℤ y)
  *ℤ_bounded = record { bound = rw nat_abs_*ℤ (mul-le-mul h.bound k.bound) }

module _ {B : ℕ} {z : ℤ} where
  pub bounded_splits : Bounded B z → max (up z) (dn z) ≤ B
  bounded_splits h = omega (arith, h.bound, nat_abs_splits z)

  pub splits_bounded : max (up z) (dn z) ≤ B + min (up z) (dn z) → Bounded B z
  splits_bounded h = record { bound = omega (arith, nat_abs_splits z) }

mag_≤ : (z : ℤ) → mag z ≤ nat_abs z
mag_≤ (pos n) = omega arith
mag_≤ (negsuc n) = omega arith

pub bounded_fits : (w : Width) {B : ℕ} {z : ℤ} → T (ltb B (2 ^ hbits w)) → Bounded B z → SFits w z
bounded_fits w {B} {z} t h =
    record { sfits = lt_of_le_of_lt (le_trans (mag_≤ z) h.bound) (ltb→lt B (2 ^ hbits w) t) }

pub fits_bounded : {w : Width} {z : ℤ} → SFits w z → Bounded (2 ^ hbits w) z
fits_bounded {w} {z} f = record { bound = nat_abs-le z f.sfits }

-- ---- a number that the machine has: it is z, and |z| is at most B

-- It starts from `read`, `parameter`, `natural` or `literal`; `add`, `sub` and `mul` compute; `back`
-- reads the result from its bits, also after a cast to another width. `fits w tt a` is the need of
-- the operation, or of the cast, that gives a; `a.is` says what it gives. The range condition is
-- `tt` where B is written in digits, since B < 2 ^ (w - 1) is computed. Mark `abbrev` what stands
-- for a `Number` in a proof: what the machine has is seen through it.

pub record Number (B : ℕ) (z : ℤ) : Type 0 where
  pub has : ℤ
  pub is : has ≡ z
  pub small : Bounded B z

pub has_bounded : {B : ℕ} {z : ℤ} (a : Number B z) → Bounded B a.has
has_bounded {B} a = subst (Bounded B) (sym a.is) a.small

abbrev pub exact : {B : ℕ} {z : ℤ} → Bounded B z → Number B z
exact {B} {z} h = record { has = z; is = refl; small = h }

-- a constant of the code
abbrev pub literal : (k : ℤ) → Number (nat_abs k) k
literal k = exact (bounded_self k)

-- an unsigned number, as the signed one that it is cast to
abbrev pub natural : {B : ℕ} (n : ℕ) → n ≤ B → Number B (pos n)
natural n h = exact (record { bound = h })

-- a parameter of which only the type is known
abbrev pub parameter : {w : Width} {z : ℤ} → SFits w z → Number (2 ^ hbits w) z
parameter {w} {z} f = record { has = to_z w (of_z w z); is = to_z-of_z f; small = fits_bounded f }

-- a larger bound: `loosen C tt a`
abbrev pub loosen : {B : ℕ} {z : ℤ} (C : ℕ) → T (leb B C) → Number B z → Number C z
loosen {B} C t a =
    record { has = a.has; is = a.is; small = bounded_more (leb→le B C t) a.small }

module _ {A B : ℕ} {x y : ℤ} (a : Number A x) (b : Number B y) where
  abbrev pub add : Number (A + B) (x +ℤ y)
  add =
      record {
        has = a.has +ℤ b.has;
        is = ap₂ ◌+ℤ◌ a.is b.is;
        small = +ℤ_bounded a.small b.small;
      }

  abbrev pub sub : Number (A + B) (x -ℤ y)
  sub =
      record {
        has = a.has -ℤ b.has;
        is = ap₂ ◌-ℤ◌ a.is b.is;
        small = -ℤ_bounded a.small b.small;
      }

  abbrev pub mul : Number (A * B) (x *ℤ y)
  mul =
      record {
        has = a.has *ℤ b.has;
        is = ap₂ ◌*ℤ◌ a.is b.is;
        small = *ℤ_bounded a.small b.small;
      }

-- the cast of a number that is not negative to an unsigned type: its need, and what it gives
module _ {B : ℕ} {z : ℤ} (a : Number B z) (h : pos 0 ≤ℤ z) where
  has_nonneg : T (non_neg a.has)
  has_nonneg = yes_non_neg (subst (λ x. pos 0 ≤ℤ x) (sym a.is) h)

  pub unsigned_fits : (w : Width) → T (ltb B (2 ^ bits w)) →
      T (non_neg a.has) × Fits w (nat_abs a.has)
  unsigned_fits w t =
      let small = lt_of_le_of_lt a.small.bound (ltb→lt B (2 ^ bits w) t) in
      (has_nonneg, rw a.is (record { fits = small }))

  pub unsigned_is : pos (nat_abs a.has) ≡ z
  unsigned_is = pos-nat_abs a.has has_nonneg ∙ a.is

-- ---- after signed tests

pub read_splits : {w : Width} {z : ℤ} → SFits w z →
    cross (to_z w (of_z w z)) z ≡ cross z (to_z w (of_z w z))
read_splits f = ≡_splits (to_z-of_z f)

pub ruleset machine =
    (order, bounded_splits, splits_bounded, read_splits, true≢false, false≢true)

-- what `x < y`, `x <= y` and `x == y` compute. `==` compares the bits
module _ {w : Width} {x y : ℤ} (f : SFits w x) (g : SFits w y) where
  pub lt_z_read : lt_z (to_z w (of_z w x)) (to_z w (of_z w y)) ≡ lt_z x y
  lt_z_read = ap₂ lt_z (to_z-of_z f) (to_z-of_z g)

  pub le_z_read : le_z (to_z w (of_z w x)) (to_z w (of_z w y)) ≡ le_z x y
  le_z_read = ap₂ le_z (to_z-of_z f) (to_z-of_z g)

  pub same_bits : of_z w x ≡ of_z w y → x ≡ y
  same_bits e = sym (to_z-of_z f) ∙ ap (to_z w) e ∙ to_z-of_z g

  pub eqb_read : eqb (of_z w x) (of_z w y) ≡ eq_z x y
  eqb_read = go (eq_z x y) refl
    where
      go : (t : Bool) → eq_z x y ≡ t → eqb (of_z w x) (of_z w y) ≡ t
      go true e = eq-eqb (of_z w x) (of_z w y) (ap (of_z w) (eq_z_true x y e))
      go false e = ne_eqb (of_z w x) (of_z w y) (λ b. eq_z_false x y e (same_bits b))

pub other_bits : (w : Width) (x y : ℤ) → (of_z w x ≡ of_z w y → ⊥) → x ≢ y
other_bits w x y n e = n (ap (of_z w) e)

-- ---- in use

-- after  if x < -1000 || x > 1000 { return .. }
in_range : (x : ℤ) → SFits w64 x →
    lt_z (to_z w64 (of_z w64 x)) (negsuc 999) ≡ false →
    lt_z (pos 1000) (to_z w64 (of_z w64 x)) ≡ false → Bounded 1000 x
in_range x f low high = omega (arith, machine)
