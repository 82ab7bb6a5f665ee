-- The answer of a line as one number, in the order of this page: how large it is; it is read back.
use mathlib.Core.Path.{◌≡◌, refl}
use Prim.Native.Nat.{ℕ, ◌+◌, ◌-◌, ◌*◌, ◌/◌, ◌%◌, ◌≤◌}
use native.Mathlib.Omega.{arith}
use borrow.Author.Tests.{ne_eqb, le-ltb}
use Rattle.std.specs.declared.result.Result.{Result}
use Rattle.std.specs.declared.result.Result.TheVariants.{Ok, Err}
use Rattle.model.specs.declared.Refusal.{Refusal}
use Rattle.model.specs.declared.Arrival.{Arrival}
use Rattle.model.specs.Refusals.{number}
use Rattle.model.specs.Maps.{point_limit}
use Rattle.lines.specs.Packing.{OfLine, full, out_of_range, repeated, bad_line}
use Rattle.lines.specs.Packing.{SmallValues, Packable, first, second, inside, outside, refused}
use Rattle.lines.specs.Packing.{packed, refusal_of, outside_of, unpacked}

refusal_back : {r : Refusal} → OfLine r → unpacked (number r) ≡ Err r
unfolding unpacked refusal_of number
refusal_back full = refl
refusal_back out_of_range = refl
refusal_back repeated = refl
refusal_back bad_line = refl

-- ---- an outside arrival

module _ {l r v : ℕ} (s : SmallValues l r v) where
  abbrev value : ℕ
  value = l + point_limit * (r + point_limit * v)

  left_back : value % point_limit ≡ l
  left_back = omega (arith, s.left_below)

  rest_back : value / point_limit ≡ r + point_limit * v
  rest_back = omega (arith, s.left_below)

  right_back : (r + point_limit * v) % point_limit ≡ r
  right_back = omega (arith, s.right_below)

  visible_back : (r + point_limit * v) / point_limit ≡ v
  visible_back = omega (arith, s.right_below)

  past : (n : ℕ) → 14 ≤ n → unpacked n ≡ Ok (outside_of (n - 14))
  unfolding unpacked
  past n h =
      rw (
        le-ltb n 11 (omega arith),
        ne_eqb n 11 (λ e. omega arith),
        ne_eqb n 12 (λ e. omega arith),
        ne_eqb n 13 (λ e. omega arith),
      )

  outside_back : unpacked (14 + l + point_limit * (r + point_limit * v)) ≡ Ok (Arrival.Outside l r v)
  outside_back =
      let e : 14 + l + point_limit * (r + point_limit * v) - 14 ≡ value = omega arith in
      rw (
        past (14 + l + point_limit * (r + point_limit * v)) (omega arith),
        e,
        rest_back,
        left_back,
        right_back,
        visible_back,
      )

pub small_values : {a : Result Arrival Refusal} {l r v : ℕ} → a ≡ Ok (Arrival.Outside l r v) → Packable a →
    SmallValues l r v
small_values e first = absurd (let z : ◌≡◌ {A = ℕ} 0 1 = cc in omega arith)
small_values e second = absurd (let z : ◌≡◌ {A = ℕ} 0 1 = cc in omega arith)
small_values e inside = absurd (let z : ◌≡◌ {A = ℕ} 0 1 = cc in omega arith)
small_values {l = l} {r} {v} e (outside {l = i} {r = j} {v = k} s) =
    let el : i ≡ l = cc in
    let er : j ≡ r = cc in
    let ev : k ≡ v = cc in
    record {
      left_below = omega (arith, s.left_below);
      right_below = omega (arith, s.right_below);
      visible_most = omega (arith, s.visible_most);
    }
small_values e (refused r) = absurd (let z : ◌≡◌ {A = ℕ} 0 1 = cc in omega arith)

pub unpacked_packed : {a : Result Arrival Refusal} → Packable a → unpacked (packed a) ≡ a
unfolding packed unpacked
unpacked_packed first = refl
unpacked_packed second = refl
unpacked_packed inside = refl
unpacked_packed (outside s) = outside_back s
unpacked_packed (refused r) = refusal_back r
