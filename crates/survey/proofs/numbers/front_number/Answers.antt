-- `survey::numbers::front_number` meets its contract, by the cases of sign and magnitude. A
-- magnitude is below 10^digit-limit, so it fits, and so does its negation.
use Rattle.std.proofs.Common.{◌≡◌, true, false, ap, sym, ◌∙◌, ℕ, ◌+◌, ◌-◌, ◌^◌, ◌<◌, ℤ, pos, ◌-ℤ◌, length, take, drop, w64, arith}
use Rattle.std.specs.declared.option.Option.TheVariants.{Some}
use Rattle.integers.specs.Ring.{zero_-ℤ}
use Rattle.integers.specs.Range.{Number, natural, literal, sub}
use Rattle.integers.proofs.Range.{back, fits}
use Rattle.model.specs.Text.{digit_limit, digits, has_minus}
use Rattle.survey.proofs.Signs.{reads_value, signed_some, digits_signed, digits_plain, front_malformed, front_positive, front_negative, front_minus_zero}
use Rattle.survey.proofs.numbers.front_number.Goals as goal
use Rattle.survey.proofs.numbers.front_number.Goals.{Then-has_minus, Else-has_minus, In_ok-value, In_ok-value-2}

-- with a minus
signed : (c : Then-has_minus) → has_minus c.args.s.now ≡ true
signed c = sym c.has_minus.ensures ∙ c.if-has_minus.true

behind : (c : Then-has_minus) → let s = c.args.s.now in digits s ≡ take (length s - 1) (drop 1 s)
behind c = digits_signed c.args.s.now (signed c)

pub slice_bounds-front_digits-count : goal.slice_bounds-front_digits-count
slice_bounds-front_digits-count c = signed_some c.args.s.now (sym c.has_minus.ensures ∙ c.if-has_minus.true)

pub slice_bounds-front_digits-start : goal.slice_bounds-front_digits-start
slice_bounds-front_digits-start c = signed_some c.args.s.now (sym c.has_minus.ensures ∙ c.if-has_minus.true)

pub returns-in_err-value : goal.returns-in_err-value
returns-in_err-value c =
    let at = (goal.at.returns-in_err-value c).Then-has_minus in
    c.from_residual.ensures ∙ sym (front_malformed _ _ (behind at) (sym c.in_err-value.ensures))

pub returns-then-value-eq0 : goal.returns-then-value-eq0
returns-then-value-eq0 c =
    let at = (goal.at.returns-then-value-eq0 c).Then-has_minus in
    sym (front_minus_zero _ _ (behind at) _ _ (sym c.in_ok-value.ensures) (signed at) c.if-value-eq0.true)

-- the magnitude as the machine has it after the cast, and its negation
module _ (m : ℕ) (small : m < 10 ^ digit_limit) where
  abbrev magnitude : Number (10 ^ digit_limit) (pos m)
  magnitude = natural m (omega arith)

  abbrev negation : Number (10 ^ digit_limit) (pos 0 -ℤ pos m)
  negation = sub (literal (pos 0)) (back w64 tt magnitude)

pub overflow_cast-result : goal.overflow_cast-result
overflow_cast-result c = fits w64 tt (magnitude _ (reads_value _ _ _ (sym c.in_ok-value.ensures)).small)

pub overflow_sub-result : goal.overflow_sub-result
overflow_sub-result c = fits w64 tt (negation _ (reads_value _ _ _ (sym c.in_ok-value.ensures)).small)

pub overflow_add-result : goal.overflow_add-result
overflow_add-result c = omega (arith, (reads_value _ _ _ (sym c.in_ok-value.ensures)).few)

pub returns-else-value-eq0 : goal.returns-else-value-eq0
returns-else-value-eq0 c =
    let at = (goal.at.returns-else-value-eq0 c).Then-has_minus in
    let m = c.in_ok-value.field-0 in
    let has = sym c.in_ok-value.ensures in
    ap (λ (z : ℤ). Some (record { value = z; end = m.count + 1 }))
    ((back w64 tt (negation _ (reads_value _ _ _ has).small)).is ∙ zero_-ℤ (pos m.value))
    ∙ sym (front_negative _ _ (behind at) _ _ has (signed at) c.if-value-eq0.false)

-- without one
plain : (c : Else-has_minus) → has_minus c.args.s.now ≡ false
plain c = sym c.has_minus.ensures ∙ c.if-has_minus.false

pub returns-in_err-value-2 : goal.returns-in_err-value-2
returns-in_err-value-2 c =
    let at = (goal.at.returns-in_err-value-2 c).Else-has_minus in
    c.from_residual-in_err-value-2.ensures
    ∙ sym (front_malformed _ _ (digits_plain _ (plain at)) (sym c.in_err-value-2.ensures))

pub overflow_cast-result-else-has_minus : goal.overflow_cast-result-else-has_minus
overflow_cast-result-else-has_minus c =
    fits w64 tt (magnitude _ (reads_value _ _ _ (sym c.in_ok-value-2.ensures)).small)

pub returns-in_ok-value-2 : goal.returns-in_ok-value-2
returns-in_ok-value-2 c =
    let at = (goal.at.returns-in_ok-value-2 c).Else-has_minus in
    let m = c.in_ok-value-2.field-0 in
    let has = sym c.in_ok-value-2.ensures in
    ap (λ (z : ℤ). Some (record { value = z; end = m.count }))
    (back w64 tt (magnitude _ (reads_value _ _ _ has).small)).is
    ∙ sym (front_positive _ _ (digits_plain _ (plain at)) _ _ has (plain at))
