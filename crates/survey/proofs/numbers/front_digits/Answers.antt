-- `survey::numbers::front_digits` meets its contract: digits are added up until none is left, or there is one
-- too many.
use Rattle.std.proofs.Common.{◌≡◌, sym, ap, ◌∙◌, arith, ℕ, ◌≤◌, true, List, [], get_or, drop}
use Rattle.finite.specs.Tests.{of_true}
use Rattle.model.specs.Text.{digit_limit, is_digit, leading_digits}
use Rattle.survey.proofs.Digits.{Valued, digit_small, valued_more, valued_end, valued_stop, magnitude_digits, magnitude_none, read_empty, read_value, read_zero}
use Rattle.survey.proofs.numbers.front_digits.Goals as goal
use Rattle.survey.proofs.numbers.front_digits.Goals.{Else-not-is_digit, Left-loop-b, else-loop-b-test, then-loop-b-test+then-count-gt-DIGIT_LIMIT, then-count-gt-DIGIT_LIMIT-via-then-count-gt-DIGIT_LIMIT, then-count-gt-DIGIT_LIMIT-via-else-count-gt-DIGIT_LIMIT+then-not-is_digit, then-count-eq0-via-then-count-eq0, then-count-eq0-via-else-count-eq0+then-count-gt-DIGIT_LIMIT-2}

-- a digit was found at place `b-index`
found : (c : Else-not-is_digit) → is_digit (get_or c.args.s.now c.loop-b.b-index 0) ≡ true
found c = sym c.is_digit.ensures ∙ c.if-not-is_digit.false

pub overflow_sub-b : goal.overflow_sub-b
overflow_sub-b c =
    omega (arith, digit_small _ (of_true _ (found (goal.at.overflow_sub-b c).Else-not-is_digit)))

pub loop-b-preserved : goal.loop-b-preserved
loop-b-preserved c =
    let l = c.loop-b in
    let digit = found (goal.at.loop-b-preserved c).Else-not-is_digit in
    record {
      valued = rw c.from.ensures (valued_more l.invariant.valued c.loop-b-test.true digit);
      counted = omega (arith, l.invariant.counted);
      few = omega (arith, c.if-count-gt-DIGIT_LIMIT.false);
    }

-- where the loop is left, `count` digits are added up
there : {s : List ℕ} {v i j : ℕ} → Valued s v i → j ≡ i → Valued s v j
there w e = rw e w

module _ (c : Left-loop-b) where
  added : Valued c.args.s.now c.loop-b.value c.loop-b.count
  added = there c.loop-b.invariant.valued c.loop-b.invariant.counted

  -- and where they are not too many, no digit stands behind them
  no_more : c.loop-b.count ≤ digit_limit → leading_digits (drop c.loop-b.count c.args.s.now) ≡ []
  no_more few =
      let w = c.loop-b.invariant in
      ap (λ (i : ℕ). leading_digits (drop i c.args.s.now)) w.counted
      ∙ elim c.loop-b-test.branch [
        | else-loop-b-test t ↦ valued_end w.valued t.loop-b-test.false
        | then-loop-b-test+then-count-gt-DIGIT_LIMIT t ↦ elim t.then-count-gt-DIGIT_LIMIT.branch [
          | then-count-gt-DIGIT_LIMIT-via-then-count-gt-DIGIT_LIMIT u ↦
              absurd (omega (arith, few, u.if-count-gt-DIGIT_LIMIT.true))
          | then-count-gt-DIGIT_LIMIT-via-else-count-gt-DIGIT_LIMIT+then-not-is_digit u ↦
              valued_stop w.valued t.loop-b-test.true (sym u.is_digit.ensures ∙ u.if-not-is_digit.true)
        ]
      ]

pub returns-then-count-eq0 : goal.returns-then-count-eq0
returns-then-count-eq0 c =
    let left = (goal.at.returns-then-count-eq0 c).Left-loop-b in
    elim c.then-count-eq0.branch [
      | then-count-eq0-via-then-count-eq0 w ↦
          sym (read_empty (added left) (no_more left (omega (arith, w.if-count-eq0.true))) w.if-count-eq0.true)
      | then-count-eq0-via-else-count-eq0+then-count-gt-DIGIT_LIMIT-2 w ↦
          sym (magnitude_none _ (λ t.
          omega (arith, (added left).counted, w.if-count-gt-DIGIT_LIMIT-2.true, (magnitude_digits _ t).few)))
    ]

pub returns-then-has_no_leading_zero : goal.returns-then-has_no_leading_zero
returns-then-has_no_leading_zero c =
    let left = (goal.at.returns-then-has_no_leading_zero c).Left-loop-b in
    let few = c.if-count-gt-DIGIT_LIMIT-2.false in
    sym (read_value (added left) (no_more left few) c.if-count-eq0.false
    c.has_no_leading_zero.ensures few c.if-has_no_leading_zero.true)

pub returns-else-has_no_leading_zero : goal.returns-else-has_no_leading_zero
returns-else-has_no_leading_zero c =
    let left = (goal.at.returns-else-has_no_leading_zero c).Left-loop-b in
    sym (read_zero (added left) (no_more left c.if-count-gt-DIGIT_LIMIT-2.false) c.if-count-eq0.false
    c.has_no_leading_zero.ensures c.if-has_no_leading_zero.false)
