-- `survey::numbers::front_digits` meets its contract. The loop's invariant: the digits before place
-- `b-index` have the value so far, and they are `count`, digit-limit and one more at most.
use Rattle.std.proofs.Common.{◌≡◌, ◌+◌, ◌≤◌}
use Rattle.model.specs.Text.{digit_limit}
use Rattle.survey.proofs.Digits.{Valued}
use Rattle.survey.proofs.numbers.front_digits.Given as goal

abbrev pub invariant-loop-b : goal.invariant-loop-b
invariant-loop-b l = record {
  valued : Valued l.s l.value l.b-index;
  counted : l.count ≡ l.b-index;
  few : l.count ≤ digit_limit + 1;
}
