use Rattle.std.proofs.Common.{arith, ap, ℕ, ◌+◌}
use Rattle.printing.proofs.Decimals.{spelt_some, backwards_none, backwards_long, backwards_more, backwards_all, one_left}
use Rattle.printing.proofs.writing.put_natural.Goals as goal

pub loop-place-init : goal.loop-place-init
loop-place-init c =
    backwards_none c.requires (omega arith) (ap (λ (k : ℕ). c.args.at + k) c.natural_length.ensures)

pub loop-place-preserved : goal.loop-place-preserved
loop-place-preserved c =
    backwards_more c.requires (omega arith) c.loop-place.invariant c.loop-place-test.true c.digit.ensures

pub digit-requires-2 : goal.digit-requires-2
digit-requires-2 c = one_left c.requires (omega arith) c.loop-place.invariant c.loop-place-test.false

pub bounds-lent-at : goal.bounds-lent-at
bounds-lent-at c =
    omega (
      arith,
      c.requires.room,
      spelt_some c.args.n (omega arith),
      backwards_long c.requires (omega arith) c.loop-place.invariant,
    )

pub returns : goal.returns
returns c =
    backwards_all c.requires (omega arith) c.loop-place.invariant c.loop-place-test.false
    c.digit-2.ensures
