use Rattle.printing.proofs.Values.{printed_none, value_room, printed_next, printed_whole}
use Rattle.printing.proofs.answers.put_values.Goals as goal

pub loop-value-init : goal.loop-value-init
loop-value-init c = printed_none c.args.values.now c.requires

pub put_value-end-requires : goal.put_value-end-requires
put_value-end-requires c = value_room c.args.values.now c.requires c.loop-value.invariant c.loop-value-test.true

pub loop-value-preserved : goal.loop-value-preserved
loop-value-preserved c = printed_next c.args.values.now c.requires c.loop-value.invariant c.loop-value-test.true
    c.put_value-end.ensures

pub returns : goal.returns
returns c = printed_whole c.args.values.now c.requires c.loop-value.invariant c.loop-value-test.false
