-- `replies::writing::write_values` meets its contract: a list that is too short stays as it was, and one that
-- has room is written over.
use mathlib.Core.Path.{ap}
use mathlib.Core.List.{◌++◌}
use lib.ListN.{length, drop}
use Rattle.replies.proofs.Serving.{short_list, with_room}
use Rattle.replies.proofs.writing.write_values.Goals as goal

pub returns-then-out-values : goal.returns-then-out-values
returns-then-out-values g c = short_list _ _ c.if-out-values.true

pub returns : goal.returns
returns g c =
    with_room c.args.values.now _ c.if-out-values.false
    (ap (λ s. s ++ drop (length c.args.values.now) c.args.out.now) c.copy_from_slice.ensures.after)
