-- `replies::values::placed_values` meets its contract: place by place.
use Rattle.model.specs.Answers.{placed_answer}
use Rattle.replies.specs.Replies.{place_of, told}
use Rattle.replies.proofs.values.placed_values.Goals as goal

pub returns-in-Ok-NoOutline : goal.returns-in-Ok-NoOutline
unfolding told place_of placed_answer
returns-in-Ok-NoOutline c = let a = c.in-Ok-NoOutline in rw (a.is, rw a.is at a.field-0-is)

pub returns-in-Ok-Corner : goal.returns-in-Ok-Corner
unfolding told place_of placed_answer
returns-in-Ok-Corner c = let a = c.in-Ok-Corner in rw (a.is, rw a.is at a.field-0-is)

pub returns-in-Ok-Edge : goal.returns-in-Ok-Edge
unfolding told place_of placed_answer
returns-in-Ok-Edge c = let a = c.in-Ok-Edge in rw (a.is, rw a.is at a.field-0-is)

pub returns-in-Ok-Inside : goal.returns-in-Ok-Inside
unfolding told place_of placed_answer
returns-in-Ok-Inside c = let a = c.in-Ok-Inside in rw (a.is, rw a.is at a.field-0-is)

pub returns-in-Ok-Outside : goal.returns-in-Ok-Outside
unfolding told place_of placed_answer
returns-in-Ok-Outside c = let a = c.in-Ok-Outside in rw (a.is, rw a.is at a.field-0-is)

pub returns-in-Err : goal.returns-in-Err
unfolding told place_of placed_answer
returns-in-Err c = rw (c.in-Err.is, c.from.ensures)
