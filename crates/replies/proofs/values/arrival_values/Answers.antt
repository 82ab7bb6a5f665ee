-- `replies::values::arrival_values` meets its contract: arrival by arrival.
use Rattle.model.specs.Answers.{arrival_answer}
use Rattle.replies.specs.Replies.{place_of, told}
use Rattle.replies.proofs.values.arrival_values.Goals as goal

pub returns-in-Ok-First : goal.returns-in-Ok-First
unfolding told place_of arrival_answer
returns-in-Ok-First c = let a = c.in-Ok-First in rw (a.is, rw a.is at a.field-0-is)

pub returns-in-Ok-Second : goal.returns-in-Ok-Second
unfolding told place_of arrival_answer
returns-in-Ok-Second c = let a = c.in-Ok-Second in rw (a.is, rw a.is at a.field-0-is)

pub returns-in-Ok-Inside : goal.returns-in-Ok-Inside
unfolding told place_of arrival_answer
returns-in-Ok-Inside c = let a = c.in-Ok-Inside in rw (a.is, rw a.is at a.field-0-is)

pub returns-in-Ok-Outside : goal.returns-in-Ok-Outside
unfolding told place_of arrival_answer
returns-in-Ok-Outside c = let a = c.in-Ok-Outside in rw (a.is, rw a.is at a.field-0-is)

pub returns-in-Err : goal.returns-in-Err
unfolding told place_of arrival_answer
returns-in-Err c = rw (c.in-Err.is, c.from.ensures)
