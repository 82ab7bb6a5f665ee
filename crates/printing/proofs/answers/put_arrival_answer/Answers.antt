-- `printing::answers::put_arrival_answer` meets its contract, arrival by arrival.
use Rattle.model.specs.Spelling.{bytes}
use Rattle.printing.proofs.Overwriting.{room_as, wrote_as}
use Rattle.printing.proofs.Printed.{first_as, second_as, inside_as, outside_as, refused_answer}
use Rattle.printing.proofs.answers.put_arrival_answer.Goals as goal

pub put_line-requires : goal.put_line-requires
unfolding bytes
put_line-requires c =
    let a = c.in-Ok-First in
    room_as (first_as a.is (rw a.is at a.field-0-is)) c.requires

pub returns-in-Ok-First : goal.returns-in-Ok-First
unfolding bytes
returns-in-Ok-First c =
    let a = c.in-Ok-First in
    wrote_as (first_as a.is (rw a.is at a.field-0-is)) c.put_line.ensures

pub put_line-requires-in-Ok-Second : goal.put_line-requires-in-Ok-Second
unfolding bytes
put_line-requires-in-Ok-Second c =
    let a = c.in-Ok-Second in
    room_as (second_as a.is (rw a.is at a.field-0-is)) c.requires

pub returns-in-Ok-Second : goal.returns-in-Ok-Second
unfolding bytes
returns-in-Ok-Second c =
    let a = c.in-Ok-Second in
    wrote_as (second_as a.is (rw a.is at a.field-0-is)) c.put_line-in-Ok-Second.ensures

pub put_line-requires-in-Ok-Inside : goal.put_line-requires-in-Ok-Inside
unfolding bytes
put_line-requires-in-Ok-Inside c =
    let a = c.in-Ok-Inside in
    room_as (inside_as a.is (rw a.is at a.field-0-is)) c.requires

pub returns-in-Ok-Inside : goal.returns-in-Ok-Inside
unfolding bytes
returns-in-Ok-Inside c =
    let a = c.in-Ok-Inside in
    wrote_as (inside_as a.is (rw a.is at a.field-0-is)) c.put_line-in-Ok-Inside.ensures

pub put_answer-requires : goal.put_answer-requires
unfolding bytes
put_answer-requires c =
    let a = c.in-Ok-Outside in
    room_as (outside_as a.is (rw a.is at a.field-0-is)) c.requires

pub returns-in-Ok-Outside : goal.returns-in-Ok-Outside
unfolding bytes
returns-in-Ok-Outside c =
    let a = c.in-Ok-Outside in
    wrote_as (outside_as a.is (rw a.is at a.field-0-is)) c.put_answer.ensures

pub put_refused-requires : goal.put_refused-requires
put_refused-requires c = room_as (refused_answer c.in-Err.is) c.requires

pub returns-in-Err : goal.returns-in-Err
returns-in-Err c = wrote_as (refused_answer c.in-Err.is) c.put_refused.ensures
