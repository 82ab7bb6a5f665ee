-- `put_line` meets its contract, one kind of line after another.
use Rattle.std.proofs.Common.{◌≡◌, sym, ap, ◌∙◌, ◌-◌}
use Rattle.model.specs.Spelling.{bytes}
use Rattle.printing.specs.Printing.{answer_line, arrival_line}
use Rattle.printing.proofs.Overwriting.{room_as, wrote_as}
use Rattle.lines.specs.Packing.{unpacked}
use Rattle.lines.specs.Lines.{report_line}
use Rattle.lines.proofs.ReportLines.{title_is, long_is, answer_is, corners_is, counts_is}
use Rattle.lines.proofs.positions.Lines.put_line.Goals as goal
use Rattle.lines.proofs.positions.Lines.put_line.Goals.{After-unpacked, After-counts_values}

pub put_word-requires : goal.put_word-requires
unfolding bytes
put_word-requires c = room_as (sym (title_is _ _ _ _ c.if-j-eq0.true)) c.requires

pub returns-then-j-eq0 : goal.returns-then-j-eq0
unfolding bytes
returns-then-j-eq0 c = wrote_as (sym (title_is _ _ _ _ c.if-j-eq0.true)) c.put_word.ensures

pub put_refused-requires : goal.put_refused-requires
put_refused-requires c = room_as (sym (long_is _ _ _ _ c.if-j-eq0.false c.in-None.is)) c.requires

pub returns-in-None : goal.returns-in-None
returns-in-None c = wrote_as (sym (long_is _ _ _ _ c.if-j-eq0.false c.in-None.is)) c.put_refused.ensures

-- the line of the answer that was read
line_read : (c : After-unpacked) →
    let r = c.args.self.now in
    report_line r.answers.now r.corners.now r.ends c.args.j ≡ arrival_line (c.args.j - 1) c.unpacked.result
line_read c =
    sym (ap (arrival_line _) (c.unpacked.ensures ∙ ap unpacked c.answer.ensures)
    ∙ answer_is _ _ _ _ c.if-j-eq0.false c.in-Some.is c.if-i-ends.true)

pub put_arrival-requires : goal.put_arrival-requires
put_arrival-requires c = room_as (line_read (goal.at.put_arrival-requires c).After-unpacked) c.requires

pub returns-then-i-ends : goal.returns-then-i-ends
returns-then-i-ends c =
    wrote_as (line_read (goal.at.returns-then-i-ends c).After-unpacked) c.put_arrival.ensures

pub put_answer-requires : goal.put_answer-requires
unfolding bytes
put_answer-requires c =
    room_as (sym (corners_is _ _ _ _ c.if-j-eq0.false c.in-Some.is c.if-i-ends.false c.if-i-ends-2.true))
    c.requires

pub returns-then-i-ends-2 : goal.returns-then-i-ends-2
unfolding bytes
returns-then-i-ends-2 c =
    wrote_as (sym (corners_is _ _ _ _ c.if-j-eq0.false c.in-Some.is c.if-i-ends.false c.if-i-ends-2.true))
    c.put_answer.ensures

-- the line of the counts
line_counted : (c : After-counts_values) →
    let r = c.args.self.now in
    report_line r.answers.now r.corners.now r.ends c.args.j
    ≡ answer_line (bytes "counts") c.counts_values.result
line_counted c =
    sym (ap (answer_line (bytes "counts")) c.counts_values.ensures
    ∙ counts_is _ _ _ _ c.if-j-eq0.false c.in-Some.is c.if-i-ends.false c.if-i-ends-2.false)

pub put_answer-requires-in-Some : goal.put_answer-requires-in-Some
unfolding bytes
put_answer-requires-in-Some c =
    room_as (line_counted (goal.at.put_answer-requires-in-Some c).After-counts_values) c.requires

pub returns-else-i-ends-2 : goal.returns-else-i-ends-2
unfolding bytes
returns-else-i-ends-2 c =
    wrote_as (line_counted (goal.at.returns-else-i-ends-2 c).After-counts_values) c.put_answer-in-Some.ensures
