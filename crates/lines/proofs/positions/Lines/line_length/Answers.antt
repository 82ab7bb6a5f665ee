-- `line_length` meets its contract, one kind of line after another.
use Rattle.std.proofs.Common.{ap, ◌∙◌, arith, length}
use Rattle.model.specs.Spelling.{bytes}
use Rattle.printing.specs.Printing.{arrival_line}
use Rattle.printing.proofs.Values.{spaced_length}
use Rattle.lines.specs.Packing.{unpacked}
use Rattle.lines.specs.Lines.{counts_values}
use Rattle.lines.proofs.ReportLines.{title_is, long_is, answer_is, corners_is, counts_is, corners_length, counts_length}
use Rattle.lines.proofs.positions.Lines.line_length.Goals as goal

pub returns-then-j-eq0 : goal.returns-then-j-eq0
unfolding bytes
returns-then-j-eq0 c = ap length (title_is _ _ _ _ c.if-j-eq0.true)

pub returns-in-None : goal.returns-in-None
returns-in-None c =
    c.refused_length.ensures ∙ ap length (long_is _ _ _ _ c.if-j-eq0.false c.in-None.is)

pub returns-then-i-ends : goal.returns-then-i-ends
returns-then-i-ends c =
    c.arrival_length.ensures
    ∙ ap length
    (ap (arrival_line _) (c.unpacked.ensures ∙ ap unpacked c.answer.ensures)
    ∙ answer_is _ _ _ _ c.if-j-eq0.false c.in-Some.is c.if-i-ends.true)

pub overflow_add-result : goal.overflow_add-result
overflow_add-result c =
    omega (arith, c.values_length.ensures, spaced_length c.args.self.now.corners.now, c.requires)

pub returns-then-i-ends-2 : goal.returns-then-i-ends-2
returns-then-i-ends-2 c =
    let r = c.args.self.now in
    corners_length r.answers.now _ r.ends _ c.values_length.ensures
    ∙ ap length
    (corners_is _ _ _ _ c.if-j-eq0.false c.in-Some.is c.if-i-ends.false c.if-i-ends-2.true)

pub overflow_add-result-in-Some : goal.overflow_add-result-in-Some
overflow_add-result-in-Some c =
    let told = rw c.counts_values.ensures at c.values_length-in-Some.ensures in
    omega (arith, told, spaced_length (counts_values c.in-Some.ends.counts))

pub returns-else-i-ends-2 : goal.returns-else-i-ends-2
returns-else-i-ends-2 c =
    let r = c.args.self.now in
    let told = rw c.counts_values.ensures at c.values_length-in-Some.ensures in
    counts_length r.answers.now r.corners.now r.ends _ _ told
    ∙ ap length
    (counts_is _ _ _ _ c.if-j-eq0.false c.in-Some.is c.if-i-ends.false c.if-i-ends-2.false)
