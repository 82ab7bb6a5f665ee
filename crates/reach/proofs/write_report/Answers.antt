-- `reach::write_report` meets its contract: there is room for the length, and then the report is
-- written.
use Rattle.model.specs.Answers.{written_answer}
use Rattle.model.specs.Report.{report, report_rules}
use Rattle.deciding.proofs.Verdicts.{passed_up}
use Rattle.replies.proofs.Reported.{no_room_for_length, result_refused, result_written}
use Rattle.reach.proofs.write_report.Goals as goal

pub returns-then-count-lt1 : goal.returns-then-count-lt1
unfolding written_answer
returns-then-count-lt1 c = let s = c.args in
    no_room_for_length (report_rules s.text.now) (report s.text.now) s.out.now s.count.now
    c.if-count-lt1.true c.uncounted.ensures

pub returns-in_err-length : goal.returns-in_err-length
unfolding written_answer
returns-in_err-length c = let s = c.args in
    rw (passed_up _ _ c.from_residual.ensures.1)
    (result_refused (report_rules s.text.now) (report s.text.now) s.out.now s.count.now
    c.if-count-lt1.false c.in_err-length.ensures)

pub returns : goal.returns
unfolding written_answer
returns c = let s = c.args in
    result_written (report_rules s.text.now) (report s.text.now) s.out.now s.count.now
    c.if-count-lt1.false c.in_ok-length.ensures
