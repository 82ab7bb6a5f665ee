-- `survey::lines::line_end` meets its contract: the library takes what stands before the feed, and past the end
-- there is nothing.
use Rattle.std.proofs.Common.{arith, ◌-◌, length, drop, length-drop, drop_of_length-le}
use Rattle.finite.specs.Lists.{before}
use lib.Seq.{take_all}
use Rattle.survey.specs.Places.{line_end, line_bytes}
use Rattle.survey.proofs.Fronts.{past_end}
use Rattle.survey.proofs.Separators.{before_while}
use Rattle.survey.proofs.lines.line_end.Goals as goal

pub returns-in-Some : goal.returns-in-Some
unfolding line_end line_bytes
returns-in-Some c =
    let text = c.args.text.now in
    let at = c.args.at in
    rw (
      c.line_length.ensures,
      before_while 10 c.in-Some.rest.now,
      c.in-Some.ensures.lookup.0.2,
      take_all (length text - at) (drop at text) (omega (arith, length-drop at text)),
    )

pub returns-in-None : goal.returns-in-None
unfolding line_end line_bytes before
returns-in-None c =
    let a = c.args in
    let none = drop_of_length-le a.text.now (past_end a.text.now a.at c.in-None.ensures.lookup.0) in
    rw none (omega arith)
