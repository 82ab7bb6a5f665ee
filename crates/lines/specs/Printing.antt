-- Writing printed lines, in the order of this page: ends whose number of lines is that of a text;
-- what is written from a position on.
use Rattle.std.specs.Prelude.{List, ℕ, ◌+◌, ◌-◌, ◌≤◌, ◌<◌, length, IfSome}
use Rattle.std.specs.declared.option.Option.{Option}
use Rattle.model.specs.Report.{text_limit}
use Rattle.printing.specs.Writing.{PutAt}
use Rattle.lines.specs.declared.positions.Ends.{Ends}
use Rattle.lines.specs.declared.positions.Piece.{Piece}
use Rattle.lines.specs.Lines.{report_line, lines_from, line_count}

pub record Printable (ends : Option Ends) : Type 0 where
  pub lines_fit : IfSome ends (λ e. e.lines ≤ text_limit)

-- the bytes are the printed lines from the position up to the next one; where that is not the end,
-- the list has no room for one line more
pub record PutLines (answers corners : List ℕ) (ends : Option Ends) (from : ℕ) (lent after : List ℕ)
    (r : Piece) : Type 0 where
  pub wrote : PutAt lent 0 (lines_from answers corners ends from (r.next - from)) after r.length
  pub further : from ≤ r.next
  pub inside : r.length ≤ length lent
  pub whole : from ≤ line_count ends → r.next ≤ line_count ends
  pub full : r.next < line_count ends →
      length lent < r.length + length (report_line answers corners ends r.next)
