-- A reader, in the order of this page: what its line names; the reader at the line after that; the line that it
-- takes, or none at the end of the text; how many it takes at most. Document 01: "One reader keeps the survey
-- text and how far it has come".
use Rattle.std.specs.Prelude.{cond, ◌-◌, length}
use Rattle.std.specs.declared.option.Option.{Option}
use Rattle.std.specs.declared.option.Option.TheVariants.{Some, None}
use Rattle.std.specs.declared.result.Result.{Result}
use Rattle.std.specs.Iterator.{Count, at_most}
use Rattle.model.specs.declared.Point.{Point}
use Rattle.model.specs.declared.Refusal.{Refusal}
use Rattle.survey.specs.Places.{at_end, line_at, next_line}
use Rattle.survey.specs.declared.reader.Reader.{Reader}

abbrev pub line_of : Reader → Result Point Refusal
line_of r = line_at r.text.now r.at

abbrev pub moved_on : Reader → Reader
moved_on r = record { text = r.text; at = next_line r.text.now r.at }

abbrev pub taken : Reader → Option (Result Point Refusal)
taken r = cond (at_end r.text.now r.at) None (Some (line_of r))

-- a line has one byte at least
abbrev pub lines_left : Reader → Count
lines_left r = at_most (length r.text.now - r.at)
