-- The printed lines of a report by their positions, in the order of this page: the lines of the
-- answers; one printed line, of the answers that were decided, the corners and the ends; how many
-- there are; those from a position on. Document 01, "The text program". Position 0 is
-- the first line; a text that is too long has one line more, and any other its arrivals, the
-- corners and the counts.
use Rattle.std.specs.Prelude.{cond, ℕ, ◌+◌, ◌-◌, ltb, eqb, get_or}
use Rattle.std.specs.declared.option.Option.{Option}
use Rattle.std.specs.declared.option.Option.TheVariants.{Some, None}
use mathlib.Core.List.{List, [], ◌∷◌, flatten}
use Rattle.finite.specs.Bounded.{table}
use Rattle.model.specs.declared.Refusal.{Refusal}
use Rattle.model.specs.declared.Counts.{Counts}
use Rattle.model.specs.Spelling.{bytes}
use Rattle.model.specs.Answers.{refused}
use Rattle.model.specs.Report.{printed}
use Rattle.printing.specs.Printing.{answer_line, arrival_line}
use Rattle.lines.specs.declared.positions.Ends.{Ends}
use Rattle.lines.specs.Packing.{unpacked}

-- the line of the answer that stands at place i
abbrev pub answer_at : List ℕ → ℕ → List ℕ
answer_at answers i = arrival_line i (unpacked (get_or answers i 0))

-- the lines of the first n answers
unfoldable pub answer_lines : List ℕ → ℕ → List ℕ
answer_lines answers n = flatten (table n (answer_at answers))

abbrev pub counts_values : Counts → List ℕ
counts_values c = c.darts ∷ c.vertices ∷ c.edges ∷ c.faces ∷ c.parts ∷ []

abbrev pub title : List ℕ
title = bytes "OUTLINE 1\n"

module _ (answers corners : List ℕ) where
  -- the printed line i places after the title; none are the ends of a text that is too long
  unfoldable pub line_after : Option Ends → ℕ → List ℕ
  line_after None i = printed (refused Refusal.LongText)
  line_after (Some e) i =
      cond (ltb i e.lines) (answer_at answers i)
      (cond (eqb i e.lines) (answer_line (bytes "corners") corners)
      (answer_line (bytes "counts") (counts_values e.counts)))

  -- the printed line at position j
  unfoldable pub report_line : Option Ends → ℕ → List ℕ
  report_line ends j = cond (eqb j 0) title (line_after ends (j - 1))

  -- the k printed lines from position j on
  unfoldable pub lines_from : Option Ends → ℕ → ℕ → List ℕ
  lines_from ends j k = flatten (table k (λ i. report_line ends (j + i)))

-- how many printed lines there are
unfoldable pub line_count : Option Ends → ℕ
line_count None = 2
line_count (Some e) = e.lines + 3
