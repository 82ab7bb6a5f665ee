-- The printed lines of a report, in the order of this page: a word with its values; the line of an
-- arrival. Document 01, "The text program": "Fields: line number from 0, arrival, point numbers of
-- the left and right corner, visible edges. Each printed line ends in a line feed."
use Rattle.std.specs.Prelude.{List, [], ◌∷◌, ◌++◌, map, ℕ, pos}
use Rattle.std.specs.declared.result.Result.{Result}
use Rattle.model.specs.declared.Arrival.{Arrival}
use Rattle.model.specs.declared.Refusal.{Refusal}
use Rattle.model.specs.Spelling.{line_feed, space, spelt}
use Rattle.model.specs.Answers.{arrival_answer}
use Rattle.model.specs.Report.{printed, spaced}

-- each value after a space
abbrev pub values_spaced : List ℕ → List ℕ
values_spaced values = spaced (map pos values)

-- what `printed` makes of an answer, by the bytes of its word and its values
unfoldable pub answer_line : List ℕ → List ℕ → List ℕ
answer_line word values = word ++ values_spaced values ++ line_feed ∷ []

-- what an offered point is answered, after the number of the survey's line
unfoldable pub arrival_line : ℕ → Result Arrival Refusal → List ℕ
arrival_line n a = spelt (pos n) ++ space ∷ printed (arrival_answer a)
