-- Lines by their places in a text, in the order of this page: the bytes of the line from a place
-- on; where it ends; where the next line begins; whether a text is at its end there; what is read
-- there. Document 01, "The text program": "a line feed; the last feed may be missing, and nothing
-- follows it". Every place is served, also one past the end.
use Rattle.std.specs.Prelude.{Bool, cond, List, ℕ, ◌+◌, leb, ltb, length, drop}
use Rattle.std.specs.declared.result.Result.{Result}
use Rattle.finite.specs.Lists.{before}
use Rattle.model.specs.declared.Refusal.{Refusal}
use Rattle.model.specs.declared.Point.{Point}
use Rattle.model.specs.Spelling.{line_feed}
use Rattle.model.specs.Text.{line_read}
use Rattle.survey.specs.declared.lines.Read.{Read}

unfoldable pub line_bytes : List ℕ → ℕ → List ℕ
line_bytes text at = before line_feed (drop at text)

-- the place of the line's feed, or the end of the text where there is none
unfoldable pub line_end : List ℕ → ℕ → ℕ
line_end text at = at + length (line_bytes text at)

-- past the feed, where there is one
unfoldable pub next_line : List ℕ → ℕ → ℕ
next_line text at = let end = line_end text at in cond (ltb end (length text)) (end + 1) end

unfoldable pub at_end : List ℕ → ℕ → Bool
at_end text at = leb (length text) at

-- what the line names
unfoldable pub line_at : List ℕ → ℕ → Result Point Refusal
line_at text at = line_read (line_bytes text at)

-- what is read: a line, and where the next one begins
abbrev pub found_at : Result Point Refusal → List ℕ → ℕ → Read
found_at line text at = record { line = line; next = next_line text at }

abbrev pub read_at : List ℕ → ℕ → Read
read_at text at = found_at (line_at text at) text at
