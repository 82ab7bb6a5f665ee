-- The whole report on a survey text, a function from bytes to bytes, in the order of this page: a
-- printed line; the arrivals; the last two lines; the report; when a call for it is refused.
-- Document 01, "The text program": "Fields: line number from 0, arrival, point numbers of the left
-- and right corner, visible edges. A refused line prints `N refused R`. Counts are darts, vertices,
-- edges, faces, parts. Each printed line ends in a line feed."
use Rattle.std.specs.Prelude.{cond, List, [], ◌∷◌, ◌++◌, map, ℕ, suc, ltb, ℤ, pos, length}
use Rattle.std.specs.declared.result.Result.{Result}
use Rattle.std.specs.declared.result.Result.TheVariants.{Ok, Err}
use Rattle.model.specs.declared.Refusal.{Refusal}
use Rattle.model.specs.declared.Map.{Map}
use Rattle.model.specs.declared.Point.{Point}
use Rattle.model.specs.declared.Offered.{Offered}
use Rattle.model.specs.Spelling.{bytes, line_feed, space, spelt}
use Rattle.model.specs.Refusals.{Rule, ◌when◌}
use Rattle.model.specs.Answers.{Answer, served, refused, offer_answer, counted_answer}
use Rattle.model.specs.Maps.{empty_map}
use Rattle.model.specs.Outline.{corners}
use Rattle.model.specs.Reading.{counts}
use Rattle.model.specs.Offers.{offer, map_after}
use Rattle.model.specs.Text.{line_read, lines}

-- "text above 65,536 bytes"
abbrev pub text_limit : ℕ
text_limit = 65_536

-- each value after a space
unfoldable pub spaced : List ℤ → List ℕ
spaced [] = []
spaced (z ∷ zs) = space ∷ spelt z ++ spaced zs

-- the word, its values and a line feed
unfoldable pub printed : Answer → List ℕ
printed answer = bytes answer.word ++ spaced answer.values ++ line_feed ∷ []

-- a line that is not in form is refused and leaves the map
unfoldable pub offer_line : Map → Result Point Refusal → Result Offered Refusal
offer_line m (Ok p) = offer m p
offer_line m (Err r) = Err r

-- the corners and the counts
unfoldable pub closing : Map → List ℕ
closing m =
    printed (served "corners" (map pos (corners m)))
    ++ printed (counted_answer (Ok (counts m)))

-- the lines from number n on, offered to a map
unfoldable pub arrivals : Map → ℕ → List (List ℕ) → List ℕ
arrivals m n [] = closing m
arrivals m n (l ∷ ls) =
    let o = offer_line m (line_read l) in
    spelt (pos n) ++ space ∷ printed (offer_answer o) ++ arrivals (map_after m o) (suc n) ls

-- the report: "Number 9 prints the first line and `refused 9`, no more."
unfoldable pub report : List ℕ → List ℕ
report text =
    let lines_reported = arrivals empty_map 0 (lines text) in
    bytes "OUTLINE 1\n"
    ++ cond (ltb text_limit (length text)) (printed (refused Refusal.LongText)) lines_reported

-- a report that is written into a lent list: number 9 writes nothing there
abbrev pub report_rules : List ℕ → List Rule
report_rules text = (Refusal.LongText when ltb text_limit (length text)) ∷ []
