-- The report by places, in the order of this page: its lines from a place of the survey text on
-- are the line of one arrival and the lines from the next place on, or the last two; what those
-- two are. For a loop that writes the report.
use mathlib.Core.Path.{◌≡◌, refl, ap}
use mathlib.Core.Bool.{true, false}
use mathlib.Core.List.{List, [], ◌∷◌, ◌++◌}
use Prim.Native.Nat.{ℕ, suc}
use lib.ListN.{drop}
use Rattle.std.specs.declared.result.Result.{Result}
use Rattle.model.specs.declared.Refusal.{Refusal}
use Rattle.model.specs.declared.Map.{Map}
use Rattle.model.specs.declared.Offered.{Offered}
use Rattle.model.specs.Spelling.{bytes}
use Rattle.model.specs.Answers.{arrival_of, counted_answer}
use Rattle.model.specs.Outline.{corners}
use Rattle.model.specs.Reading.{counts}
use Rattle.model.specs.Offers.{map_after}
use Rattle.model.specs.Report.{arrivals, closing, offer_line, printed}
use Rattle.model.specs.Text.{lines}
use Rattle.survey.specs.Places.{at_end, line_at, next_line}
use Rattle.printing.specs.Printing.{answer_line, arrival_line}
use Rattle.survey.proofs.Texts.{none_left, one_left}

module _ (m : Map) (n : ℕ) (text : List ℕ) (at : ℕ) where
  pub report_ended : at_end text at ≡ true → arrivals m n (lines (drop at text)) ≡ closing m
  unfolding arrivals
  report_ended e = ap (arrivals m n) (none_left text at e)

  -- what the line at the place does to the map
  abbrev pub offered : Result Offered Refusal
  offered = offer_line m (line_at text at)

  pub report_goes_on : at_end text at ≡ false →
      arrivals m n (lines (drop at text))
      ≡ arrival_line n (arrival_of offered)
      ++ arrivals (map_after m offered) (suc n) (lines (drop (next_line text at) text))
  unfolding arrivals arrival_line line_at
  report_goes_on e = ap (arrivals m n) (one_left text at e)

pub closing_lines : (m : Map) →
    let c = counts m in
    closing m
    ≡ answer_line (bytes "corners") (corners m)
    ++ answer_line (bytes "counts") (c.darts ∷ c.vertices ∷ c.edges ∷ c.faces ∷ c.parts ∷ [])
unfolding closing printed answer_line counted_answer
closing_lines m = refl
