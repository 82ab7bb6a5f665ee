-- A report and the history of its points, in the order of this page: the points that lines name;
-- the answers of lines offered to a map, and the map after them; the lines that print answers; the
-- accepted answers; what a report is in these words, so that demand 3 speaks of it. Document 01,
-- "The text program" and "The oral part, word by word".
use Rattle.std.specs.Prelude.{◌≡◌, List, [], ◌∷◌, ◌++◌, map, ℕ, suc, ◌≤◌, length}
use Rattle.std.specs.declared.result.Result.{Result}
use Rattle.std.specs.declared.result.Result.TheVariants.{Ok, Err}
use Rattle.model.specs.declared.Point.{Point}
use Rattle.model.specs.declared.Map.{Map}
use Rattle.model.specs.declared.Arrival.{Arrival}
use Rattle.model.specs.declared.Refusal.{Refusal}
use Rattle.model.specs.Answers.{arrival_of}
use Rattle.model.specs.Maps.{empty_map}
use Rattle.model.specs.Offers as offers
use Rattle.model.specs.History.{Entry, Run, run, Balanced}
use Rattle.model.specs.Text.{line_read, lines}
use Rattle.model.specs.Report.{text_limit, offer_line, closing, report}
use Rattle.printing.specs.Printing.{arrival_line}
use Rattle.lines.specs.Lines.{title}

abbrev pub with_named : Result Point Refusal → List Point → List Point
with_named (Ok p) ps = p ∷ ps
with_named (Err r) ps = ps

-- the points that the lines name, in order
unfoldable pub points_named : List (List ℕ) → List Point
points_named [] = []
points_named (l ∷ ls) = with_named (line_read l) (points_named ls)

-- the answers of the lines, offered to a map one after another, and the map after them
unfoldable pub answers_on : Map → List (List ℕ) → List (Result Arrival Refusal)
answers_on m [] = []
answers_on m (l ∷ ls) =
    let o = offer_line m (line_read l) in arrival_of o ∷ answers_on (offers.map_after m o) ls

unfoldable pub map_after : Map → List (List ℕ) → Map
map_after m [] = m
map_after m (l ∷ ls) = map_after (offers.map_after m (offer_line m (line_read l))) ls

-- the lines that print answers, numbered from n on
unfoldable pub numbered : ℕ → List (Result Arrival Refusal) → List ℕ
numbered n [] = []
numbered n (a ∷ s) = arrival_line n a ++ numbered (suc n) s

abbrev pub with_accepted : Result Arrival Refusal → List Arrival → List Arrival
with_accepted (Ok a) s = a ∷ s
with_accepted (Err r) s = s

unfoldable pub accepted_in : List (Result Arrival Refusal) → List Arrival
accepted_in [] = []
accepted_in (a ∷ s) = with_accepted a (accepted_in s)

-- the arrivals of a history
abbrev pub arrivals_of : List Entry → List Arrival
arrivals_of = map (λ (e : Entry). e.arrival)

abbrev pub answers_in : List ℕ → List (Result Arrival Refusal)
answers_in text = answers_on empty_map (lines text)

-- the list of offers that a text makes
abbrev pub offers_in : List ℕ → Run
offers_in text = run (points_named (lines text))

-- The report prints the answers of the text's lines and closes with the map after the offers; the
-- accepted answers are the arrivals of the history; and demand 3 holds of it.
pub record ReportsHistory (text : List ℕ) : Type 0 where
  pub is_report : length text ≤ text_limit →
      report text ≡ title ++ (numbered 0 (answers_in text) ++ closing (offers_in text).map)
  pub same_arrivals : accepted_in (answers_in text) ≡ arrivals_of (offers_in text).history
  pub balanced : Balanced (offers_in text)
