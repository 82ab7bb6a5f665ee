-- How far the lines of a text are decided, in the order of this page: the points that a map has; the
-- answers before a line and the lines ahead make up the report; what it takes to decide a line, and what is
-- decided of it; a text at the start; all lines. Document 01, "The text program".
use Rattle.std.specs.Prelude.{◌≡◌, List, ◌++◌, ℕ, ◌≤◌, T, length, take, drop}
use Rattle.std.specs.declared.result.Result.{Result}
use Rattle.std.specs.declared.result.Result.TheVariants.{Err}
use Rattle.model.specs.declared.Map.{Map}
use Rattle.model.specs.declared.Point.{Point}
use Rattle.model.specs.declared.Refusal.{Refusal}
use Rattle.model.specs.declared.Arrival.{Arrival}
use Rattle.model.specs.Answers.{arrival_of}
use Rattle.model.specs.Maps.{empty_map}
use Rattle.model.specs.Offers.{map_after}
use Rattle.model.specs.Shape.{Shaped}
use Rattle.model.specs.Sound.{sound}
use Rattle.model.specs.Text.{lines}
use Rattle.model.specs.Report.{text_limit, arrivals, closing, offer_line}
use Rattle.admission.specs.declared.hashes.Hashes.{Hashes}
use Rattle.admission.specs.Hashes.{AllHashed}
use Rattle.lines.specs.Packing.{Packable}
use Rattle.lines.specs.Lines.{answer_lines}

-- the points that a map has, as the code is lent them
abbrev pub put_points : Map → List Point
put_points m = take m.count m.points

-- the answers of the lines before number n, and the lines from a place on, offered to the map, with
-- the hashes of its points
pub record Surveying (text : List ℕ) (m : Map) (hashes : Hashes) (answers : List ℕ)
    (n at : ℕ) : Type 0 where
  pub is_sound : T (sound m)
  pub all_hashed : AllHashed (put_points m) hashes
  pub together :
      answer_lines answers n ++ arrivals m n (lines (drop at text))
      ≡ arrivals empty_map 0 (lines text)
  pub few : n ≤ at
  pub inside : at ≤ length text
  pub short : length text ≤ text_limit
  pub whole : length answers ≡ text_limit

-- what reading refuses is a line that is not in form
abbrev pub AsRead : Result Point Refusal → Type 0
AsRead line = (r : Refusal) → line ≡ Err r → r ≡ Refusal.BadLine

-- a sound map with the hashes of its points, and a line as it is read
pub record Decidable (m : Map) (hashes : Hashes) (line : Result Point Refusal) : Type 0 where
  pub is_sound : T (sound m)
  pub all_hashed : AllHashed (put_points m) hashes
  pub as_read : AsRead line

-- what the offer comes to, with the map and its hashes after it; the answer is one that has a number
pub record DecidedLine (m after : Map) (hashes : Hashes) (line : Result Point Refusal)
    (answer : Result Arrival Refusal) : Type 0 where
  pub answered : answer ≡ arrival_of (offer_line m line)
  pub left : after ≡ map_after m (offer_line m line)
  pub packable : Packable answer
  pub is_sound : T (sound after)
  pub all_hashed : AllHashed (put_points after) hashes

-- a text that is not too long, and a place for the answer of each of its lines
pub record Readable (text answers : List ℕ) : Type 0 where
  pub short : length text ≤ text_limit
  pub whole : length answers ≡ text_limit

-- the answers of all lines, and the last two lines on the map, make up the report
pub record Surveys (text : List ℕ) (m : Map) (answers : List ℕ) (n : ℕ) : Type 0 where
  pub is_sound : Shaped m
  pub whole : length answers ≡ text_limit
  pub lines_fit : n ≤ text_limit
  pub together : answer_lines answers n ++ closing m ≡ arrivals empty_map 0 (lines text)
