-- What is decided of a text beside the answers of its lines, in the order of this page: the corners;
-- the report that it makes with the answers; that it is within its limits; that it is the text's.
use Rattle.std.specs.Prelude.{◌≡◌, List, ℕ, ◌≤◌, length, IfSome}
use Rattle.model.specs.Maps.{point_limit}
use Rattle.model.specs.Report.{text_limit, report}
use Rattle.corners.specs.Listing.{listed}
use Rattle.lines.specs.Lines.{lines_from, line_count}
use Rattle.reports.specs.declared.Summary.{Summary}

-- the corners that were decided
abbrev pub corners_in : Summary → List ℕ
corners_in d = listed d.corners

unfoldable pub report_of : List ℕ → Summary → List ℕ
report_of answers d = lines_from answers (corners_in d) d.ends 0 (line_count d.ends)

-- the corners and the number of lines within their limits
pub record Fits (d : Summary) : Type 0 where
  pub corners_whole : length d.corners.points ≡ point_limit
  pub corners_fit : d.corners.count ≤ point_limit
  pub lines_fit : IfSome d.ends (λ e. e.lines ≤ text_limit)

-- what is decided is the report on the text
pub record Decides (text answers : List ℕ) (d : Summary) : Type 0 where
  pub whole : length answers ≡ text_limit
  pub fits : Fits d
  pub is_report : report_of answers d ≡ report text
