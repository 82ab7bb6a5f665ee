-- How far printing came, in the order of this page: by pieces of what was decided; by those of the
-- report on a text. The logic keeps no trace of what is written: these are the pieces that were made.
use Rattle.std.specs.Prelude.{◌≡◌, List, ℕ, Result, OnOk}
use Rattle.model.specs.Report.{report}
use Rattle.reports.specs.declared.Summary.{Summary}
use Rattle.lines.specs.Lines.{line_count}
use Rattle.reports.specs.Pieces.{Pieces}

-- pieces lead up to the position that was reached, with these bytes, and where nothing failed that is
-- the end
pub record PrintsLines {A E : Type 0} (answers : List ℕ) (d : Summary) (next : ℕ) (r : Result A E) : Type 0
  where
    pub bytes : List ℕ
    pub pieces : Pieces answers d next bytes
    pub whole : OnOk r (next ≡ line_count d.ends)

-- so where nothing failed their bytes are the report on the text
pub record PrintsReport {A E : Type 0} (text : List ℕ) (next : ℕ) (r : Result A E) : Type 0 where
  pub answers : List ℕ
  pub decided : Summary
  pub prints : PrintsLines answers decided next r
  pub is_report : OnOk r (prints.bytes ≡ report text)
