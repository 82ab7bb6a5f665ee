-- A report in pieces, in the order of this page: what is written from a position on; how long a
-- list has room for any one line; the bytes of pieces, one after another from position 0 on.
use Rattle.std.specs.Prelude.{List, [], ◌++◌, ℕ, take}
use Rattle.reports.specs.declared.Summary.{Summary}
use Rattle.lines.specs.declared.positions.Piece.{Piece}
use Rattle.reports.specs.Summaries.{corners_in}
use Rattle.lines.specs.Printing.{PutLines}

-- the printed lines of what was decided
abbrev pub WroteLines : List ℕ → Summary → ℕ → List ℕ → List ℕ → Piece → Type 0
WroteLines answers d from lent after r =
    PutLines answers (corners_in d) d.ends from lent after r

-- no printed line is longer
abbrev pub line_limit : ℕ
line_limit = 16_384

-- pieces that bring from position 0 to a position, and their bytes
pub data Pieces (answers : List ℕ) (d : Summary) : ℕ → List ℕ → Type 0 where
  begun : Pieces answers d 0 []
  continued : {from : ℕ} {s lent after : List ℕ} {r : Piece} → Pieces answers d from s →
      WroteLines answers d from lent after r →
      Pieces answers d r.next (s ++ take r.length after)
