-- Positions, in the order of this page: the points of a list of numbers; a position that comes
-- after another one.
-- Document 02, request 101: "Write the corners as POLYGON ((0 0, 4 0, 6 7, 1 3, 0 0))".
use Rattle.std.specs.Prelude.{List, ◌++◌, map, ℕ}
use Rattle.model.specs.declared.Point.{Point}
use Rattle.model.specs.Spelling.{bytes}
use Rattle.model.specs.Maps.{point_in}
use Rattle.model.specs.Outlines.{point_text}

-- those of the points that have these numbers
abbrev pub points_at : List Point → List ℕ → List Point
points_at points = map (point_in points)

-- a comma, a space and the position
unfoldable pub next_text : Point → List ℕ
next_text p = bytes ", " ++ point_text p
