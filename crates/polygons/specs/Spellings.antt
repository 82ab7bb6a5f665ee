-- What the functions that read the corners of a text answer, in the order of this page: the positions
-- between two words; so many of them, and a ring, by what was read; the corners of a whole text; what an
-- array must hold before corners are kept there, and what it holds afterwards. `Perhaps` is the option of the
-- model's page, and `Option` what a function answers.
use Rattle.std.specs.Prelude.{◌≡◌, cond, ◌&&◌, List, ℕ, ◌-◌, ◌<◌, T, leb, eqb, length, get_or}
use Rattle.std.proofs.Math.Option.{Option as Perhaps, none, some}
use Rattle.std.specs.declared.option.Option.{Option}
use Rattle.std.specs.declared.option.Option.TheVariants.{Some, None}
use Rattle.finite.specs.Lists.{all_in}
use Rattle.model.specs.declared.Point.{Point}
use Rattle.model.specs.Plane.{in_range, origin, same_point}
use Rattle.model.specs.Maps.{point_in, point_limit}
use Rattle.model.specs.Outlines.{corners_in, positions_in}
use Rattle.positions.specs.declared.Listed.{Listed}
use Rattle.polygons.specs.declared.Corners.{Corners}
use Rattle.positions.specs.Positions.{Kept, listed_as}

-- the positions between the first word of a text and its closing
pub record ReadBetween (opening closing t : List ℕ) (r : Option Listed) (before after : List Point) :
    Type 0 where
  pub answer : r ≡ listed_as (positions_in opening closing t)
  pub kept : (ps : List Point) → positions_in opening closing t ≡ some ps → Kept ps before after

unfoldable pub counted_as : ℕ → Option Listed → Option Corners
counted_as n (Some l) = cond (eqb l.count n) (Some (record { count = l.count; ranged = l.ranged })) None
counted_as n None = None

unfoldable pub ring_as : Point → Option Listed → Option Corners
ring_as first (Some l) =
    let corners : Corners = record { count = l.count - 1; ranged = l.ranged } in
    cond (leb 4 l.count && same_point first l.last) (Some corners) None
ring_as first None = None

-- how many corners there are, and whether all are in range
unfoldable pub corners_as : Perhaps (List Point) → Option Corners
corners_as none = None
corners_as (some cs) = Some (record { count = length cs; ranged = all_in in_range cs })

-- an array with points in range at every place
pub record Ready (points : List Point) : Type 0 where
  pub ranged : (k : ℕ) → T (in_range (point_in points k))

-- the first 512 corners stand at their places; where all corners are in range, so is every place
pub record Held (cs points : List Point) : Type 0 where
  pub each : (k : ℕ) → k < length cs → k < point_limit → point_in points k ≡ get_or cs k origin
  pub ranged : T (all_in in_range cs) → (k : ℕ) → T (in_range (point_in points k))

pub record CornersRead (text : List ℕ) (r : Option Corners) (points : List Point) : Type 0 where
  pub answer : r ≡ corners_as (corners_in text)
  pub held : (cs : List Point) → corners_in text ≡ some cs → Held cs points
