-- What the functions that read positions answer, in the order of this page: the position at the
-- front of a list; the same by what stands after it; positions one after
-- another, of which the first 512 are kept. `Perhaps` is the option of the model's page, and `Option` what a
-- function answers.
use Rattle.std.specs.Prelude.{◌≡◌, cond, List, ℕ, ◌+◌, ◌-◌, ◌≤◌, ◌<◌, length, get_or}
use Rattle.std.proofs.Math.Option.{Option as Perhaps, none, some}
use Rattle.std.specs.declared.option.Option.{Option}
use Rattle.std.specs.declared.option.Option.TheVariants.{Some, None}
use Rattle.finite.specs.Lists.{all_in}
use Rattle.model.specs.declared.Point.{Point}
use Rattle.model.specs.Plane.{in_range, origin}
use Rattle.model.specs.Maps.{point_in, point_limit}
use Rattle.model.specs.Spelling.{bytes}
use Rattle.positions.specs.declared.Listed.{Listed}
use Rattle.positions.specs.declared.Position.{Position}
use Rattle.positions.specs.declared.Step.{Step}
use Rattle.model.specs.Outlines.{after_position, is_position, is_word, position, positions, second, starts_with}
use Rattle.model.specs.Text.{front}

-- how many bytes the position takes
unfoldable pub position_size : List ℕ → ℕ
position_size s = length (front s) + 1 + length (front (second s))

unfoldable pub front_position : List ℕ → Option Position
front_position s =
    cond (is_position s) (Some (record { point = position s; size = position_size s })) None

unfoldable pub step : List ℕ → List ℕ → Option Step
step closing s =
    let rest = after_position s in
    let more : Step = record { point = position s; more = Some (position_size s + 2) } in
    let last : Step = record { point = position s; more = None } in
    cond (is_position s)
    (cond (starts_with (bytes ", ") rest) (Some more) (cond (is_word closing rest) (Some last) None))
    None

-- how many positions there are, whether all are in range, and the last of them
unfoldable pub listed_as : Perhaps (List Point) → Option Listed
listed_as none = None
listed_as (some ps) =
    let last = get_or ps (length ps - 1) origin in
    Some (record { count = length ps; ranged = all_in in_range ps; last = last })

-- of these points the first 512 are kept at their places, and the other places are as they were before
pub record Kept (points before after : List Point) : Type 0 where
  pub long : length after ≡ point_limit
  pub each : (k : ℕ) → k < length points → k < point_limit → point_in after k ≡ get_or points k origin
  pub others : (k : ℕ) → length points ≤ k → point_in after k ≡ point_in before k

pub record ReadAll (closing s : List ℕ) (r : Option Listed) (before after : List Point) : Type 0 where
  pub answer : r ≡ listed_as (positions (length s) closing s)
  pub kept : (ps : List Point) → positions (length s) closing s ≡ some ps → Kept ps before after
