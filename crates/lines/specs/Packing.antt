-- The answer of a line as one number, in the order of this page: what a line is refused for; the
-- answers that have a number; the number; the answer of a number. A refusal has its own number of
-- document 01, and all that a line can get are below 11, where the arrivals begin; an outside
-- arrival's number holds left corner, right corner and visible edges.
use Rattle.std.specs.Prelude.{cond, ℕ, ◌+◌, ◌-◌, ◌*◌, ◌/◌, ◌%◌, ◌≤◌, ◌<◌, ltb, eqb}
use Rattle.std.specs.declared.result.Result.{Result}
use Rattle.std.specs.declared.result.Result.TheVariants.{Ok, Err}
use Rattle.model.specs.declared.Refusal.{Refusal}
use Rattle.model.specs.declared.Arrival.{Arrival}
use Rattle.model.specs.Refusals.{number}
use Rattle.model.specs.Maps.{point_limit}

-- the numbers that a line can get: those of an offered point, 2 to 4, and "text line not in form"
pub data OfLine : Refusal → Type 0 where
  full : OfLine Refusal.Full
  out_of_range : OfLine Refusal.OutOfRange
  repeated : OfLine Refusal.Repeated
  bad_line : OfLine Refusal.BadLine

-- point numbers, and as many visible edges as there are points at most
pub record SmallValues (left right visible : ℕ) : Type 0 where
  pub left_below : left < point_limit
  pub right_below : right < point_limit
  pub visible_most : visible ≤ point_limit

pub data Packable : Result Arrival Refusal → Type 0 where
  first : Packable (Ok Arrival.First)
  second : Packable (Ok Arrival.Second)
  inside : Packable (Ok Arrival.Inside)
  outside : {l r v : ℕ} → SmallValues l r v → Packable (Ok (Arrival.Outside l r v))
  refused : {r : Refusal} → OfLine r → Packable (Err r)

unfoldable pub packed : Result Arrival Refusal → ℕ
packed (Err r) = number r
packed (Ok Arrival.First) = 11
packed (Ok Arrival.Second) = 12
packed (Ok Arrival.Inside) = 13
packed (Ok (Arrival.Outside l r v)) = 14 + l + point_limit * (r + point_limit * v)

-- what a line is refused for; a number that no line gets stands for the last
unfoldable pub refusal_of : ℕ → Refusal
refusal_of n =
    cond (eqb n 2) Refusal.Full
    (cond (eqb n 3) Refusal.OutOfRange
    (cond (eqb n 4) Refusal.Repeated Refusal.BadLine))

abbrev pub outside_of : ℕ → Arrival
outside_of n =
    Arrival.Outside (n % point_limit) (n / point_limit % point_limit)
    (n / point_limit / point_limit)

unfoldable pub unpacked : ℕ → Result Arrival Refusal
unpacked n =
    cond (ltb n 11) (Err (refusal_of n))
    (cond (eqb n 11) (Ok Arrival.First)
    (cond (eqb n 12) (Ok Arrival.Second) (cond (eqb n 13) (Ok Arrival.Inside) (Ok (outside_of (n - 14))))))
