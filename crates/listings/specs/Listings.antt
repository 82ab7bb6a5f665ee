-- Corners that some survey lists, in the order of this page: each is reached by left turns; what is read of a
-- text, and what the array of points then holds; what is written into a lent list. That the corners turn left
-- is, where the lowest is first, the test that all of them lie beside each edge (`turns_same` of
-- proofs/Turning).
use Rattle.std.specs.Prelude.{◌≡◌, Bool, not, ◌&&◌, ◌||◌, List, ℕ, ◌-◌, leb, ℤ, length, get_or, take}
use Rattle.std.specs.declared.result.Result.{Result}
use Rattle.std.specs.declared.result.Result.TheVariants.{Ok, Err}
use Rattle.finite.specs.Tests.{◌⇒◌}
use Rattle.finite.specs.Bounded.{all}
use Rattle.model.specs.declared.Point.{Point}
use Rattle.model.specs.declared.Refusal.{Refusal}
use Rattle.model.specs.Refusals.{unless}
use Rattle.model.specs.Plane.{left_of, origin}
use Rattle.model.specs.Lent.{is_short, WroteBy}
use Rattle.model.specs.Outlines.{coordinates, corners_spelt, outline_rules}

-- point k is strictly left of the edge before it, and of the line from the first point to the one before it
abbrev pub turn_at : List Point → ℕ → Bool
turn_at cs k =
    left_of (get_or cs 0 origin) (get_or cs (k - 1) origin) (get_or cs k origin)
    && left_of (get_or cs (k - 2) origin) (get_or cs (k - 1) origin) (get_or cs k origin)

unfoldable pub turns_at : List Point → Bool
turns_at cs = all (length cs) (λ k. leb 2 k ⇒ turn_at cs k)

-- the corners are the first points of the array
pub record ListingRead (t : List ℕ) (r : Result ℕ Refusal) (points : List Point) : Type 0 where
  pub answer : r ≡ unless Err (outline_rules t) (Ok (length (corners_spelt t)))
  pub held : (n : ℕ) → r ≡ Ok n → take n points ≡ corners_spelt t

-- the coordinates of a text's corners, written where there is room for them and, by `room`, for their number
abbrev pub CoordinatesWritten : List ℕ → Bool → List ℤ → List ℤ → Result ℕ Refusal → Type 0
CoordinatesWritten t room before after r =
    let result = coordinates (corners_spelt t) in
    WroteBy (outline_rules t) (is_short result before || not room) result before after r
