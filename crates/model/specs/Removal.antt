-- Taking back the last point, in the order of this page: the map before it; number 13; the call; the map
-- after it.
-- Document 02, request 108: "Remove the last accepted point; the map is then exactly the one before it,
-- freed darts joined again, reference included." A sound map is the one that its points build, so the one
-- before its last point is what the others build. That this is the map to which the last point was offered
-- is `removal_undoes`, and that offering it again brings back the same map `offer_again`, both of
-- hull/proofs/Removal.
use Rattle.std.specs.Prelude.{[], ◌∷◌, ℕ, ◌-◌, eqb}
use Rattle.std.specs.declared.result.Result.{Result}
use Rattle.std.specs.declared.result.Result.TheVariants.{Ok, Err}
use Rattle.finite.specs.Bounded.{table}
use Rattle.model.specs.declared.Refusal.{Refusal}
use Rattle.model.specs.declared.Map.{Map}
use Rattle.model.specs.Refusals.{Rule, ◌when◌}
use Rattle.model.specs.Answers.{Call, answer_of, outcome_answer}
use Rattle.model.specs.Maps.{point, empty_map}
use Rattle.model.specs.Building.{built}
use Rattle.model.specs.Reading.{unsound}

-- the number of the last point, and the map that the points before it build
abbrev pub last : Map → ℕ
last m = m.count - 1

unfoldable pub before_last : Map → Map
before_last m = built empty_map (table (last m) (point m))

-- "13, after 1, when there is no point"
abbrev pub no_point : Map → Rule
no_point m = Refusal.NoPoint when eqb m.count 0

abbrev pub remove_call : Map → Call Map
remove_call m =
    record {
      meaning = outcome_answer;
      rules = unsound m ∷ no_point m ∷ [];
      value = before_last m;
    }

unfoldable pub remove : Map → Result Map Refusal
remove m = answer_of (remove_call m)

-- the map that a caller has after the call: the one that is returned, or where it is refused the one that was lent
unfoldable pub map_left : Map → Result Map Refusal → Map
map_left m (Ok n) = n
map_left m (Err r) = m
