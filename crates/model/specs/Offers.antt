-- Offering a point to any map, in the order of this page: number 1, and then what a sound map does with it
-- (specs/Arrival); the map after an offer.
-- Document 01, "Orientation and arrival" and its table of numbers.
use Rattle.std.specs.Prelude.{List, ◌∷◌}
use Rattle.std.specs.declared.result.Result.{Result}
use Rattle.std.specs.declared.result.Result.TheVariants.{Ok, Err}
use Rattle.model.specs.declared.Refusal.{Refusal}
use Rattle.model.specs.declared.Point.{Point}
use Rattle.model.specs.declared.Map.{Map}
use Rattle.model.specs.declared.Offered.{Offered}
use Rattle.model.specs.Refusals.{Rule}
use Rattle.model.specs.Answers.{Call, answer_of, offer_answer}
use Rattle.model.specs.Reading.{unsound}
use Rattle.model.specs.Arrival.{admission_rules, arrive}

-- why an offered point is refused
abbrev pub offer_rules : Map → Point → List Rule
offer_rules m p = unsound m ∷ admission_rules m p

abbrev pub offer_call : Map → Point → Call Offered
offer_call m p =
    record {
      meaning = offer_answer;
      rules = offer_rules m p;
      value = arrive m p;
    }

unfoldable pub offer : Map → Point → Result Offered Refusal
offer m p = answer_of (offer_call m p)

-- the map that a caller has after an offer: the one that is returned, or where the point is refused the one
-- that it was offered to
unfoldable pub map_after : Map → Result Offered Refusal → Map
map_after m (Ok o) = o.map
map_after m (Err r) = m
