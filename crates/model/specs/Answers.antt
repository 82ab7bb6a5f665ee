-- What each answer means in document 01, in the order of this page: its number, 0 where the call is
-- served; a word for it; and its values in the document's order. Then a call of the engine, with its
-- rules and its value, and what every entry promises of its answer.
-- The words of arrivals, refusals, counts, endings and places are document 01's; `orientation`, `orbit`,
-- `served`, `dart`, `area`, `right`, `wrong`, `length` and `point` are ours, and no report has them.
use Rattle.std.specs.Prelude.{◌≡◌, ⊤, Bool, true, false, List, [], ◌∷◌, ◌++◌, map, ℕ, ℤ, pos}
use Prim.Native.String.{String}
use Rattle.std.specs.declared.result.Result.{Result}
use Rattle.std.specs.declared.result.Result.TheVariants.{Ok, Err}
use Rattle.orbits.specs.declared.Ending.{Ending}
use Rattle.orbits.specs.declared.DartSet.{DartSet}
use Rattle.orbits.specs.declared.Walk.{Walk}
use Rattle.orbits.specs.declared.Walker.{Walker}
use Rattle.model.specs.declared.Refusal.{Refusal}
use Rattle.model.specs.declared.Point.{Point}
use Rattle.model.specs.declared.Arrival.{Arrival}
use Rattle.model.specs.declared.Offered.{Offered}
use Rattle.model.specs.declared.Counts.{Counts}
use Rattle.model.specs.declared.Placed.{Placed}
use Rattle.model.specs.Refusals.{number, Rule, unless}

pub record Answer : Type 0 where
  pub number : ℕ
  pub word : String
  pub values : List ℤ

abbrev pub served : String → List ℤ → Answer
served word values = record { number = 0; word = word; values = values }

abbrev pub refused : Refusal → Answer
refused r = record { number = number r; word = "refused"; values = pos (number r) ∷ [] }

abbrev ending_word : Ending → String
ending_word Ending.Home = "home"
ending_word Ending.Loose = "loose"

unfoldable pub oriented_answer : Result ℤ Refusal → Answer
oriented_answer (Ok z) = served "orientation" (z ∷ [])
oriented_answer (Err r) = refused r

unfoldable pub arrival_answer : Result Arrival Refusal → Answer
arrival_answer (Ok Arrival.First) = served "first" []
arrival_answer (Ok Arrival.Second) = served "second" []
arrival_answer (Ok Arrival.Inside) = served "inside" []
arrival_answer (Ok (Arrival.Outside l r v)) = served "outside" (pos l ∷ pos r ∷ pos v ∷ [])
arrival_answer (Err r) = refused r

-- how an offered point arrived, or why it is refused
unfoldable pub arrival_of : Result Offered Refusal → Result Arrival Refusal
arrival_of (Ok o) = Ok o.arrival
arrival_of (Err r) = Err r

-- an offer is told by its arrival: the map is not
abbrev pub offer_answer : Result Offered Refusal → Answer
offer_answer o = arrival_answer (arrival_of o)

-- the same of a call that is served with a map, or with nothing, and has no value to tell
unfoldable pub outcome_answer : {A : Type 0} → Result A Refusal → Answer
outcome_answer (Ok a) = served "served" []
outcome_answer (Err r) = refused r

-- "sixteen 64-bit words .. with the number of its darts"
abbrev orbit_values : DartSet → List ℤ
orbit_values s = map pos s.words ++ pos s.size ∷ []

unfoldable pub orbit_answer : Result DartSet Refusal → Answer
orbit_answer (Ok s) = served "orbit" (orbit_values s)
orbit_answer (Err r) = refused r

unfoldable pub counted_answer : Result Counts Refusal → Answer
counted_answer (Ok n) =
    served "counts"
    (pos n.darts ∷ pos n.vertices ∷ pos n.edges ∷ pos n.faces ∷ pos n.parts ∷ [])
counted_answer (Err r) = refused r

unfoldable pub walked_answer : Result Walk Refusal → Answer
walked_answer (Ok w) = served (ending_word w.ending) (pos w.last ∷ pos w.moves ∷ [])
walked_answer (Err r) = refused r

unfoldable pub moved_answer : Result Walker Refusal → Answer
moved_answer (Ok w) = served "dart" (pos w.dart ∷ [])
moved_answer (Err r) = refused r

unfoldable pub placed_answer : Result Placed Refusal → Answer
placed_answer (Ok Placed.NoOutline) = served "none" []
placed_answer (Ok (Placed.Corner k)) = served "corner" (pos k ∷ [])
placed_answer (Ok (Placed.Edge a b)) = served "edge" (pos a ∷ pos b ∷ [])
placed_answer (Ok Placed.Inside) = served "inside" []
placed_answer (Ok (Placed.Outside v)) = served "outside" (pos v ∷ [])
placed_answer (Err r) = refused r

unfoldable pub doubled_answer : Result ℤ Refusal → Answer
doubled_answer (Ok z) = served "area" (z ∷ [])
doubled_answer (Err r) = refused r

unfoldable pub marked_answer : Result Bool Refusal → Answer
marked_answer (Ok true) = served "right" []
marked_answer (Ok false) = served "wrong" []
marked_answer (Err r) = refused r

unfoldable pub written_answer : Result ℕ Refusal → Answer
written_answer (Ok n) = served "length" (pos n ∷ [])
written_answer (Err r) = refused r

unfoldable pub line_answer : Result Point Refusal → Answer
line_answer (Ok p) = served "point" (p.x ∷ p.y ∷ [])
line_answer (Err r) = refused r

-- ---- calls

-- What its answers mean, the rules by which it refuses, in their order, and what it answers where none
-- applies.
pub record Call (A : Type 0) : Type 0 where
  pub meaning : Result A Refusal → Answer
  pub rules : List Rule
  pub value : A

abbrev pub answer_of : {A : Type 0} → Call A → Result A Refusal
answer_of c = unless Err c.rules (Ok c.value)

-- what the rules come to, without a value
abbrev pub outcome_by : List Rule → Result ⊤ Refusal
outcome_by rules = unless Err rules (Ok tt)

-- What an entry promises of its answer r: it is that of the call; and by number, word and values it means
-- the refusal of the first rule that applies, or else what the value means.
pub record Answered {A : Type 0} (c : Call A) (r : Result A Refusal) : Type 0 where
  pub equal : r ≡ answer_of c
  pub means : c.meaning r ≡ unless refused c.rules (c.meaning (Ok c.value))
