-- Answers told by numbers, in the order of this page: the numbers of an orbit, and how many an
-- arrival has; the answer that numbers tell, which is the one that they were made of. So different
-- answers have different numbers, and nothing is lost at the boundary.
use mathlib.Core.Path.{◌≡◌, refl, ap}
use mathlib.Core.Bool.{Bool, true, false, cond}
use mathlib.Core.List.{List, [], ◌∷◌, ◌++◌, map}
use Prim.Native.Nat.{ℕ, suc}
use Prim.Native.String.{String}
use lib.IntN.{pos, nat_abs}
use lib.ListN.{length, get_or, take, drop}
use lib.Text.{eqt}
use Rattle.std.specs.declared.result.Result.{Result}
use Rattle.std.specs.declared.result.Result.TheVariants.{Ok, Err}
use Rattle.orbits.specs.declared.Ending.{Ending}
use Rattle.orbits.specs.declared.Walk.{Walk}
use Rattle.orbits.specs.declared.DartSet.{DartSet}
use Rattle.model.specs.declared.Arrival.{Arrival}
use Rattle.model.specs.declared.Placed.{Placed}
use Rattle.model.specs.declared.Refusal.{Refusal}
use Rattle.model.specs.Answers.{Answer, orbit_answer}
use Rattle.model.specs.Answers.{arrival_answer, placed_answer, walked_answer, marked_answer}
use Rattle.replies.specs.Replies.{naturals, place_of, told, endings, walk_told}
use Rattle.replies.specs.Replies.{places, place_told, arrivals, arrival_told, marks, mark_told}

-- an orbit is told by the words of its set and its size
pub set_told : (s : DartSet) →
    s.words ++ s.size ∷ []
    ≡ naturals (orbit_answer (Ok s))
unfolding orbit_answer
set_told s = go s.words
  where
    go : (words : List ℕ) → words ++ s.size ∷ [] ≡ map nat_abs (map pos words ++ pos s.size ∷ [])
    go [] = refl
    go (w ∷ words) = ap (λ (l : List ℕ). w ∷ l) (go words)

pub four_values : (a : Arrival) → length (arrival_told (arrival_answer (Ok a))) ≡ 4
unfolding told arrival_answer
four_values Arrival.First = refl
four_values Arrival.Second = refl
four_values Arrival.Inside = refl
four_values (Arrival.Outside l r v) = refl

-- ---- nothing is lost

-- an answer by its word and its values; a refusal's value is its number
abbrev answer_by : String → List ℕ → Answer
answer_by word values =
    record {
      number = cond (eqt word "refused") (get_or values 0 0) 0;
      word = word;
      values = map pos values;
    }

-- The answer that numbers tell: before value k stands the place of its word among the words, and
-- `sizes` says how many values go with each word.
unfoldable pub heard : List String → List ℕ → ℕ → List ℕ → Answer
heard words sizes k s =
    let w = get_or s k 0 in
    answer_by (get_or words w "") (take (get_or sizes w 0) (take k s ++ drop (suc k) s))

pub arrival_heard : (a : Result Arrival Refusal) →
    heard arrivals (0 ∷ 0 ∷ 0 ∷ 3 ∷ 1 ∷ []) 0 (arrival_told (arrival_answer a)) ≡ arrival_answer a
unfolding heard told place_of arrival_answer
arrival_heard (Ok Arrival.First) = refl
arrival_heard (Ok Arrival.Second) = refl
arrival_heard (Ok Arrival.Inside) = refl
arrival_heard (Ok (Arrival.Outside l r v)) = refl
arrival_heard (Err r) = refl

pub place_heard : (p : Result Placed Refusal) →
    heard places (0 ∷ 1 ∷ 2 ∷ 0 ∷ 1 ∷ 1 ∷ []) 0 (place_told (placed_answer p)) ≡ placed_answer p
unfolding heard told place_of placed_answer
place_heard (Ok Placed.NoOutline) = refl
place_heard (Ok (Placed.Corner k)) = refl
place_heard (Ok (Placed.Edge a b)) = refl
place_heard (Ok Placed.Inside) = refl
place_heard (Ok (Placed.Outside v)) = refl
place_heard (Err r) = refl

pub walk_heard : (w : Result Walk Refusal) →
    heard endings (2 ∷ 2 ∷ 1 ∷ []) 1 (walk_told (walked_answer w)) ≡ walked_answer w
unfolding heard told place_of walked_answer
walk_heard (Err r) = refl
walk_heard (Ok w) = go w.last w.ending w.moves
  where
    go : (last : ℕ) (ending : Ending) (moves : ℕ) →
        let a = walked_answer (Ok (record { last = last; ending = ending; moves = moves })) in
        heard endings (2 ∷ 2 ∷ 1 ∷ []) 1 (walk_told a) ≡ a
    go last Ending.Home moves = refl
    go last Ending.Loose moves = refl

-- of a mark that is given
pub mark_heard : (t : Bool) →
    let a = marked_answer (Ok t) in heard marks (0 ∷ 0 ∷ []) 0 (mark_told a) ≡ a
unfolding heard told place_of marked_answer
mark_heard true = refl
mark_heard false = refl
