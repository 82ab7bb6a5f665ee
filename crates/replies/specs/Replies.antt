-- The rules and the values of each exported function, in the order of this page: numbers for an
-- answer; an answer's word by a number; a call by its rules and its answer; a map that comes as a
-- file; each function. Rules and answers are those of the engine's calls (model/specs), and what is
-- written is made of the answer as model/specs/Answers has it, for every case.
use Rattle.std.specs.Prelude.{cond, List, [], ◌∷◌, ◌++◌, map, ℕ, suc, ℤ, nat_abs, length, take, drop, replicate}
use Prim.Native.String.{String}
use lib.Text.{eqt}
use Rattle.std.specs.declared.result.Result.TheVariants.{Ok}
use Rattle.model.specs.declared.Point.{Point}
use Rattle.model.specs.declared.Map.{Map}
use Rattle.model.specs.declared.Kind.{Kind}
use Rattle.model.specs.declared.Link.{Link}
use Rattle.model.specs.declared.Offered.{Offered}
use Rattle.model.specs.Answers.{Answer, Call, written_answer}
use Rattle.model.specs.Reading.{counts_call, orbit_call, walk_call, walker_call}
use Rattle.model.specs.Placing.{place_call}
use Rattle.model.specs.Offers.{offer_call}
use Rattle.model.specs.Removal.{before_last, no_point, remove_call}
use Rattle.model.specs.Area.{area_call}
use Rattle.model.specs.Marking.{mark_call}
use Rattle.model.specs.Saved.{map_in, saved}
use Rattle.replies.specs.Served.{Reply, ServedBoth}
use Rattle.replies.specs.Opened.{of_file}

-- the values of an answer: as they stand, and where none is negative
abbrev pub values_of : Answer → List ℤ
values_of a = a.values

abbrev pub naturals : Answer → List ℕ
naturals a = map nat_abs a.values

-- ---- a word by a number
-- A refused call writes nothing; "refused" stands in the lists so that every case is told.

-- the place of a word in a list of words
unfoldable pub place_of : String → List String → ℕ
place_of w [] = 0
place_of w (v ∷ words) = let later = place_of w words in cond (eqt w v) 0 (suc later)

-- n values, those of the answer and then zeros; before value k stands the place of its word
unfoldable pub told : List String → ℕ → ℕ → Answer → List ℕ
told words k n a =
    let values = take n (naturals a ++ replicate n 0) in
    take k values ++ place_of a.word words ∷ drop k values

-- "It gives the last dart, the ending and the moves made": the ending is the word
abbrev pub endings : List String
endings = "home" ∷ "loose" ∷ "refused" ∷ []

abbrev pub walk_told : Answer → List ℕ
walk_told = told endings 1 2

abbrev pub places : List String
places = "none" ∷ "corner" ∷ "edge" ∷ "inside" ∷ "outside" ∷ "refused" ∷ []

abbrev pub place_told : Answer → List ℕ
place_told = told places 0 2

abbrev pub arrivals : List String
arrivals = "first" ∷ "second" ∷ "inside" ∷ "outside" ∷ "refused" ∷ []

abbrev pub arrival_told : Answer → List ℕ
arrival_told = told arrivals 0 3

abbrev pub marks : List String
marks = "wrong" ∷ "right" ∷ "refused" ∷ []

abbrev pub mark_told : Answer → List ℕ
mark_told = told marks 0 0

-- ---- calls

-- what a call means where no rule applies
abbrev pub meaning_of : {A : Type 0} → Call A → Answer
meaning_of c = c.meaning (Ok c.value)

-- a call by its own rules, and what is made of its answer
abbrev pub reply : {A B : Type 0} → (Answer → List B) → Call A → Reply B
reply tell c = record { rules = c.rules; values = tell (meaning_of c) }

-- a map that comes as a file
abbrev pub from_file : {A : Type 0} → (Map → Reply A) → List ℕ → Reply A
from_file f s = record { rules = of_file s (λ m. (f m).rules); values = (f (map_in s)).values }

-- how long a result is that is written into a list of its own
abbrev pub length_told : {A : Type 0} → List A → List ℕ
length_told u = naturals (written_answer (Ok (length u)))

abbrev pub counts_reply : Map → Reply ℕ
counts_reply m = reply naturals (counts_call m)

abbrev pub orbit_reply : Kind → ℕ → Map → Reply ℕ
orbit_reply kind d m = reply naturals (orbit_call m kind d)

abbrev pub walk_reply : ℕ → Map → Reply ℕ
walk_reply d m = reply walk_told (walk_call m d)

abbrev pub walker_reply : Link → ℕ → Map → Reply ℕ
walker_reply link d m = reply naturals (walker_call m link d)

abbrev pub place_reply : Point → Map → Reply ℕ
place_reply p m = reply place_told (place_call m p)

abbrev pub area_reply : ℕ → Map → Reply ℤ
area_reply place m = reply values_of (area_call m place)

abbrev pub mark_reply : List Point → List ℕ → Reply ℕ
mark_reply ps claim = reply mark_told (mark_call ps claim)

-- the bytes of the map before the last point
abbrev pub removal_reply : Map → Reply ℕ
removal_reply m = record { rules = (remove_call m).rules; values = saved (remove_call m).value }

-- .. of a sound map, which does not get number 1
abbrev pub sound_removal : Map → Reply ℕ
sound_removal m = record { rules = no_point m ∷ []; values = saved (before_last m) }

-- a point offered to the map of a file: the bytes of the map after it, and the arrival
module _ (s : List ℕ) (p : Point) where
  abbrev call : Call Offered
  call = offer_call (map_in s) p

  abbrev pub Offering : List ℕ → List ℕ → List ℕ → List ℕ → ℕ → Type 0
  Offering =
      ServedBoth (of_file s (λ m. (offer_call m p).rules)) (saved call.value.map)
      (arrival_told (meaning_of call))
