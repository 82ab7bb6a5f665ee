-- Calls that offer a point or take the last one back, from the empty map's file on, in the order of this page:
-- the file that one call leaves; what one call promises; calls one after another, whatever number each of
-- them returned; the points that served calls leave. No exported function takes a point back yet: the call
-- promises what `removal_reply` says.
-- Document 01: "A refused offer, whatever its number, leaves the map as it was for the next one."
-- Document 02, request 108: "Demand 3's lists may now hold removals among the offers, each call getting
-- the map that the one before it returned or left".
-- That the file which the caller has is that of the map of the served calls is `acted_run` of
-- proofs/Actions.
use Rattle.std.specs.Prelude.{◌≢◌, List, [], ◌∷◌, ◌++◌, ℕ, ◌-◌, length, take}
use Rattle.model.specs.declared.Point.{Point}
use Rattle.model.specs.Refusals.{unless}
use Rattle.model.specs.Removal.{remove_call}
use Rattle.model.specs.History.{Action, offering, taking_back}
use Rattle.model.specs.Maps.{empty_map}
use Rattle.model.specs.Saved.{map_in, saved}
use Rattle.replies.specs.Served.{Served}
use Rattle.replies.specs.Opened.{of_file}
use Rattle.replies.specs.Replies.{Offering, from_file, removal_reply}
use Rattle.replies.specs.Chains.{file_after}

-- the bytes of the map of the file s without its last point; where the removal is refused, that file
unfoldable pub file_before : List ℕ → List ℕ
file_before s =
    unless (λ r. s) (of_file s (λ m. (remove_call m).rules))
    (saved (remove_call (map_in s)).value)

unfoldable pub file_acted : List ℕ → Action → List ℕ
file_acted s (offering p) = file_after s p
file_acted s taking_back = file_before s

-- a call that was lent the file s and a list for the next one, and returned this number
pub data Called (s : List ℕ) : Action → List ℕ → List ℕ → ℕ → Type 0 where
  offered : {p : Point} {before after before' after' : List ℕ} {k : ℕ} →
      Offering s p before after before' after' k → Called s (offering p) before after k
  removed : {before after : List ℕ} {k : ℕ} →
      Served (from_file removal_reply s) before after k → Called s taking_back before after k

-- The file that the caller has after some calls, and those that were served. A call that returned 0
-- wrote the next file to the front of the list that it was lent; after any other number, 10 too, the
-- caller goes on with the file that it had.
pub data CallsActed : List ℕ → List Action → Type 0 where
  begun : CallsActed (saved empty_map) []
  served : {s : List ℕ} {acts : List Action} (act : Action) {before after : List ℕ} →
      CallsActed s acts → Called s act before after 0 →
      CallsActed (take (length (file_acted s act)) after) (acts ++ act ∷ [])
  refused : {s : List ℕ} {acts : List Action} (act : Action) {before after : List ℕ} {k : ℕ} →
      CallsActed s acts → Called s act before after k → k ≢ 0 → CallsActed s acts

-- the points that served calls leave: an offer brings its point, a removal takes back the last one
unfoldable pub stands : List Point → Action → List Point
stands ps (offering p) = ps ++ p ∷ []
stands ps taking_back = take (length ps - 1) ps

unfoldable pub standing_from : List Point → List Action → List Point
standing_from ps [] = ps
standing_from ps (act ∷ acts) = standing_from (stands ps act) acts

unfoldable pub standing : List Action → List Point
standing = standing_from []
