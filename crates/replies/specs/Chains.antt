-- Calls of `reach_offer` from the empty map's file on, in the order of this page: the file that one
-- offer leaves; calls one after another, whatever number each of them returned.
-- Document 01: "A refused offer, whatever its number, leaves the map as it was for the next one."
-- That the file which the caller has is that of the map of a run is `calls_run` of proofs/Chains.
use Rattle.std.specs.Prelude.{◌≢◌, List, [], ◌∷◌, ◌++◌, ℕ, length, take}
use Rattle.model.specs.declared.Point.{Point}
use Rattle.model.specs.Refusals.{unless}
use Rattle.model.specs.Offers.{offer_call}
use Rattle.model.specs.Maps.{empty_map}
use Rattle.model.specs.Saved.{map_in, saved}
use Rattle.replies.specs.Opened.{of_file}
use Rattle.replies.specs.Replies.{Offering}

-- the bytes of the map after p is offered to the map of the file s; where the point is refused, that
-- file
unfoldable pub file_after : List ℕ → Point → List ℕ
file_after s p =
    unless (λ r. s) (of_file s (λ m. (offer_call m p).rules))
    (saved (offer_call (map_in s) p).value.map)

-- The file that the caller has after some calls, and the points of those that were served. A call that
-- returned 0 wrote the next file to the front of the list that it was lent; after any other number, 10
-- too, the caller goes on with the file that it had.
pub data Calls : List ℕ → List Point → Type 0 where
  begun : Calls (saved empty_map) []
  served : {s : List ℕ} {ps : List Point} (p : Point) {before after before' after' : List ℕ} →
      Calls s ps → Offering s p before after before' after' 0 →
      Calls (take (length (file_after s p)) after) (ps ++ p ∷ [])
  refused : {s : List ℕ} {ps : List Point} (p : Point) {before after before' after' : List ℕ} {k : ℕ} →
      Calls s ps → Offering s p before after before' after' k → k ≢ 0 → Calls s ps
