-- A list of offers from the empty map, in the order of this page: the history and the run; a list of offers
-- and removals; what its arrivals add up to; every claim of demand 3 about a run, as one record.
-- Document 01, "The oral part, word by word", and document 02, requests 106 and 108. `(acts : List Action)
-- → Balanced (performed acts)` is demand 3, of which `(ps : List Point) → Balanced (run ps)` is the part
-- without removals.
use Rattle.std.specs.Prelude.{◌≡◌, ◌↔◌, ◌≢◌, Bool, true, false, List, [], ◌∷◌, ◌++◌, map, ℕ, ◌+◌, ◌*◌, ◌-◌, ◌≤◌, ◌<◌, T, length, take}
use Rattle.std.specs.declared.result.Result.{Result}
use Rattle.std.specs.declared.result.Result.TheVariants.{Ok, Err}
use Rattle.finite.specs.Bounded.{table}
use Rattle.finite.specs.Lists.{elem, distinct, count_in, total}
use Rattle.orbits.specs.Classes.{is_closed, closed_walks}
use Rattle.orbits.specs.Reach.{Reach, by_two}
use Rattle.model.specs.declared.Kind.{Kind}
use Rattle.model.specs.declared.Point.{Point}
use Rattle.model.specs.declared.Map.{Map}
use Rattle.model.specs.declared.Arrival.{Arrival}
use Rattle.model.specs.declared.Offered.{Offered}
use Rattle.model.specs.declared.Refusal.{Refusal}
use Rattle.model.specs.Plane.{left_of, beside}
use Rattle.model.specs.Maps.{own, helper, is_own, point, is_present, edge_link, point_link, dart_bound, empty_map}
use Rattle.model.specs.Outline.{next_corner, outline, visible_edges}
use Rattle.model.specs.Reading.{darts, number_of}
use Rattle.model.specs.Offers.{offer}
use Rattle.model.specs.Removal.{remove}

-- an accepted offer: the map before it, the point and the answer
pub record Entry : Type 0 where
  pub before : Map
  pub offered : Point
  pub arrival : Arrival

-- "The history is the list of accepted offers in order, each with its answer."
pub record Run : Type 0 where
  pub map : Map
  pub history : List Entry

-- "A refused offer adds nothing to it", and the map stays; an accepted one adds its entry, and the map goes
-- on as `offer` gives it.
unfoldable pub extended_by : Run → Point → Result Offered Refusal → Run
extended_by r p (Ok o) =
    let entry : Entry = record { before = r.map; offered = p; arrival = o.arrival } in
    record { map = o.map; history = r.history ++ entry ∷ [] }
extended_by r p (Err x) = r

unfoldable pub extended : Run → Point → Run
extended r p = extended_by r p (offer r.map p)

unfoldable pub run_from : Run → List Point → Run
run_from r [] = r
run_from r (p ∷ ps) = run_from (extended r p) ps

-- "It starts from the empty map"
unfoldable pub run : List Point → Run
run = run_from (record { map = empty_map; history = [] })

-- "Demand 3's lists may now hold removals among the offers"
pub data Action : Type 0 where
  offering : Point → Action
  taking_back : Action

-- "its histories .. leave out arrivals taken back". The map goes on as `remove` gives it, or stays.
unfoldable pub taken_back_by : Run → Result Map Refusal → Run
taken_back_by r (Ok m) = record { map = m; history = take (length r.history - 1) r.history }
taken_back_by r (Err x) = r

unfoldable pub taken_back : Run → Run
taken_back r = taken_back_by r (remove r.map)

unfoldable pub acted : Run → Action → Run
acted r (offering p) = extended r p
acted r taking_back = taken_back r

-- "each call getting the map that the one before it returned or left"
unfoldable pub performed_from : Run → List Action → Run
performed_from r [] = r
performed_from r (act ∷ acts) = performed_from (acted r act) acts

unfoldable pub performed : List Action → Run
performed = performed_from (record { map = empty_map; history = [] })

-- what an entry adds: its point; the visible edges that its arrival reported; those that are seen
-- in the map before it; 1 where it is an outside arrival
unfoldable pub offered_point : Entry → Point
offered_point e = e.offered

unfoldable pub reported : Arrival → ℕ
reported Arrival.First = 0
reported Arrival.Second = 0
reported Arrival.Inside = 0
reported (Arrival.Outside l r v) = v

unfoldable pub reported_edges : Entry → ℕ
reported_edges e = reported e.arrival

unfoldable pub edges_seen : Entry → ℕ
edges_seen e = visible_edges e.before e.offered

unfoldable pub is_outside : Arrival → Bool
is_outside Arrival.First = false
is_outside Arrival.Second = false
is_outside Arrival.Inside = false
is_outside (Arrival.Outside l r v) = true

unfoldable pub outside_arrivals : List Entry → ℕ
outside_arrivals = count_in (λ e. is_outside e.arrival)

-- the claims of demand 3
pub record Balanced (r : Run) : Type 0 where
  -- "A link undoes itself when, taken twice from any dart, it comes back to that dart."
  pub edge_undoes_itself : (d : ℕ) → edge_link r.map (edge_link r.map d) ≡ d
  pub point_undoes_itself : (d : ℕ) → point_link r.map (point_link r.map d) ≡ d
  -- "The history's points are the accepted points, numbered from 0 in that order, and they are the
  -- map's points."
  pub same_points : map offered_point r.history ≡ table r.map.count (point r.map)
  -- vertices + edges + faces - darts = 2 × parts
  pub counts_balance :
      number_of r.map Kind.Vertex + number_of r.map Kind.Edge + number_of r.map Kind.Face ≡
      darts r.map + 2 * number_of r.map Kind.Part
  -- "One closed walk means that just one exists, and it is the outline": the reference is a present own
  -- dart, and its connected part is closed
  pub one_closed_walk :
      2 ≤ r.map.count →
      closed_walks (edge_link r.map) (point_link r.map) (dart_bound r.map) (is_present r.map) ≡ 1
  pub reference_own : 2 ≤ r.map.count → T (is_own r.map.reference)
  pub reference_present : 2 ≤ r.map.count → T (is_present r.map r.map.reference)
  pub outline_is_it :
      2 ≤ r.map.count →
      T (is_closed (edge_link r.map) (point_link r.map) (dart_bound r.map) r.map.reference)
  -- "The corners are the points whose own darts lie on it": no number stands in the outline that is no
  -- point, and each corner stands there just once, so that its length is the number of corners
  pub corners_on_it :
      2 ≤ r.map.count → (k : ℕ) →
      T (elem k (outline r.map)) ↔
      ((k < r.map.count) × Reach (by_two (edge_link r.map) (point_link r.map)) r.map.reference (own k))
  pub corners_distinct : T (distinct (outline r.map))
  -- the edge from a corner to the next one, which is a corner too, links the own dart of the first with
  -- the helper of the other
  pub next_is_corner :
      (a : ℕ) → T (elem a (outline r.map)) → T (elem (next_corner r.map a) (outline r.map))
  pub edge_to_next :
      (a : ℕ) → T (elem a (outline r.map)) →
      edge_link r.map (own a) ≡ helper (next_corner r.map a)
  -- "left of each outline edge or on it": every point but the two ends of the edge
  pub others_beside :
      (a c : ℕ) → T (elem a (outline r.map)) → c < r.map.count → c ≢ a → c ≢ next_corner r.map a →
      T (beside (point r.map a) (point r.map (next_corner r.map a)) (point r.map c))
  -- "three or more corners still turn strictly left": at the corner between a and the one after the next
  pub corners_turn_left :
      3 ≤ length (outline r.map) → (a : ℕ) → T (elem a (outline r.map)) →
      T (left_of (point r.map a) (point r.map (next_corner r.map a))
      (point r.map (next_corner r.map (next_corner r.map a))))
  -- "Each adds the number of visible edges it reported, which is the number of outline edges visible
  -- from its point in the map before it. Other arrivals add none."
  pub reports_right : map reported_edges r.history ≡ map edges_seen r.history
  -- visible edges reported + corners = 2 × outside arrivals + 2
  pub arrivals_balance :
      2 ≤ r.map.count →
      total (map reported_edges r.history) + length (outline r.map) ≡
      2 * outside_arrivals r.history + 2
