-- From what the points of a sound map say of a point to the offer, in the order of this page: a point that is
-- refused; one that is accepted; the hashes of a map with one point more; the numbers that an outside arrival
-- reports are small.
use mathlib.Core.Path.{◌≡◌, sym, ap, ◌∙◌}
use mathlib.Core.Bool.{Bool, true, false, not, cond}
use mathlib.Core.List.{[]}
use Prim.Native.Nat.{◌≤◌, ◌<◌}
use native.Mathlib.Omega.{arith}
use lib.Dec.{T, ltb}
use lib.ListN.{length, take}
use Rattle.std.proofs.lemmas.List.{get_or-take, length-take-le}
use Rattle.std.specs.declared.result.Result.TheVariants.{Ok, Err}
use Rattle.finite.specs.Tests.{is_true}
use Rattle.finite.specs.Distinct.{count_in_most}
use Rattle.finite.specs.Rings.{ring_most}
use Rattle.model.specs.declared.Refusal.{Refusal}
use Rattle.model.specs.declared.Point.{Point}
use Rattle.model.specs.declared.Map.{Map}
use Rattle.model.specs.Answers.{outcome_by}
use Rattle.model.specs.Plane.{origin}
use Rattle.model.specs.Maps.{point_limit, owner, point}
use Rattle.model.specs.Shape.{Shaped}
use Rattle.model.specs.Sound.{sound}
use Rattle.model.specs.Outline.{next_corner, outline, corners_from, visible_edges, sees}
use Rattle.model.specs.Reading.{unsound}
use Rattle.model.specs.Arrival.{arrive, admission_rules, admitted, left_corner, right_corner}
use Rattle.model.specs.Offers.{offer}
use Rattle.model.proofs.Answers.{rule_passes, outcome_refuses, outcome_serves, served_none}
use Rattle.admission.specs.declared.hashes.Hashes.{Hashes}
use Rattle.admission.specs.Admission.{admission_by}
use Rattle.admission.specs.Hashes.{with_hash, AllHashed}
use Rattle.admission.proofs.Rules.{rules_by_points}
use Rattle.admission.proofs.Hashing.{one_hashed}
use Rattle.sight.specs.Requires.{Accepted}
use Rattle.sight.proofs.Indices.{spliceable}
use Rattle.hull.proofs.Outcomes.{accepted_by}
use Rattle.hull.proofs.Arrivals.{arrive_sound}
use Rattle.hull.proofs.Building.{arrive_count, arrive_points}
use Rattle.hull.proofs.Sound.{sound_shaped}

not_sound : (m : Map) → T (sound m) → not (sound m) ≡ false
not_sound m s = ap not (is_true (sound m) s)

-- the points that a map has stand in its array
pub points_held : {m : Map} → Shaped m → m.count ≤ length m.points
points_held s = omega (arith, s.links.fits, s.points.points_whole)

-- the rules by those points are the map's
pub admission_is : {m : Map} → Shaped m → (p : Point) →
    admission_by (take m.count m.points) p ≡ outcome_by (admission_rules m p)
unfolding admission_by
admission_is {m} s p = ap outcome_by (rules_by_points m p (points_held s))

module _ (m : Map) (s : T (sound m)) (p : Point) where
  pub admission_refused : (r : Refusal) → Err r ≡ admission_by (take m.count m.points) p → offer m p ≡ Err r
  unfolding offer
  admission_refused r e =
      sym (rule_passes Err (unsound m) (admission_rules m p) (Ok (arrive m p)) (not_sound m s)
      (outcome_refuses Err (Ok (arrive m p)) (admission_rules m p) r (e ∙ admission_is (sound_shaped m s) p)))

  pub admission_served : Ok tt ≡ admission_by (take m.count m.points) p → offer m p ≡ Ok (arrive m p)
  unfolding offer
  admission_served e =
      sym (rule_passes Err (unsound m) (admission_rules m p) (Ok (arrive m p)) (not_sound m s)
      (outcome_serves Err (Ok (arrive m p)) (admission_rules m p) (e ∙ admission_is (sound_shaped m s) p)))

module _ {m : Map} (s : Shaped m) (p : Point) where
  -- a point that is not refused is accepted
  pub admission_accepted : Ok tt ≡ admission_by (take m.count m.points) p → Accepted m p
  admission_accepted e = accepted_by p s (served_none (admission_rules m p) (e ∙ admission_is s p))

  -- what a shaped map answers
  pub admitted_refused : (r : Refusal) → Err r ≡ admission_by (take m.count m.points) p → Err r ≡ admitted m p
  unfolding admitted
  admitted_refused r e = outcome_refuses Err (Ok (arrive m p)) (admission_rules m p) r (e ∙ admission_is s p)

  pub admitted_served : Ok tt ≡ admission_by (take m.count m.points) p → Ok (arrive m p) ≡ admitted m p
  unfolding admitted
  admitted_served e = outcome_serves Err (Ok (arrive m p)) (admission_rules m p) (e ∙ admission_is s p)

-- ---- the hashes of a map with one point more

pub hashed_more : {m : Map} {p : Point} {hashes : Hashes} → Accepted m p → AllHashed (take m.count m.points) hashes →
    AllHashed (take (arrive m p).map.count (arrive m p).map.points) (with_hash hashes p)
unfolding point
hashed_more {m} {p} a all =
    let new = (arrive m p).map in
    let put = arrive_points a in
    let long = length-take-le m.count m.points (points_held a.is_sound) in
    let longer = length-take-le new.count new.points (points_held (arrive_sound a)) in
    one_hashed p all (omega (arith, arrive_count m p))
    (λ k h.
    get_or-take new.count new.points k origin (omega (arith, arrive_count m p))
    ∙ (put.0 k (omega arith) ∙ sym (get_or-take m.count m.points k origin (omega arith))))
    (rw long (get_or-take new.count new.points m.count origin (omega (arith, arrive_count m p)) ∙ put.1))

-- ---- how large the numbers are that an arrival reports

pub outline_most : (m : Map) → length (outline m) ≤ m.count
unfolding outline corners_from
outline_most m =
    go (ltb m.count 2)
    (ring_most (next_corner m) (owner m.reference) m.count (owner m.reference))
  where
    go : (b : Bool) → length (corners_from m (owner m.reference)) ≤ m.count →
        length (cond b [] (corners_from m (owner m.reference))) ≤ m.count
    go true h = omega arith
    go false h = h

pub visible_most : (m : Map) (p : Point) → visible_edges m p ≤ m.count
unfolding visible_edges
visible_most m p = omega (arith, count_in_most (sees m p) (outline m), outline_most m)

pub corners_below : {m : Map} {p : Point} → Accepted m p → 2 ≤ m.count →
    (left_corner m p < point_limit) × (right_corner m p < point_limit)
corners_below a two = let s = spliceable a two in (s.linked.left_below, s.linked.right_below)
