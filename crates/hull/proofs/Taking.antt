-- A loop that offers points one after another and tells them apart by their hashes, in the order of this page: how
-- far it has come, with the map that it has built (`Taking`); its start; a point that is refused, and one that is
-- accepted; its end.
use mathlib.Core.Path.{◌≡◌, refl, sym, ap, subst, ◌∙◌}
use mathlib.Core.List.{List, [], ◌∷◌}
use Prim.Native.Nat.{ℕ, suc, ◌+◌, ◌≤◌, ◌<◌}
use native.Mathlib.Numerals.{add-one}
use native.Mathlib.Omega.{arith}
use lib.ListN.{length, get_or, take, drop, drop_of_length-le}
use lib.Seq.{drop-cons}
use Rattle.std.specs.declared.result.Result.{Result}
use Rattle.std.specs.declared.result.Result.TheVariants.{Ok, Err}
use Rattle.model.specs.declared.Refusal.{Refusal}
use Rattle.model.specs.declared.Point.{Point}
use Rattle.model.specs.declared.Ranged.{Ranged}
use Rattle.model.specs.declared.Map.{Map}
use Rattle.model.specs.Refusals.{unless}
use Rattle.model.specs.Answers.{outcome_by}
use Rattle.model.specs.Plane.{origin}
use Rattle.model.specs.Maps.{point_limit, empty_map}
use Rattle.model.specs.Shape.{Shaped}
use Rattle.model.specs.Arrival.{arrive, admission_rules}
use Rattle.model.specs.Building.{building_rules, built}
use Rattle.model.proofs.Answers.{unless_append, outcome_refuses, outcome_serves}
use Rattle.maps.proofs.Empty.{empty_sound}
use Rattle.admission.specs.declared.hashes.Hashes.{Hashes}
use Rattle.admission.specs.Admission.{Admitted, admission_by}
use Rattle.admission.specs.Hashes.{hash_count, with_hash, AllHashed}
use Rattle.admission.proofs.Hashing.{none_hashed}
use Rattle.sight.specs.Requires.{Accepted}
use Rattle.hull.proofs.Arrivals.{arrive_sound}
use Rattle.hull.proofs.Building.{arrive_count}
use Rattle.hull.proofs.Admissions.{admission_is, admission_accepted, hashed_more}

-- k points were accepted, and built the map m, whose points have their hashes set: the others, offered to it, decide
pub record Taking (ps : List Point) (k : ℕ) (m : Map) (hashes : Hashes) : Type 0 where
  pub is_sound : Shaped m
  pub counted : m.count ≡ k
  pub all_hashed : AllHashed (take m.count m.points) hashes
  outcome : outcome_by (building_rules m (drop k ps)) ≡ outcome_by (building_rules empty_map ps)
  map_is : built m (drop k ps) ≡ built empty_map ps

pub none_taken : (ps : List Point) {hashes : Hashes} → hash_count ≡ length hashes.set → Taking ps 0 empty_map hashes
unfolding empty_map
none_taken ps whole =
    record {
      is_sound = empty_sound;
      counted = refl;
      all_hashed = none_hashed whole;
      outcome = refl;
      map_is = refl;
    }

-- an iteration in which point k is asked for, and what the code found for it
pub record Asked (ps : List Point) (k : ℕ) (m : Map) (hashes : Hashes) (p : Point) (r : Result Ranged Refusal) : Type 0 where
  pub taking : Taking ps k m hashes
  pub within : k < length ps
  pub point_is : p ≡ get_or ps k origin
  pub found : Admitted (take m.count m.points) p r

module _ {ps : List Point} {k : ℕ} {m : Map} {hashes : Hashes} {p : Point} {r : Result Ranged Refusal}
    (a : Asked ps k m hashes p r) where
  abbrev later : List Point
  later = drop (suc k) ps

  ahead : drop k ps ≡ p ∷ later
  ahead = drop-cons ps k origin a.within ∙ ap (λ (q : Point). q ∷ later) (sym a.point_is)

  -- its own rules, and then those of the points after it
  rules_ahead : unless Err (admission_rules m p) (outcome_by (building_rules (arrive m p).map later))
      ≡ outcome_by (building_rules empty_map ps)
  unfolding building_rules
  rules_ahead =
      sym (unless_append Err (admission_rules m p) (building_rules (arrive m p).map later) (Ok tt))
      ∙ ap (λ (s : List Point). outcome_by (building_rules m s)) (sym ahead)
      ∙ a.taking.outcome

  of_map : admission_by (take m.count m.points) p ≡ outcome_by (admission_rules m p)
  of_map = admission_is a.taking.is_sound p

  -- what was found for it, by what the answer is
  found_is : {answer : Result Ranged Refusal} → r ≡ answer → Admitted (take m.count m.points) p answer
  found_is e = subst (Admitted (take m.count m.points) p) e a.found

  pub one_refused : (refusal : Refusal) → r ≡ Err refusal → Err refusal ≡ outcome_by (building_rules empty_map ps)
  one_refused refusal e =
      outcome_refuses Err (outcome_by (building_rules (arrive m p).map later)) (admission_rules m p) refusal
      (found_is e ∙ of_map)
      ∙ rules_ahead

  module _ {q : Ranged} (e : r ≡ Ok q) where
    pub point_same : q.point ≡ p
    point_same = (found_is e).0

    accepted : Accepted m p
    accepted = admission_accepted a.taking.is_sound p (found_is e).1

    pub one_accepted : Accepted m q.point
    one_accepted = rw point_same accepted

    pub place_free : k < point_limit
    place_free = omega (arith, a.taking.counted, accepted.room)

    pub one_taken : Taking ps (k + 1) (arrive m q.point).map (with_hash hashes q.point)
    unfolding built
    one_taken =
        let t = a.taking in
        rw (add-one k, point_same)
        (record {
          is_sound = arrive_sound accepted;
          counted = arrive_count m p ∙ ap suc t.counted;
          all_hashed = hashed_more accepted t.all_hashed;
          outcome =
              outcome_serves Err (outcome_by (building_rules (arrive m p).map later)) (admission_rules m p)
              ((found_is e).1 ∙ of_map)
              ∙ rules_ahead;
          map_is = ap (built m) (sym ahead) ∙ t.map_is;
        })

-- all were accepted, and the map is the one that they build
module _ {ps : List Point} {k : ℕ} {m : Map} {hashes : Hashes} (t : Taking ps k m hashes) (done : length ps ≤ k) where
  none_ahead : drop k ps ≡ []
  none_ahead = drop_of_length-le ps done

  pub all_served : Ok tt ≡ outcome_by (building_rules empty_map ps)
  unfolding unless building_rules
  all_served = ap (λ (s : List Point). outcome_by (building_rules m s)) (sym none_ahead) ∙ t.outcome

  pub all_built : m ≡ built empty_map ps
  unfolding built
  all_built = sym (ap (built m) none_ahead) ∙ t.map_is
