-- What a mark means by document 01's offers, in the order of this page: a claim that is right, whatever produced it
-- (`right_is_true`); the listing, begun at any corner (`own_listing_right`); a number beyond the points
-- (`beyond_is_wrong`); the first refusal met (`first_refusal_told`). Then what the function answers.
-- Document 02, request 103.
use mathlib.Core.Path.{◌≡◌, refl, sym, ap, ◌∙◌}
use mathlib.Core.Logic.{⊎_elim}
use mathlib.Core.Bool.{Bool, true, false}
use mathlib.Core.List.{List, ◌∷◌, ◌++◌}
use Prim.Native.Nat.{ℕ, ◌/◌, ◌≤◌, ◌<◌}
use native.Mathlib.Omega.{arith}
use lib.Dec.{T, ltb}
use lib.IntN.{ℤ}
use lib.ListN.{length, get_or, take}
use lib.Seq.{get_or-take, length-take-le}
use Rattle.finite.specs.Tests.{is_true, is_false}
use Rattle.std.proofs.lemmas.List.{get_or_past}
use Rattle.finite.specs.Bounded.{lt_or_ge}
use Rattle.finite.specs.Lists.{all_in}
use Rattle.std.specs.Prelude.{⊤}
use Rattle.std.specs.declared.result.Result.{Result}
use Rattle.std.specs.declared.result.Result.TheVariants.{Ok, Err}
use Rattle.model.specs.declared.Refusal.{Refusal}
use Rattle.model.specs.declared.Point.{Point}
use Rattle.model.specs.declared.Map.{Map}
use Rattle.model.specs.Answers.{answer_of}
use Rattle.model.specs.Plane.{origin}
use Rattle.model.specs.Maps.{point_limit, point_in, point, empty_map}
use Rattle.model.specs.Outline.{corners}
use Rattle.model.specs.Offers.{offer}
use Rattle.model.specs.History.{run}
use Rattle.model.specs.Building.{building_rules, built}
use Rattle.model.specs.Marking.{points_of, is_rotation, mark_call}
use Rattle.model.proofs.Answers.{RulesDecide, refuses, serves, unless_decides, unless_none, unless_refuses, outcome_refuses, outcome_serves}
use Rattle.model.proofs.Shape.{place_ranged}
use Rattle.hull.proofs.History.{run_shaped}
use Rattle.hull.proofs.Building.{built_points}
use Rattle.hull.proofs.Runs.{all_accepted, built_is_run, first_refusal_met}
use Rattle.maps.specs.Places.{AllRanged}
use Rattle.marking.specs.Claims.{Holds, PointsTaken, claim_passes}
use Rattle.marking.proofs.Points.{pairs_length}
use Rattle.marking.proofs.Rotations.{claim_below, claim_decides, rotation_parts, rotation_by}

-- "offers from empty are .. all accepted": each is in the history
abbrev pub AllAccepted : List Point → Type 0
AllAccepted ps = length (run ps).history ≡ length ps

-- "the corner listing, begun at any corner"
abbrev pub Listing : List Point → List ℕ → Type 0
Listing ps claim = (u : List ℕ) × (v : List ℕ) × (u ++ v ≡ corners (run ps).map) × (v ++ u ≡ claim)

module _ (ps : List Point) (claim : List ℕ) where
  -- what is asked of the claim, where all offers are accepted
  abbrev asked : Bool
  asked = is_rotation claim (corners (built empty_map ps))

  abbrev mark : Result Bool Refusal
  mark = answer_of (mark_call ps claim)

  served : AllAccepted ps → mark ≡ Ok asked
  served all = unless_none Err (Ok asked) ((all_accepted ps).0 all)

  -- a right mark comes of no refusal, and of no claim that is not the listing
  right_only : (t : Bool) → ◌≡◌ {A = Result Bool Refusal} (Ok t) (Ok true) → T t
  right_only true e = tt
  right_only false e = absurd (let z : ◌≡◌ {A = ℕ} 0 1 = cc in omega arith)

  -- "Whatever produced the claim, a right mark is true": all points are accepted, and the claim is the listing of
  -- their map, begun at some corner
  pub right_is_true : mark ≡ Ok true → AllAccepted ps × Listing ps claim
  right_is_true right = by_rules mark (unless_decides Err (building_rules empty_map ps) _) right
    where
      by_rules : (x : Result Bool Refusal) → RulesDecide Err (building_rules empty_map ps) (Ok asked) x →
          x ≡ Ok true → AllAccepted ps × Listing ps claim
      by_rules x (refuses r first) e = absurd (let z : ◌≡◌ {A = ℕ} 0 1 = cc in omega arith)
      by_rules x (serves free) e = (
        (all_accepted ps).1 free,
        rw (built_is_run ps free) at (rotation_parts claim (corners (built empty_map ps)) (right_only asked e)),
      )

  -- "every claim copied from our own listing is marked right", begun at any corner
  pub own_listing_right : AllAccepted ps → Listing ps claim → mark ≡ Ok true
  own_listing_right all (u, v, whole, turned) =
      let map_is = built_is_run ps ((all_accepted ps).0 all) in
      let right : T asked = rw (map_is, ← whole, ← turned) (rotation_by u v) in
      served all ∙ rw (is_true asked right) refl

  -- "A claim with a number beyond the points is wrong."
  pub beyond_is_wrong : AllAccepted ps → ¬ T (all_in (λ k. ltb k (length ps)) claim) → mark ≡ Ok false
  beyond_is_wrong all beyond =
      let map_is = built_is_run ps ((all_accepted ps).0 all) in
      let m = (run ps).map in
      let wrong : ¬ T asked = λ t.
      beyond
      (rw (ap (λ (n : Map). n.count) (sym map_is) ∙ built_points ps) at
      (claim_below (point m) m.count claim (rw (claim_decides (run_shaped ps) claim, ← map_is) t))) in
      served all ∙ rw (is_false asked wrong) refl

-- "returns the first refusal met": the points before it are accepted, and it is refused, whatever is claimed
pub first_refusal_told : (qs : List Point) (p : Point) (rest : List Point) (claim : List ℕ) (r : Refusal) →
    AllAccepted qs → offer (run qs).map p ≡ Err r →
    answer_of (mark_call (qs ++ p ∷ rest) claim) ≡ Err r
first_refusal_told qs p rest claim r all refusal =
    unless_refuses Err _ (first_refusal_met qs p rest r all refusal)

-- ---- what the function answers

module _ (points : List ℤ) (claim : List ℕ) {outcome : Result ⊤ Refusal} {places : List Point}
    (t : PointsTaken (points_of points) outcome places) where
  abbrev ps : List Point
  ps = points_of points

  pub refusal_answers : (r : Refusal) → outcome ≡ Err r → Err r ≡ answer_of (mark_call ps claim)
  refusal_answers r e = outcome_refuses Err _ (building_rules empty_map ps) r (sym e ∙ t.answer)

  module _ (e : outcome ≡ Ok tt) where
    abbrev held : Holds ps places
    held = t.held e

    abbrev built_map : Map
    built_map = built empty_map ps

    pub place_count : length points / 2 ≤ length places
    place_count =
        let fits : length points / 2 ≤ point_limit =
        rw (built_points ps ∙ pairs_length points) at held.is_sound.links.fits in
        omega (arith, ap length held.places_are, held.is_sound.points.points_whole)

    -- the first places are the map's points, and past them both hold 0, 0
    abbrev taken : List Point
    taken = take (length points / 2) places

    place_is : (k : ℕ) → point_in taken k ≡ point built_map k
    unfolding point
    place_is k =
        ⊎_elim
        (λ (l : k < length points / 2).
        get_or-take (length points / 2) places k origin l ∙ ap (λ (s : List Point). get_or s k origin) held.places_are)
        (λ (h : length points / 2 ≤ k).
        get_or_past taken k origin (rw (length-take-le (length points / 2) places place_count) h)
        ∙ sym (held.is_sound.points.vacant k (omega (arith, built_points ps, pairs_length points))))
        (lt_or_ge k (length points / 2))

    pub places_ranged : AllRanged taken
    places_ranged k = rw (place_is k) (place_ranged held.is_sound k)

    pub test_answers : (r : Bool) → r ≡ claim_passes (point_in taken) (length taken) claim →
        Ok r ≡ answer_of (mark_call ps claim)
    test_answers r found =
        let counted : length taken ≡ built_map.count =
        length-take-le (length points / 2) places place_count ∙ sym (built_points ps ∙ pairs_length points) in
        let decided : r ≡ is_rotation claim (corners built_map) =
        found
        ∙ (λ i. claim_passes (λ k. place_is k i) (counted i) claim)
        ∙ claim_decides held.is_sound claim in
        ap Ok decided
        ∙ outcome_serves Err _ (building_rules empty_map ps) (sym e ∙ t.answer)
