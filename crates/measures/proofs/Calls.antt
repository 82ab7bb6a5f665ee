-- What the function answers, in the order of this page: fewer than three points; a place that no corner has; the
-- fan from the corner at a place, which is within its limit, and its sum.
use mathlib.Core.Path.{◌≡◌, sym, ap, subst, ◌∙◌}
use mathlib.Core.List.{List, map}
use Prim.Native.Nat.{ℕ, ◌≤◌, ◌<◌}
use native.Mathlib.Omega.{arith}
use lib.Dec.{T}
use lib.IntN.{ℤ, pos}
use lib.ListN.{length, get_or}
use lib.Signed.{◌≤ℤ◌}
use borrow.Author.Tests.{le-ltb, lt-ltb, le-leb, lt-leb}
use Rattle.finite.specs.Lists.{elem}
use Rattle.finite.specs.Cycles.{Cycle}
use Rattle.std.specs.declared.result.Result.TheVariants.{Ok, Err}
use Rattle.model.specs.declared.Refusal.{Refusal}
use Rattle.model.specs.declared.Point.{Point}
use Rattle.model.specs.declared.Map.{Map}
use Rattle.model.specs.Refusals.{unless}
use Rattle.model.specs.Answers.{answer_of}
use Rattle.model.specs.Plane.{origin, orientation}
use Rattle.model.specs.Maps.{point}
use Rattle.model.specs.Outline.{corners}
use Rattle.model.specs.Outlines.{corner_points}
use Rattle.model.specs.Shape.{Shaped}
use Rattle.model.specs.Area.{fan, area_from, doubled_area, area_limit}
use Rattle.plane.proofs.Fan.{fan_fixed}
use Rattle.plane.proofs.Convex.{fan_terms}
use Rattle.corners.proofs.Listings.{elem_at}
use Rattle.measures.specs.Areas.{sound_area_call, Fanned}
use Rattle.measures.proofs.Areas.{listed_convex, listed_limit}

module _ (m : Map) (place : ℕ) where
  pub few_served : m.count < 3 → Ok (pos 0) ≡ answer_of (sound_area_call m place)
  unfolding unless doubled_area
  few_served few = rw (lt-leb 3 m.count few, lt-ltb m.count 3 few)

  -- where the corners are listed
  module _ {listing : List ℕ} (are : listing ≡ corners m) (three : 3 ≤ m.count) where
    pub place_refused : length listing ≤ place → Err Refusal.NoDart ≡ answer_of (sound_area_call m place)
    unfolding unless
    place_refused h =
        rw (le-leb 3 m.count three, le-ltb place (length (corners m)) (omega (arith, ap length are)))

    -- the fan from any point, by `fan_fixed`
    pub place_served : (q : Point) (z : ℤ) → place < length listing → z ≡ fan q (map (point m) listing) →
        Ok z ≡ answer_of (sound_area_call m place)
    unfolding unless doubled_area area_from corner_points
    place_served q z h e =
        rw
        (le-leb 3 m.count three, lt-ltb place (length (corners m)) (omega (arith, ap length are)), le-ltb m.count 3 three)
        (ap Ok
        (e
        ∙ (ap (λ (s : List ℕ). fan q (map (point m) s)) are
        ∙ fan_fixed (get_or (corner_points m) place origin) q (corner_points m))))

    -- no triangle from a corner is negative, and all of them are within the limit
    pub fan_fits : Shaped m → (q : Point) → place < length listing → q ≡ point m (get_or listing place 0) →
        Fanned m listing q
    fan_fits s q h e =
        let two : 2 ≤ m.count = omega arith in
        let C = listed_convex s two in
        let c = get_or listing place 0 in
        let on : T (elem c (corners m)) =
        subst (λ (t : List ℕ). T (elem c t)) are (elem_at listing place 0 h) in
        let points : map (point m) (corners m) ≡ map (point m) listing = ap (map (point m)) (sym are) in
        record {
          some = omega arith;
          terms =
              rw e
              (subst (Cycle (λ a b. pos 0 ≤ℤ orientation (point m c) a b)) points (fan_terms C c (C.below c on)));
          limit = subst (λ (t : List Point). fan q t ≤ℤ pos area_limit) points (listed_limit s two q);
        }
