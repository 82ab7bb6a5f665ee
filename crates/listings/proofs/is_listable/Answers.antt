-- `listings::is_listable` meets its contract: the conjunction of its tests.
use Rattle.std.proofs.Common.{◌≡◌, sym, ap, ◌∙◌, ◌<◌, ◌⊎◌, ⊎_elim, ◌&&◌, Bool, arith, List, ℕ, length, take}
use native.Mathlib.Nat.{sub-zero}
use Rattle.model.specs.declared.Point.{Point}
use Rattle.model.specs.Maps.{point_limit}
use Rattle.listings.specs.Listings.{turns_at}
use Rattle.listings.proofs.Listed.{front_ranged, front_held, few_points, many_points}
use Rattle.listings.proofs.is_listable.Goals as goal
use Rattle.listings.proofs.is_listable.Goals.{In-Some}

-- the points that are asked
asked : (c : In-Some) → c.in-Some.corners.now ≡ take c.args.n c.args.points.now
asked c = c.in-Some.ensures.lookup.0.2 ∙ ap (λ (k : ℕ). take k c.args.points.now) (sub-zero c.args.n)

pub invariant_of-turn_left : goal.invariant_of-turn_left
invariant_of-turn_left c =
    let a = c.args in
    let here = (goal.at.invariant_of-turn_left c).In-Some in
    record { ranged = rw (asked here) (front_held a.points.now a.n c.in-Some.ensures.lookup.0.1 c.requires) }

pub returns-then-lowest_is_first : goal.returns-then-lowest_is_first
returns-then-lowest_is_first c =
    let a = c.args in
    let here = (goal.at.returns-then-lowest_is_first c).In-Some in
    let fits = c.in-Some.ensures.lookup.0.1 in
    let ranged = front_ranged a.points.now a.n fits c.requires in
    c.turn_left.ensures
    ∙ sym (ap (λ (t : Bool). t && turns_at c.in-Some.corners.now)
    (sym c.lowest_is_first.ensures ∙ c.if-lowest_is_first.true))
    ∙ few_points a.points.now c.in-Some.corners.now a.n c.told-points fits (asked here) (rw (asked here) ranged)

pub returns-else-lowest_is_first : goal.returns-else-lowest_is_first
returns-else-lowest_is_first c =
    let a = c.args in
    let here = (goal.at.returns-else-lowest_is_first c).In-Some in
    let fits = c.in-Some.ensures.lookup.0.1 in
    let ranged = front_ranged a.points.now a.n fits c.requires in
    c.if-lowest_is_first.false
    ∙ sym (ap (λ (t : Bool). t && turns_at c.in-Some.corners.now)
    (sym c.lowest_is_first.ensures ∙ c.if-lowest_is_first.false))
    ∙ few_points a.points.now c.in-Some.corners.now a.n c.told-points fits (asked here) (rw (asked here) ranged)

past : (s : List Point) (n : ℕ) → length s ≡ point_limit → (n < 0) ⊎ (length s < n) → point_limit < n
past s n long e = ⊎_elim (λ h. absurd (omega arith)) (λ h. omega arith) e

pub returns-in-None : goal.returns-in-None
returns-in-None c =
    let a = c.args in
    many_points _ a.n (past a.points.now a.n c.told-points c.in-None.ensures.lookup.0)
