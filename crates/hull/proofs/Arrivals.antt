-- An arrival leaves a sound map. A point that sees no edge of the outline lies beside every edge. One that
-- sees some is put between its left and its right corner: in line beyond one of two corners, the farther
-- one alone is kept; else the visible edges are one run, and the corners outside of it are kept.
-- plane/proofs has the geometry, maps/proofs the links.
-- In the order of this page: inside; outside, beyond one of two corners; outside, with the run of visible
-- edges; outside, both cases; every arrival.
use mathlib.Core.Path.{◌≡◌, ap}
use mathlib.Core.Logic.{◌≢◌, ⊎_elim}
use mathlib.Core.List.{[], ◌∷◌, ◌++◌}
use Prim.Native.Nat.{ℕ, ◌+◌, ◌≤◌, ◌<◌}
use native.Mathlib.Omega.{arith}
use lib.Dec.{T}
use lib.ListN.{length}
use Rattle.std.specs.declared.result.Result.{Result}
use Rattle.std.specs.declared.result.Result.TheVariants.{Ok, Err}
use Rattle.finite.specs.Lists.{elem}
use Rattle.finite.specs.ListLaws.{elem_one, elem_append}
use Rattle.finite.specs.Distinct.{count_in_zero}
use Rattle.model.specs.declared.Point.{Point}
use Rattle.model.specs.declared.Map.{Map}
use Rattle.model.specs.declared.Refusal.{Refusal}
use Rattle.model.specs.declared.Offered.{Offered}
use Rattle.model.specs.Plane.{beside}
use Rattle.model.specs.Maps.{point}
use Rattle.model.specs.Outline.{next_corner, previous_corner, outline, sees, visible_edges}
use Rattle.model.specs.Shape.{Shaped}
use Rattle.model.specs.Arrival.{first_kind, inside_kind, turning_left, turning_right, is_beyond, farther, left_corner, right_corner, spliced, arrive, admission_rules, admitted}
use Rattle.model.specs.Offers.{map_after}
use Rattle.model.proofs.Answers.{RulesDecide, refuses, serves, unless_decides}
use Rattle.plane.proofs.Betweenness.{Between, between_symmetric, beside_between, hidden_beside}
use Rattle.plane.proofs.Convex.{Convex}
use Rattle.plane.proofs.Beyond.{farther_tangent}
use Rattle.plane.proofs.Corners.{left_tangent, right_tangent}
use Rattle.plane.proofs.Split.{Split, remaining, visible_split, split_balance}
use Rattle.maps.proofs.Circuits.{Circuit}
use Rattle.maps.proofs.Outline.{outline_circuit, outline_rotated}
use Rattle.maps.proofs.Alone.{alone_sound}
use Rattle.maps.proofs.Pair.{pair_sound}
use Rattle.maps.proofs.Splice.{Kept}
use Rattle.maps.proofs.Spliced.{spliced_arc, spliced_single, spliced_sound, spliced_beside, spliced_outline}
use Rattle.sight.specs.Requires.{Accepted}
use Rattle.hull.proofs.Outcomes.{accepted_by, Arrives, first, second, inside, outside, arrive_arrives}
use Rattle.sight.proofs.Beyond.{sound_convex, other_point, two_long, few, farther_on, farther_ahead, beyond_visible, left_is, right_is, by_beyond}

module _ {m : Map} {p : Point} (a : Accepted m p) (two : 2 ≤ m.count) where
  abbrev shape : Convex m.count (point m) (next_corner m) (previous_corner m) (outline m)
  shape = sound_convex a.is_sound two

  -- ---- a point that sees no edge

  pub inside_beside : visible_edges m p ≡ 0 → (c : ℕ) → T (elem c (outline m)) →
      T (beside (point m c) (point m (next_corner m c)) p)
  unfolding visible_edges sees
  inside_beside none c on =
      hidden_beside (point m c) (point m (next_corner m c)) p (count_in_zero (sees m p) (outline m) none c on)

  -- ---- a point beyond one of two corners: the farther one is kept

  module _ (beyond : T (is_beyond m p)) where
    abbrev far : ℕ
    far = farther m p

    farther_kept : Kept m (spliced m p far far) far far (far ∷ [])
    farther_kept =
        spliced_single a.is_sound a.room p far (outline m) (outline_circuit a.is_sound two) (farther_on a two beyond)

    pub beyond_outline : outline (spliced m p far far) ≡ m.count ∷ far ∷ []
    beyond_outline = spliced_outline a.is_sound two a.room p far far (far ∷ []) farther_kept

    -- all other points lie between it and p
    between_both : (k : ℕ) → k < m.count → k ≢ far → Between (point m far) p (point m k)
    between_both =
        farther_tangent shape p (few a two beyond) far (farther_on a two beyond) (farther_ahead a two beyond)

    beyond_sound : Shaped (spliced m p far far)
    beyond_sound =
        spliced_sound a.is_sound two a.room p far far (far ∷ []) farther_kept a.ranged a.fresh
        (spliced_beside a.is_sound two a.room p far far (far ∷ []) farther_kept
        (λ c h other. absurd (other (elem_one c far h)))
        (λ k h other. beside_between (point m far) p (point m k) (between_both k h other))
        (λ k h other.
        beside_between p (point m far) (point m k) (between_symmetric (point m far) p (point m k) (between_both k h other))))

  -- ---- a point that sees some edge, and not all

  module _ (not_beyond : ¬ T (is_beyond m p)) (some : visible_edges m p ≢ 0) where
    abbrev l : ℕ
    l = turning_left m p

    abbrev r : ℕ
    r = turning_right m p

    -- the visible edges are one run, from the left corner to the right
    pub split_is : Split (next_corner m) (previous_corner m) (sees m p) (outline m) l r
    unfolding sees
    split_is =
        visible_split shape p (other_point a two) l r (left_is a two not_beyond some) (right_is a two not_beyond some)

    -- the outline from the right corner to the left, and then over the corners within the run
    rotated_circuit : Circuit m (r ∷ split_is.middle ++ l ∷ split_is.inner)
    rotated_circuit = outline_rotated a.is_sound two split_is.front split_is.back _ split_is.cut split_is.rotated

    arc_kept : Kept m (spliced m p l r) l r (remaining split_is)
    arc_kept = spliced_arc a.is_sound a.room p l r split_is.middle split_is.inner rotated_circuit

    pub turning_outline : outline (spliced m p l r) ≡ m.count ∷ remaining split_is
    turning_outline = spliced_outline a.is_sound two a.room p l r (remaining split_is) arc_kept

    hidden_kept : (c : ℕ) → T (elem c (remaining split_is)) → c ≢ l →
        T (beside (point m c) (point m (next_corner m c)) p)
    unfolding sees
    hidden_kept c h other =
        ⊎_elim
        (λ (i : T (elem c (r ∷ split_is.middle))).
        hidden_beside (point m c) (point m (next_corner m c)) p (split_is.hidden c i))
        (λ (i : T (elem c (l ∷ []))). absurd (other (elem_one c l i)))
        (elem_append c (r ∷ split_is.middle) (l ∷ []) h)

    turning_sound : Shaped (spliced m p l r)
    unfolding sees
    turning_sound =
        spliced_sound a.is_sound two a.room p l r (remaining split_is) arc_kept a.ranged a.fresh
        (spliced_beside a.is_sound two a.room p l r (remaining split_is) arc_kept hidden_kept
        (left_tangent shape p (other_point a two) l (left_is a two not_beyond some))
        (right_tangent shape p (other_point a two) r (right_is a two not_beyond some)))

  -- ---- both cases

  module _ (some : visible_edges m p ≢ 0) where
    -- the left and the right corner are corners
    pub corners_on : T (elem (left_corner m p) (outline m)) × T (elem (right_corner m p) (outline m))
    corners_on =
        by_beyond a two (λ l r. T (elem l (outline m)) × T (elem r (outline m)))
        (λ beyond. (farther_on a two beyond, farther_on a two beyond))
        (λ n. ((left_is a two n some).member, (right_is a two n some).member))

    pub outside_sound : Shaped (spliced m p (left_corner m p) (right_corner m p))
    outside_sound = by_beyond a two (λ l r. Shaped (spliced m p l r)) beyond_sound (λ n. turning_sound n some)

    -- the balance of the corners with the visible edges: beyond one of two corners it is 2 + 2
    pub outside_balance :
        visible_edges m p + length (outline (spliced m p (left_corner m p) (right_corner m p))) ≡ length (outline m) + 2
    unfolding visible_edges
    outside_balance =
        by_beyond a two (λ l r. visible_edges m p + length (outline (spliced m p l r)) ≡ length (outline m) + 2)
        (λ beyond. omega (arith, beyond_visible a two beyond, ap length (beyond_outline beyond), two_long a two beyond))
        (λ n. omega (arith, ap length (turning_outline n some), split_balance (split_is n some)))

-- ---- every arrival

pub arrival_sound : (m : Map) (p : Point) → Accepted m p → (o : Offered) → Arrives m p o → Shaped o.map
arrival_sound m p a o (first e) =
    alone_sound first_kind p (omega arith) a.is_sound a.room (λ one. omega arith) a.ranged a.fresh
    (λ two. absurd (omega arith))
arrival_sound m p a o (second e) = pair_sound p a.is_sound e a.ranged a.fresh
arrival_sound m p a o (inside two none) =
    alone_sound inside_kind p (omega arith) a.is_sound a.room (λ one. omega arith) a.ranged a.fresh
    (λ two. inside_beside a two none)
arrival_sound m p a o (outside two some) = outside_sound a two some

pub arrive_sound : {m : Map} {p : Point} → Accepted m p → Shaped (arrive m p).map
arrive_sound {m} {p} a = arrival_sound m p a (arrive m p) (arrive_arrives m p)

-- and a point that is refused leaves the map as it was
pub admitted_sound : (m : Map) (p : Point) → Shaped m → Shaped (map_after m (admitted m p))
unfolding admitted map_after
admitted_sound m p s = decided (admitted m p) (unless_decides Err (admission_rules m p) (Ok (arrive m p)))
  where
    decided : (o : Result Offered Refusal) → RulesDecide Err (admission_rules m p) (Ok (arrive m p)) o →
        Shaped (map_after m o)
    decided o (refuses q by_rule) = s
    decided o (serves free) = arrive_sound (accepted_by p s free)
