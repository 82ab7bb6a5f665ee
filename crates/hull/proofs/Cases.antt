-- What an arrival answers, in the order of this page: by the number of points; where there is an outline, by
-- what is visible. Each law reads from the answer that the code makes to the definition.
use mathlib.Core.Path.{◌≡◌}
use mathlib.Core.Logic.{◌≢◌}
use borrow.Author.Tests.{eq-eqb, ne_eqb}
use Rattle.model.specs.declared.Point.{Point}
use Rattle.model.specs.declared.Map.{Map}
use Rattle.model.specs.declared.Arrival.{Arrival}
use Rattle.model.specs.Outline.{visible_edges}
use Rattle.model.specs.Arrival.{left_corner, right_corner, first_kind, inside_kind, alone, pair, spliced}
use Rattle.model.specs.Arrival.{arrived, later_point, arrive}

module _ (m : Map) (p : Point) where
  pub first : m.count ≡ 0 → arrived Arrival.First (alone first_kind m p) ≡ arrive m p
  unfolding arrive
  first e = rw (eq-eqb m.count 0 e)

  pub second : m.count ≡ 1 → arrived Arrival.Second (pair m p) ≡ arrive m p
  unfolding arrive
  second e = rw e

  pub later : m.count ≢ 0 → m.count ≢ 1 → later_point m p ≡ arrive m p
  unfolding arrive
  later n₀ n₁ = rw (ne_eqb m.count 0 n₀, ne_eqb m.count 1 n₁)

  pub inside : visible_edges m p ≡ 0 → arrived Arrival.Inside (alone inside_kind m p) ≡ later_point m p
  unfolding later_point
  inside e = rw e

  pub outside : visible_edges m p ≢ 0 →
      arrived (Arrival.Outside (left_corner m p) (right_corner m p) (visible_edges m p))
      (spliced m p (left_corner m p) (right_corner m p)) ≡ later_point m p
  unfolding later_point
  outside n = rw (ne_eqb (visible_edges m p) 0 n)
