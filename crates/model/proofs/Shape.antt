-- Laws of shaped maps, in the order of this page: equal points, as a test and as an equation; every place is in
-- range; a present dart lies below the bound; a dart that is moved is present.
use mathlib.Core.Path.{◌≡◌, sym, ap, subst}
use mathlib.Core.Logic.{◌≢◌, ⊎_elim}
use mathlib.Core.Bool.{◌||◌}
use Prim.Native.Nat.{ℕ, ◌<◌}
use native.Mathlib.Omega.{arith}
use lib.Dec.{T, T_not, ltb, ltb→lt}
use Rattle.integers.specs.Order.{eq_z, eq_z_true, eq_eq_z}
use Rattle.finite.specs.Tests.{and_left, and_right, and_both, decide, is_true, of_true}
use Rattle.finite.specs.Bounded.{lt_or_ge}
use Rattle.model.specs.declared.Point.{Point}
use Rattle.model.specs.declared.Map.{Map}
use Rattle.model.specs.Plane.{coordinate_in_range, in_range, same_point}
use Rattle.model.specs.Maps.{owner, is_own, point, has_helper, is_present, edge_link, dart_bound}
use Rattle.model.specs.Shape.{Shaped}

-- equal points, as a test and as an equation
pub same_point_eq : (p q : Point) → T (same_point p q) → p ≡ q
unfolding same_point
same_point_eq p q t =
    let ex : p.x ≡ q.x = eq_z_true _ _ (is_true _ (and_left (eq_z p.x q.x) (eq_z p.y q.y) t)) in
    let ey : p.y ≡ q.y = eq_z_true _ _ (is_true _ (and_right (eq_z p.x q.x) (eq_z p.y q.y) t)) in
    λ i. record { x = ex i; y = ey i }

pub same_point_by : (p q : Point) → p ≡ q → T (same_point p q)
unfolding same_point
same_point_by p q e =
    and_both (eq_z p.x q.x) (eq_z p.y q.y)
    (of_true _ (eq_eq_z (ap (λ (r : Point). r.x) e)))
    (of_true _ (eq_eq_z (ap (λ (r : Point). r.y) e)))

-- the points of a sound map are in range, and so is a place without a point, which holds 0, 0
pub place_ranged : {m : Map} → Shaped m → (k : ℕ) → T (in_range (point m k))
unfolding in_range coordinate_in_range
place_ranged {m} s k =
    ⊎_elim (s.points.ranged k) (λ l. subst (λ p. T (in_range p)) (sym (s.points.vacant k l)) tt)
    (lt_or_ge k m.count)

-- a present dart belongs to a point, so it lies below the bound
pub present_below : (m : Map) (d : ℕ) → T (is_present m d) → d < dart_bound m
unfolding is_present
present_below m d t =
    let h = ltb→lt (owner d) m.count (and_left (ltb (owner d) m.count) (is_own d || has_helper m (owner d)) t) in
    omega arith

-- where the edge link leaves absent darts alone, a dart that it moves is present
pub moved_present : (m : Map) → ((d : ℕ) → ¬ T (is_present m d) → edge_link m d ≡ d) →
    (d : ℕ) → edge_link m d ≢ d → T (is_present m d)
moved_present m absent d moves =
    ⊎_elim (λ p. p) (λ p. absurd (moves (absent d (T_not (is_present m d) p))))
    (decide (is_present m d))
