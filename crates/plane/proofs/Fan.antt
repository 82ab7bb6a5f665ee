-- The fan of a closed list of points seen from a base q is the sum of the orientations (q, a, b) over its
-- edges a to b; half of it is the area that the list goes round. In the order of this page: terms that differ
-- from these by g b - g a have the same sum, since round the list that comes to nothing; the terms from another
-- base are such, so the fan does not depend on q; a list cut in two, and begun at any of its points; a fan from
-- its own first point; fewer than three points; its sign, from the signs of its terms.
use mathlib.Core.Path.{◌≡◌, refl, sym, ap, ap₂, ◌∙◌}
use mathlib.Core.List.{List, [], ◌∷◌, ◌++◌, append_assoc, append-nil}
use Prim.Native.Nat.{◌<◌}
use native.Mathlib.Omega.{arith}
use lib.IntN.{ℤ, pos, ◌+ℤ◌, ◌-ℤ◌, +ℤ_idl, +ℤ_idr, +ℤ_assoc, +ℤ_comm}
use lib.ListN.{length}
use lib.Signed.{◌<ℤ◌, ◌≤ℤ◌, ≤ℤ_refl}
use Rattle.integers.specs.Order.{order, +ℤ_splits}
use Rattle.integers.specs.Sign.{sum_nonneg, sum_pos_left, sum_pos_right}
use Rattle.integers.specs.Solver.{con, ◌⊕◌, ◌⊖◌, ◌≐◌}
use Rattle.integers.proofs.Solver.{identity}
use Rattle.finite.specs.Cycles.{Chain, Cycle}
use Rattle.model.specs.declared.Point.{Point}
use Rattle.model.specs.Plane.{orientation}
use Rattle.model.specs.Area.{path_sum, fan}
use Rattle.plane.proofs.Orientation.{orientation_expr, orientation_cyclic, orientation_twice}

-- ---- the same sum of other terms

-- the terms of each edge along a, then the list
unfoldable pub along : (Point → Point → ℤ) → Point → List Point → ℤ
along f a [] = pos 0
along f a (b ∷ s) = f a b +ℤ along f b s

module _
    (q : Point) (f : Point → Point → ℤ) (g : Point → ℤ)
    (moves : (a b : Point) → orientation q a b ≡ f a b +ℤ (g b -ℤ g a)) where
  -- the sums differ by what g differs by at the ends
  path_sum_moves : (a : Point) (s : List Point) (z : Point) →
      path_sum q a (s ++ z ∷ []) ≡ along f a (s ++ z ∷ []) +ℤ (g z -ℤ g a)
  unfolding path_sum along
  path_sum_moves a [] z = simp +ℤ_idr (moves a z)
  path_sum_moves a (b ∷ s) z =
      ap₂ ◌+ℤ◌ (moves a b) (path_sum_moves b s z)
      ∙ identity 5 (λ t u gz gb ga. t ⊕ (gb ⊖ ga) ⊕ (u ⊕ (gz ⊖ gb)) ≐ t ⊕ u ⊕ (gz ⊖ ga)) tt
      (f a b) (along f b (s ++ z ∷ [])) (g z) (g b) (g a)

  -- .. which round the list are one point
  pub fan_along : (a : Point) (s : List Point) → fan q (a ∷ s) ≡ along f a (s ++ a ∷ [])
  unfolding fan
  fan_along a s =
      path_sum_moves a s a
      ∙ identity 2 (λ t d. t ⊕ (d ⊖ d) ≐ t) tt (along f a (s ++ a ∷ [])) (g a)

-- ---- from any base

-- the term of an edge, from two bases
term_moves : (p q a b : Point) →
    orientation q a b ≡ orientation p a b +ℤ (orientation q p b -ℤ orientation q p a)
unfolding orientation
term_moves p q a b =
    identity 8
    (λ px py qx qy ax ay bx by.
    orientation_expr qx qy ax ay bx by ≐ orientation_expr px py ax ay bx by ⊕ (orientation_expr qx qy px py bx by ⊖ orientation_expr qx qy px py ax ay))
    tt
    p.x p.y q.x q.y a.x a.y b.x b.y

-- the sum of orientations round a closed list of points does not depend on the base point
pub fan_fixed : (p q : Point) (s : List Point) → fan q s ≡ fan p s
unfolding fan
fan_fixed p q [] = refl
fan_fixed p q (a ∷ s) = from q ∙ sym (from p)
  where
    from : (r : Point) → fan r (a ∷ s) ≡ along (orientation p) a (s ++ a ∷ [])
    from r = fan_along r (orientation p) (orientation r p) (term_moves p r) a s

-- ---- a list cut in two

-- the way to the end of the list is the way to z and the way on from z
pub path_sum_cut : (q a : Point) (s : List Point) (z : Point) (t : List Point) →
    path_sum q a (s ++ z ∷ t) ≡ path_sum q a (s ++ z ∷ []) +ℤ path_sum q z t
unfolding path_sum
path_sum_cut q a [] z t = simp +ℤ_idr
path_sum_cut q a (b ∷ s) z t =
    ap (λ (u : ℤ). orientation q a b +ℤ u) (path_sum_cut q b s z t)
    ∙ sym (+ℤ_assoc (orientation q a b) (path_sum q b (s ++ z ∷ [])) (path_sum q z t))

-- round the list it is the way from its first point to z, and the way from z back
pub fan_cut : (q a : Point) (s : List Point) (z : Point) (t : List Point) →
    fan q (a ∷ s ++ z ∷ t) ≡ path_sum q a (s ++ z ∷ []) +ℤ path_sum q z (t ++ a ∷ [])
unfolding fan
fan_cut q a s z t =
    ap (path_sum q a) (append_assoc s (z ∷ t) (a ∷ [])) ∙ path_sum_cut q a s z (t ++ a ∷ [])

-- the list may begin at any of its points
pub fan_swap : (q : Point) (s t : List Point) → fan q (s ++ t) ≡ fan q (t ++ s)
fan_swap q [] t = ap (fan q) (sym (append-nil t))
fan_swap q (a ∷ s) [] = ap (fan q) (append-nil (a ∷ s))
fan_swap q (a ∷ s) (b ∷ t) =
    fan_cut q a s b t
    ∙ (+ℤ_comm (path_sum q a (s ++ b ∷ [])) (path_sum q b (t ++ a ∷ [])) ∙ sym (fan_cut q b t a s))

-- from its own first point, the two edges that meet there add nothing
pub fan_from_first : (p a : Point) (s : List Point) (z : Point) →
    fan p (p ∷ a ∷ s ++ z ∷ []) ≡ path_sum p a (s ++ z ∷ [])
unfolding path_sum
fan_from_first p a s z =
    fan_cut p p (a ∷ s) z []
    ∙ simp (orientation_twice, orientation_cyclic p z p, orientation_cyclic z p p, +ℤ_idl, +ℤ_idr)

-- two points or fewer go round nothing
pub fan_flat : (q : Point) (s : List Point) → length s < 3 → fan q s ≡ pos 0
unfolding fan path_sum orientation
fan_flat q [] h = refl
fan_flat q (a ∷ []) h =
    identity 4 (λ qx qy ax ay. orientation_expr qx qy ax ay ax ay ⊕ con (pos 0) ≐ con (pos 0)) tt
    q.x q.y a.x a.y
fan_flat q (a ∷ b ∷ []) h =
    identity 6
    (λ qx qy ax ay bx by.
    orientation_expr qx qy ax ay bx by ⊕ (orientation_expr qx qy bx by ax ay ⊕ con (pos 0)) ≐ con (pos 0))
    tt
    q.x q.y a.x a.y b.x b.y
fan_flat q (a ∷ b ∷ c ∷ s) h = absurd (omega arith)

-- ---- the sign of a fan, from the signs of its terms

pub path_sum_nonneg : (q a : Point) (s : List Point) →
    Chain (λ b c. pos 0 ≤ℤ orientation q b c) (a ∷ s) → pos 0 ≤ℤ path_sum q a s
unfolding path_sum Chain
path_sum_nonneg q a [] c = ≤ℤ_refl (pos 0)
path_sum_nonneg q a (b ∷ s) c = sum_nonneg c.0 (path_sum_nonneg q b s c.1)

-- no term is negative
pub terms_nonneg : (q : Point) (s : List Point) →
    Cycle (λ b c. pos 0 ≤ℤ orientation q b c) s → pos 0 ≤ℤ fan q s
unfolding fan Cycle
terms_nonneg q [] c = ≤ℤ_refl (pos 0)
terms_nonneg q (a ∷ s) c = path_sum_nonneg q a (s ++ a ∷ []) c

-- .. and the second is positive
pub fan_pos : (q a b c : Point) (s : List Point) →
    Cycle (λ b c. pos 0 ≤ℤ orientation q b c) (a ∷ b ∷ c ∷ s) → pos 0 <ℤ orientation q b c → pos 0 <ℤ fan q (a ∷ b ∷ c ∷ s)
unfolding fan path_sum Cycle Chain
fan_pos q a b c s h k = sum_pos_right h.0 (sum_pos_left k (path_sum_nonneg q c (s ++ a ∷ []) h.1.1))

path_sum_nonpos : (q a : Point) (s : List Point) →
    Chain (λ b c. orientation q b c ≤ℤ pos 0) (a ∷ s) → path_sum q a s ≤ℤ pos 0
unfolding path_sum Chain
path_sum_nonpos q a [] c = ≤ℤ_refl (pos 0)
path_sum_nonpos q a (b ∷ s) c =
    omega (arith, order, +ℤ_splits (orientation q a b) (path_sum q b s), c.0, path_sum_nonpos q b s c.1)

-- no term is positive
pub fan_nonpos : (q : Point) (s : List Point) →
    Cycle (λ b c. orientation q b c ≤ℤ pos 0) s → fan q s ≤ℤ pos 0
unfolding fan Cycle
fan_nonpos q [] c = ≤ℤ_refl (pos 0)
fan_nonpos q (a ∷ s) c = path_sum_nonpos q a (s ++ a ∷ []) c
