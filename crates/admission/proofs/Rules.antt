-- The rules by the first points of a list; by a map's points they are those of the map.
use mathlib.Core.Path.{◌≡◌, refl, ap, ◌∙◌}
use mathlib.Core.Bool.{Bool, not, ◌||◌}
use mathlib.Core.List.{List, [], ◌∷◌}
use Prim.Native.Nat.{ℕ, zero, suc, ◌≤◌, ◌<◌}
use native.Mathlib.Omega.{arith}
use lib.Dec.{leb}
use lib.ListN.{length, take}
use Rattle.std.proofs.lemmas.List.{get_or-take, length-take-le}
use Rattle.finite.specs.Bounded.{any}
use Rattle.model.specs.declared.Refusal.{Refusal}
use Rattle.model.specs.declared.Point.{Point}
use Rattle.model.specs.declared.Map.{Map}
use Rattle.model.specs.Refusals.{◌when◌}
use Rattle.model.specs.Plane.{origin, in_range, same_point}
use Rattle.model.specs.Maps.{point_limit, point, point_in}
use Rattle.model.specs.Arrival.{is_repeated, admission_rules}
use Rattle.admission.specs.Admission.{repeated_in, rules_by}

-- a test that finds the same below a bound
any_same : (n : ℕ) (p q : ℕ → Bool) → ((k : ℕ) → k < n → p k ≡ q k) → any n p ≡ any n q
unfolding any
any_same zero p q same = refl
any_same (suc n) p q same =
    λ i. any_same n p q (λ k h. same k (omega arith)) i || same n (omega arith) i

-- the first n points of a list
module _ (points : List Point) (n : ℕ) (p : Point) (h : n ≤ length points) where
  pub repeated_taken : repeated_in (take n points) p ≡ any n (λ k. same_point (point_in points k) p)
  repeated_taken =
      ap (λ (l : ℕ). any l (λ k. same_point (point_in (take n points) k) p)) (length-take-le n points h)
      ∙ any_same n _ _ (λ k l. ap (λ (q : Point). same_point q p) (get_or-take n points k origin l))

  pub rules_taken : rules_by (take n points) p
      ≡ (Refusal.Full when leb point_limit n) ∷ (Refusal.OutOfRange when not (in_range p))
      ∷ (Refusal.Repeated when any n (λ k. same_point (point_in points k) p))
      ∷ []
  rules_taken =
      λ i.
      (Refusal.Full when leb point_limit (length-take-le n points h i))
      ∷ (Refusal.OutOfRange when not (in_range p))
      ∷ (Refusal.Repeated when repeated_taken i)
      ∷ []

-- .. of a map
pub rules_by_points : (m : Map) (p : Point) → m.count ≤ length m.points →
    rules_by (take m.count m.points) p ≡ admission_rules m p
unfolding is_repeated point
rules_by_points m p h = rules_taken m.points m.count p h
