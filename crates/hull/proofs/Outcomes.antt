-- What becomes of a point that is offered to a shaped map: where no rule refuses it, every condition of refusal
-- is known to fail, and the other way round; then it arrives in one of four ways.
use mathlib.Core.Path.{◌≡◌, refl, sym, subst}
use mathlib.Core.Logic.{◌≢◌, ⊎_elim}
use mathlib.Core.Bool.{Bool, cond}
use Prim.Native.Nat.{ℕ, ◌≤◌}
use native.Mathlib.Omega.{arith}
use borrow.Author.Tests.{eq-eqb, ne_eqb}
use lib.Dec.{T, T_not, not_T, leb, eqb, leb→le, nleb→lt}
use Rattle.std.specs.declared.result.Result.TheVariants.{Ok}
use Rattle.finite.specs.Tests.{same_or_not, not_not}
use Rattle.finite.specs.Bounded.{any_at, any_by}
use Rattle.model.specs.declared.Point.{Point}
use Rattle.model.specs.declared.Map.{Map}
use Rattle.model.specs.declared.Arrival.{Arrival}
use Rattle.model.specs.declared.Offered.{Offered}
use Rattle.model.specs.Refusals.{NoneApplies, none, nor}
use Rattle.model.specs.Answers.{arrival_answer}
use Rattle.model.specs.Plane.{in_range}
use Rattle.model.specs.Maps.{point_limit, point}
use Rattle.model.specs.Shape.{Shaped}
use Rattle.model.specs.Outline.{visible_edges}
use Rattle.model.specs.Arrival.{left_corner, right_corner, first_kind, inside_kind, alone, pair, spliced, arrived, later_point, arrive, is_repeated, admission_rules}
use Rattle.model.proofs.Shape.{same_point_eq, same_point_by}
use Rattle.sight.specs.Requires.{Accepted}

-- ---- where no rule applies

module _ {m : Map} (p : Point) where
  pub accepted_by : Shaped m → NoneApplies (admission_rules m p) → Accepted m p
  unfolding is_repeated
  accepted_by s (nor full (nor far (nor repeated none))) =
      record {
        is_sound = s;
        room = nleb→lt point_limit m.count (not_T (leb point_limit m.count) full);
        ranged = not_not (in_range p) far;
        fresh = λ k h e. repeated (any_by m.count _ k h (same_point_by (point m k) p e));
      }

  pub none_applies : Accepted m p → NoneApplies (admission_rules m p)
  unfolding is_repeated
  none_applies a =
      let not_full : ¬ T (leb point_limit m.count) = λ t. omega (arith, leb→le point_limit m.count t) in
      nor not_full
      (nor (λ t. T_not (in_range p) t a.ranged)
      (nor
      (λ t.
      let found = any_at m.count _ t in
      a.fresh found.0 found.1 (same_point_eq (point m found.0) p found.2))
      none))

-- ---- the four arrivals

pub data Arrives (m : Map) (p : Point) : Offered → Type 0 where
  first : m.count ≡ 0 → Arrives m p (arrived Arrival.First (alone first_kind m p))
  second : m.count ≡ 1 → Arrives m p (arrived Arrival.Second (pair m p))
  inside : 2 ≤ m.count → visible_edges m p ≡ 0 → Arrives m p (arrived Arrival.Inside (alone inside_kind m p))
  outside : 2 ≤ m.count → visible_edges m p ≢ 0 →
      Arrives m p
      (arrived (Arrival.Outside (left_corner m p) (right_corner m p) (visible_edges m p))
      (spliced m p (left_corner m p) (right_corner m p)))

-- a choice by the test of two numbers
by_equal : {A : Type 0} (Q : A → Type 0) (a b : ℕ) {x y : A} → (a ≡ b → Q x) → (a ≢ b → Q y) → Q (cond (eqb a b) x y)
by_equal Q a b {x} {y} f g =
    ⊎_elim
    (λ (e : a ≡ b). subst (λ (t : Bool). Q (cond t x y)) (sym (eq-eqb a b e)) (f e))
    (λ (n : a ≢ b). subst (λ (t : Bool). Q (cond t x y)) (sym (ne_eqb a b n)) (g n))
    (same_or_not a b)

pub arrive_arrives : (m : Map) (p : Point) → Arrives m p (arrive m p)
unfolding arrive later_point
arrive_arrives m p =
    by_equal (Arrives m p) m.count 0 first
    (λ (n₀ : m.count ≢ 0).
    by_equal (Arrives m p) m.count 1 second
    (λ (n₁ : m.count ≢ 1).
    by_equal (Arrives m p) (visible_edges m p) 0 (inside (omega arith)) (outside (omega arith))))

-- an arrival is served
pub arrival_served : (m : Map) (p : Point) (o : Offered) → Arrives m p o → (arrival_answer (Ok o.arrival)).number ≡ 0
unfolding arrival_answer
arrival_served m p o (first e) = refl
arrival_served m p o (second e) = refl
arrival_served m p o (inside h e) = refl
arrival_served m p o (outside h n) = refl
