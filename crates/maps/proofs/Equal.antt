-- What `==` finds of points, which derive it, is whether they are the same; and a slice that is asked for a point.
use mathlib.Core.Path.{◌≡◌, refl, ap, ◌∙◌}
use mathlib.Core.Bool.{Bool, true, false, not, ◌&&◌, ◌||◌}
use mathlib.Core.List.{List, [], ◌∷◌}
use lib.IntN.{ℤ}
use lib.ListN.{length, get_or}
use Rattle.std.specs.List.{list_any}
use Rattle.std.specs.Ordering.{int_eq}
use Rattle.std.specs.Cmp.{signed_Decides}
use Rattle.std.proofs.lemmas.Bool.Decides.{same_from_decides}
use Rattle.integers.specs.Order.{eq_z, eq_z_true, eq_eq_z}
use Rattle.finite.specs.Tests.{same_test}
use Rattle.finite.specs.Bounded.{all, all_at, all_by}
use Rattle.finite.specs.Lists.{all_in}
use Rattle.finite.specs.ListLaws.{all_in_at, all_in_by}
use Rattle.model.specs.declared.Point.{Point}
use Rattle.model.specs.Plane.{origin, same_point}
use Rattle.maps.specs.Places.{new_in}

same_coordinate : (x y : ℤ) → int_eq x y ≡ eq_z x y
same_coordinate x y = same_from_decides _ _ (signed_Decides x y) (eq_z_true x y, eq_eq_z)

pub derived_same : (p q : Point) → (int_eq p.x q.x && int_eq p.y q.y) ≡ same_point p q
unfolding same_point
derived_same p q = λ i. same_coordinate p.x q.x i && same_coordinate p.y q.y i

-- no member passes a test just where every member fails it
none_of : {A : Type 0} (f : A → Bool) (s : List A) → not (list_any f s) ≡ all_in (λ a. not (f a)) s
unfolding all_in
none_of f [] = refl
none_of f (a ∷ s) = go (f a) (none_of f s)
  where
    go : (b : Bool) → not (list_any f s) ≡ all_in (λ c. not (f c)) s →
        not (b || list_any f s) ≡ (not b && all_in (λ c. not (f c)) s)
    go true e = refl
    go false e = e

by_places : {A : Type 0} (p : A → Bool) (s : List A) (d : A) → all_in p s ≡ all (length s) (λ j. p (get_or s j d))
by_places p s d =
    same_test _ _ (λ t. all_by (length s) (λ j. p (get_or s j d)) (λ k h. all_in_at p s t k d h))
    (λ t. all_in_by p s d (λ k h. all_at (length s) (λ j. p (get_or s j d)) t k h))

pub none_same : (points : List Point) (p : Point) →
    not (list_any (λ (q : Point). int_eq q.x p.x && int_eq q.y p.y) points) ≡ new_in points p
none_same points p =
    ap (λ (f : Point → Bool). not (list_any f points)) (λ i q. derived_same q p i)
    ∙ none_of (λ q. same_point q p) points
    ∙ by_places (λ q. not (same_point q p)) points origin
