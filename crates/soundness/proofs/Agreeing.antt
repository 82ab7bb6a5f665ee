-- What `==` finds of points and of notes, which derive it, place by place.
use mathlib.Core.Path.{◌≡◌, refl}
use mathlib.Core.Bool.{Bool, true, false, ◌&&◌}
use mathlib.Core.List.{List}
use Rattle.std.specs.Prelude.{nat_eq}
use Rattle.std.specs.Ordering.{int_eq}
use Rattle.finite.specs.Lists.{same_by}
use Rattle.model.specs.declared.Point.{Point}
use Rattle.model.specs.declared.Note.{Note}
use Rattle.model.specs.Plane.{same_point}
use Rattle.model.specs.Sound.{same_note}
use Rattle.maps.proofs.Equal.{derived_same}

pub same_points : (s t : List Point) → same_by (λ p q. int_eq p.x q.x && int_eq p.y q.y) s t ≡ same_by same_point s t
same_points s t = λ i. same_by (λ p q. derived_same p q i) s t

and_nested : (a b c : Bool) → (a && (b && c)) ≡ (a && b && c)
and_nested true b c = refl
and_nested false b c = refl

pub same_notes : (s t : List Note) →
    same_by (λ n o. nat_eq n.arrival o.arrival && (nat_eq n.left o.left && nat_eq n.right o.right)) s t
    ≡ same_by same_note s t
unfolding same_note
same_notes s t =
    λ i.
    same_by
    (λ n o. and_nested (nat_eq n.arrival o.arrival) (nat_eq n.left o.left) (nat_eq n.right o.right) i) s t
