-- What `same` promises, in the order of this page: what the library's `==` finds is what it finds; at coordinates
-- it is `same_by eq_z`; at numbers, of whatever width, it is `same_list`. At tests it is `same_by beq` as it
-- stands, since `eq` is `beq` there.
use Rattle.std.specs.Prelude.{◌≡◌, refl, Bool, List, [], ◌∷◌, ℕ, ℤ, nat_eq}
use Rattle.std.specs.Bool.{one_answer}
use Rattle.std.specs.Ordering.{int_eq}
use Rattle.std.specs.Cmp.{signed_Decides}
use Rattle.std.specs.Cmp.Lexicographic.{pointwise}
use Rattle.integers.specs.Order.{eq_z, eq_z_true, eq_eq_z}
use Rattle.finite.specs.Lists.{same_by, same_list}

module _ {A : Type 0} (p : A → A → Bool) where
  pub same_as_library : (s t : List A) → pointwise p s t ≡ same_by p s t
  unfolding same_by
  same_as_library [] [] = refl
  same_as_library [] (y ∷ t) = refl
  same_as_library (x ∷ s) [] = refl
  same_as_library (x ∷ s) (y ∷ t) = rw (same_as_library s t) refl

  -- by another test that answers alike
  same_by_other : {q : A → A → Bool} → ((x y : A) → p x y ≡ q x y) → (s t : List A) → same_by p s t ≡ same_by q s t
  unfolding same_by
  same_by_other e [] [] = refl
  same_by_other e [] (y ∷ t) = refl
  same_by_other e (x ∷ s) [] = refl
  same_by_other e (x ∷ s) (y ∷ t) = rw (e x y, same_by_other e s t) refl

pub same_coordinates : (s t : List ℤ) → same_by int_eq s t ≡ same_by eq_z s t
same_coordinates = same_by_other int_eq (λ x y. one_answer _ _ (signed_Decides x y) (eq_z_true x y, eq_eq_z))

pub same_numbers : (s t : List ℕ) → same_by nat_eq s t ≡ same_list s t
same_numbers s t = refl
