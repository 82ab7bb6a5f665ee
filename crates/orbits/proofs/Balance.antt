-- Every two involutions balance: with g for the points' link and f for the edges' link,
-- vertices + edges + faces = darts + 2 × parts, where faces are the orbits of f and then g.
-- Build f from an involution that moves no dart by transpositions, each of a dart x that is not moved
-- yet with a dart y (Building). If x and y lie in one part, they lie in one face, for the face of x is
-- its whole part (`part_is_face`): the face goes along the part to its other end and back.
-- So the genus stays 0 (Genus).
use mathlib.Core.Path.{◌≡◌, ◌∙◌, ap, subst}
use mathlib.Core.Logic.{⊎_elim, ◌≢◌}
use mathlib.Core.Bool.{Bool}
use Prim.Native.Nat.{ℕ, ◌+◌, ◌*◌}
use native.Mathlib.Omega.{arith}
use Rattle.finite.specs.Bounded.{count}
use Rattle.orbits.specs.Reach.{Reach, here, by_one, by_two}
use Rattle.orbits.specs.Classes.{classes}
use Rattle.orbits.proofs.Reach.{Dart, reach_dart, reach_trans, reach_sym, decide_reach, by_one_link}
use Rattle.orbits.proofs.Permutations.{Permutes, Involutes, ◌then◌, involution_permutes, compose_permutes, transposed, fixed_reach, orbit_keeps, orbit_symmetric, orbit_holds, part_keeps, part_holds}
use Rattle.orbits.proofs.Building.{built_by_transpositions, released_involutes}
use Rattle.orbits.proofs.Genus.{Genus, genus_two_parts, genus_one_face, genus_unmoved}

-- ---- the face of a dart that f leaves where it is

module _ {n : ℕ} {present : ℕ → Bool} {f g : ℕ → ℕ} (i : Involutes n present f) (j : Involutes n present g) where
  p : Permutes n present f
  p = involution_permutes i

  q : Permutes n present g
  q = involution_permutes j

  face : Permutes n present (f then g)
  face = compose_permutes p q

  -- the dart before w in its face
  face_back : {w : ℕ} → Dart n present w → Reach (by_one (f then g)) w (f (g w))
  face_back {w} h =
      reach_sym (orbit_symmetric face) (i.stays (j.stays h))
      (subst (Reach (by_one (f then g)) (f (g w))) (ap g (i.twice (j.stays h)) ∙ j.twice h)
      (by_one_link (f then g) (f (g w))))

  module _ {a : ℕ} (h : Dart n present a) (fixed : f a ≡ a) where
    -- the face is closed under f: where f z = w lies in it, so does f of the dart after z, f (g w)
    face_first : {z : ℕ} → Reach (by_one (f then g)) a z → Reach (by_one (f then g)) a (f z)
    face_first r =
        orbit_holds face (λ z. Reach (by_one (f then g)) a (f z)) h (λ d k t. reach_trans t (face_back (i.stays k))) r
        (rw fixed here)

    -- and under g: g z is the dart after f z
    face_second : {z : ℕ} → Reach (by_one (f then g)) a z → Reach (by_one (f then g)) a (g z)
    face_second {z} r =
        reach_trans (face_first r)
        (subst (Reach (by_one (f then g)) (f z)) (ap g (i.twice (reach_dart (orbit_keeps face) h r)))
        (by_one_link (f then g) (f z)))

    pub part_is_face : {b : ℕ} → Reach (by_two f g) a b → Reach (by_one (f then g)) a b
    part_is_face r =
        part_holds p q (Reach (by_one (f then g)) a) h (λ d k t. face_first t) (λ d k t. face_second t) r here

-- ---- the theorem

module _ {n : ℕ} {present : ℕ → Bool} {g : ℕ → ℕ} (j : Involutes n present g) where
  balance_step : (f : ℕ → ℕ) (x y : ℕ) → Involutes n present f → Dart n present x → Dart n present y → f x ≡ x →
      x ≢ y → Genus n present f g 0 → Genus n present (transposed x y f) g 0
  balance_step f x y i h k fixed differ balanced =
      ⊎_elim
      (λ r. genus_one_face (p i j) (q i j) h k apart 0 (part_is_face i j h fixed r) balanced)
      (λ two. genus_two_parts (p i j) (q i j) h k apart 0 two balanced)
      (decide_reach (part_keeps (p i j) (q i j)) y h)
    where
      apart : ¬ Reach (by_one f) x y
      apart r = differ (fixed_reach f x y fixed r)

-- vertices + edges + faces = darts + 2 × parts
pub balance : {n : ℕ} {present : ℕ → Bool} {f g : ℕ → ℕ} → Involutes n present f → Involutes n present g →
    classes (by_one g) n present + classes (by_one f) n present + classes (by_one (λ d. g (f d))) n present ≡
    count n present + 2 * classes (by_two f g) n present
balance {n} {present} {f} {g} i j =
    omega (
      arith,
      built_by_transpositions (Involutes n present) (λ e. Genus n present e g 0) (λ e r. involution_permutes r)
          (λ e a r h. released_involutes r h)
          (λ e r u. genus_unmoved (involution_permutes r) (involution_permutes j) u) (balance_step j) f i,
    )
