-- Two permutations f and g of the darts, in the order of this page: the statement, with vertices,
-- edges, faces and parts for the classes of g, of f, of f and then g, and of both; what a transposition
-- of two darts of two edges does to each; and the theorem:
-- vertices + edges + faces + 2 × genus = darts + 2 × parts. For request #113.
-- A transposition joins two edges. If the two darts lie in two parts, it joins these and their faces,
-- and the genus stays. If they lie in one face, it cuts that in two, and the parts and the genus
-- stay. If they lie in two faces of one part, it joins these, and the genus rises by one. Where f
-- moves no dart the genus is 0: every dart is an edge, and faces and parts are the vertices.
use mathlib.Core.Path.{◌≡◌, ap, subst}
use mathlib.Core.Logic.{⊎_elim, ◌≢◌}
use mathlib.Core.Bool.{Bool, ◌&&◌}
use Prim.Native.Nat.{ℕ, suc, ◌+◌, ◌*◌, ◌<◌}
use native.Mathlib.Omega.{arith}
use Rattle.finite.specs.Tests.{and_left, and_both, same_test}
use Rattle.finite.specs.Bounded.{count}
use Rattle.finite.specs.Counting.{count_same}
use Rattle.orbits.specs.Reach.{Reach, here, by_one, by_two}
use Rattle.orbits.specs.Classes.{is_least, classes}
use Rattle.orbits.proofs.Reach.{Dart, reach_trans, reach_sym, decide_reach, by_one_link, by_first_link, by_second_link}
use Rattle.orbits.proofs.Permutations.{Permutes, ◌then◌, compose_permutes, transposition, by_transposition, transposition_involutes, transposed, transposed_permutes, fixed_reach, orbit_keeps, orbit_by, part_keeps, part_symmetric, part_holds, part_by}
use Rattle.orbits.proofs.Classes.{Joins, join_lowers_classes, same_classes, same_orbits, least_by}
use Rattle.orbits.proofs.Transpositions.{transposition_joins, transposition_lowers_orbits, transposition_raises_orbits}
use Rattle.orbits.proofs.Building.{built_by_transpositions}

-- f and g have genus k
abbrev pub Genus : ℕ → (ℕ → Bool) → (ℕ → ℕ) → (ℕ → ℕ) → ℕ → Type 0
Genus n present f g k =
    classes (by_one g) n present + classes (by_one f) n present + classes (by_one (λ d. g (f d))) n present + 2 * k ≡
    count n present + 2 * classes (by_two f g) n present

module _ {n : ℕ} {present : ℕ → Bool} {f g : ℕ → ℕ} (p : Permutes n present f) (q : Permutes n present g) where
  -- an orbit of f lies in a part, and so does a face
  pub edge_in_part : {a b : ℕ} → Dart n present a → Reach (by_one f) a b → Reach (by_two f g) a b
  edge_in_part h r = orbit_by p h (λ d k. by_first_link f g d) r

  pub face_in_part : {a b : ℕ} → Dart n present a → Reach (by_one (f then g)) a b → Reach (by_two f g) a b
  face_in_part h r =
      orbit_by (compose_permutes p q) h (λ d k. reach_trans (by_first_link f g d) (by_second_link f g (f d))) r

-- ---- two darts of two edges transposed

module _ {n : ℕ} {present : ℕ → Bool} {f g : ℕ → ℕ} (p : Permutes n present f) (q : Permutes n present g)
    {x y : ℕ} (h : Dart n present x) (k : Dart n present y) (apart : ¬ Reach (by_one f) x y) where
  p' : Permutes n present (transposed x y f)
  p' = transposed_permutes p h k

  first_finer : (d : ℕ) → Dart n present d → Reach (by_two (transposed x y f) g) d (f d)
  first_finer d m = edge_in_part p' q m ((transposition_joins p h k apart).finer d (f d) m (by_one_link f d))

  parts_join : Joins n present (by_two f g) (by_two (transposed x y f) g) x y
  parts_join =
      record {
        finer = λ c d m r. part_by p q m first_finer (λ e t. by_second_link (transposed x y f) g e) r;
        joined = edge_in_part p' q h (transposition_joins p h k apart).joined;
        no_more = λ Q step forth back c d m r t.
            part_holds p' q Q m
            (λ e l u.
            step (transposition x y e) (f (transposition x y e)) ((transposition_involutes h k).stays l) (by_first_link f g (transposition x y e))
            (by_transposition (λ a b. Q a → Q b) x y e forth back (λ v w z. z) u))
            (λ e l u. step e (g e) l (by_second_link f g e) u)
            r t;
      }

  -- in one part, the parts stay
  parts_stay : Reach (by_two f g) x y →
      classes (by_two f g) n present ≡ classes (by_two (transposed x y f) g) n present
  parts_stay r =
      same_classes (part_keeps p q) (part_keeps p' q) parts_join.finer
      (λ c d m t. part_by p' q m within (λ e l. by_second_link f g e) t)
    where
      within : (d : ℕ) → Dart n present d → Reach (by_two f g) d (f (transposition x y d))
      within d m =
          by_transposition (λ c e. Reach (by_two f g) c (f e)) x y d (reach_trans r (by_first_link f g y))
          (reach_trans (reach_sym (part_symmetric p q) h r) (by_first_link f g x)) (λ u v. by_first_link f g d)

  pub edges_join : classes (by_one f) n present ≡ suc (classes (by_one (transposed x y f)) n present)
  edges_join = transposition_lowers_orbits p h k apart

  pub genus_two_parts : (i : ℕ) → ¬ Reach (by_two f g) x y → Genus n present f g i →
      Genus n present (transposed x y f) g i
  genus_two_parts i two balanced =
      omega (
        arith,
        edges_join,
        transposition_lowers_orbits (compose_permutes p q) h k (λ r. two (face_in_part p q h r)),
        join_lowers_classes (part_symmetric p q) (part_symmetric p' q) h k two parts_join,
      )

  pub genus_one_face : (i : ℕ) → Reach (by_one (f then g)) x y → Genus n present f g i →
      Genus n present (transposed x y f) g i
  genus_one_face i r balanced =
      omega (
        arith,
        edges_join,
        transposition_raises_orbits (compose_permutes p q) h k (λ e. apart (subst (Reach (by_one f) x) e here)) r,
        parts_stay (face_in_part p q h r),
      )

  pub genus_two_faces : (i : ℕ) → Reach (by_two f g) x y → ¬ Reach (by_one (f then g)) x y →
      Genus n present f g i → Genus n present (transposed x y f) g (suc i)
  genus_two_faces i r two balanced =
      omega (arith, edges_join, transposition_lowers_orbits (compose_permutes p q) h k two, parts_stay r)

-- ---- f leaves every dart where it is

module _ {n : ℕ} {present : ℕ → Bool} {f g : ℕ → ℕ} (p : Permutes n present f) (q : Permutes n present g)
    (unmoved : (d : ℕ) → Dart n present d → f d ≡ d) where
  unmoved_edges : classes (by_one f) n present ≡ count n present
  unfolding classes
  unmoved_edges =
      count_same n (λ a. present a && is_least (by_one f) n a) present
      (λ a l.
      same_test (present a && is_least (by_one f) n a) (present a) (and_left (present a) (is_least (by_one f) n a))
      (λ t.
      and_both (present a) (is_least (by_one f) n a) t
      (least_by (orbit_keeps p)
      (λ b (m : b < a) (r : Reach (by_one f) a b).
      omega (arith, fixed_reach f a b (unmoved a (record { below = l; is_present = t })) r)))))

  unmoved_faces : classes (by_one (f then g)) n present ≡ classes (by_one g) n present
  unmoved_faces = same_orbits (compose_permutes p q) (λ d k. ap g (unmoved d k))

  unmoved_parts : classes (by_two f g) n present ≡ classes (by_one g) n present
  unmoved_parts =
      same_classes (part_keeps p q) (orbit_keeps q)
      (λ a b h r. part_by p q h (λ d k. rw (unmoved d k) here) (λ d k. by_one_link g d) r)
      (λ a b h r. orbit_by q h (λ d k. by_second_link f g d) r)

  pub genus_unmoved : Genus n present f g 0
  genus_unmoved = omega (arith, unmoved_edges, unmoved_faces, unmoved_parts)

-- ---- the theorem

module _ {n : ℕ} {present : ℕ → Bool} {g : ℕ → ℕ} (q : Permutes n present g) where
  genus_step : (f : ℕ → ℕ) (x y : ℕ) → Permutes n present f → Dart n present x → Dart n present y → f x ≡ x → x ≢ y →
      (k : ℕ) × Genus n present f g k → (k : ℕ) × Genus n present (transposed x y f) g k
  genus_step f x y p h k fixed differ (i, balanced) =
      ⊎_elim
      (λ r. (i, genus_one_face p q h k apart i r balanced))
      (λ two.
      ⊎_elim
      (λ r. (suc i, genus_two_faces p q h k apart i r two balanced))
      (λ parts. (i, genus_two_parts p q h k apart i parts balanced))
      (decide_reach (part_keeps p q) y h))
      (decide_reach (orbit_keeps (compose_permutes p q)) y h)
    where
      apart : ¬ Reach (by_one f) x y
      apart r = differ (fixed_reach f x y fixed r)

-- vertices + edges + faces + 2 × genus = darts + 2 × parts
pub genus : {n : ℕ} {present : ℕ → Bool} {f g : ℕ → ℕ} → Permutes n present f → Permutes n present g →
    (k : ℕ) × Genus n present f g k
genus {n} {present} {f} {g} p q =
    built_by_transpositions (Permutes n present) (λ e. (k : ℕ) × Genus n present e g k) (λ e r. r)
    (λ e a r h. transposed_permutes r (r.stays h) h) (λ e r u. (0, genus_unmoved r q u)) (genus_step q) f p
