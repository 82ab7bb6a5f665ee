-- The corners in listing order, in the order of this page: the lowest of a list of points; the lowest
-- corner is there, and is the only one; the listing is the outline rotated, so that it has the same
-- members, each once, and leads on as the edges do; one point lists itself, none lists nothing.
-- Document 01: "Corners are listed anticlockwise from the smallest y, then the smallest x. One point
-- lists itself."
use mathlib.Core.Path.{◌≡◌, sym, ap, subst, ◌∙◌}
use mathlib.Core.Logic.{◌≢◌, ◌↔◌, ⊎_elim}
use mathlib.Core.Bool.{Bool, not}
use mathlib.Core.List.{List, [], ◌∷◌, ◌++◌}
use Prim.Native.Nat.{ℕ, ◌+◌, ◌%◌, ◌≤◌, ◌<◌}
use native.Mathlib.Omega.{arith}
use lib.Dec.{T, T_not, not_T}
use lib.ListN.{length, get_or, length-append}
use borrow.Author.Tests.{le-ltb, lt-ltb}
use Rattle.finite.specs.Tests.{decide, is_true, is_false, same_or_not}
use Rattle.finite.specs.Bounded.{table, lt_or_ge}
use Rattle.finite.specs.Lists.{elem, distinct, all_in}
use Rattle.finite.specs.ListLaws.{elem_head, elem_tail, elem_cases, elem_one, all_elem, all_of_elem}
use Rattle.finite.specs.ListLaws.{elem_cut, elem_swap}
use Rattle.finite.specs.FirstPassing.{first_only}
use Rattle.finite.specs.Rings.{cycle_at}
use Rattle.finite.specs.CycleLaws.{cycle_change}
use Rattle.model.specs.declared.Point.{Point}
use Rattle.model.specs.declared.Map.{Map}
use Rattle.model.specs.Plane.{lower}
use Rattle.model.specs.Maps.{owner, point}
use Rattle.model.specs.Outline.{next_corner, corners_from, outline, lowest_corner, corners}
use Rattle.model.specs.Shape.{Shaped}
use Rattle.plane.proofs.Heights.{lower_asym, lower_trans, lower_or_same, not_lower_trans}
use Rattle.maps.proofs.Circuits.{Circuit, Edge, edge_next, circuit_rotate, circuit_corners}
use Rattle.maps.proofs.Outline.{outline_circuit, outline_first}
use Rattle.corners.specs.Listing.{lowest_of}

-- ---- the lowest of a list of points

-- c is x or a member, and neither x nor a member is lower
record LowestOf (P : ℕ → Point) (x : ℕ) (s : List ℕ) (c : ℕ) : Type 0 where
  pub member : T (elem c (x ∷ s))
  pub none_lower : (y : ℕ) → T (elem y (x ∷ s)) → ¬ T (lower (P y) (P c))

module _ (P : ℕ → Point) where
  not_below_itself : (p : Point) → ¬ T (lower p p)
  not_below_itself p t = lower_asym p p t t

  lowest_of_is : (x : ℕ) (s : List ℕ) → LowestOf P x s (lowest_of P x s)
  unfolding lowest_of
  lowest_of_is x [] =
      record {
        member = elem_head x [];
        none_lower = λ y m. rw (elem_one y x m) (not_below_itself (P x));
      }
  lowest_of_is x (a ∷ s) =
      ⊎_elim
      (λ (t : T (lower (P a) (P x))).
      let r = lowest_of_is a s in
      rw (is_true (lower (P a) (P x)) t)
      (record {
        member = elem_tail (lowest_of P a s) x (a ∷ s) r.member;
        none_lower =
            λ y m.
            ⊎_elim
            (λ (e : y ≡ x). rw e (λ l. r.none_lower a (elem_head a s) (lower_trans (P a) (P x) (P (lowest_of P a s)) t l)))
            (r.none_lower y)
            (elem_cases y x (a ∷ s) m);
      }))
      (λ (t : T (not (lower (P a) (P x)))).
      let n = T_not (lower (P a) (P x)) t in
      let r = lowest_of_is x s in
      rw (is_false (lower (P a) (P x)) n)
      (record {
        member =
            ⊎_elim
            (λ (e : lowest_of P x s ≡ x). rw e (elem_head x (a ∷ s)))
            (λ h. elem_tail (lowest_of P x s) x (a ∷ s) (elem_tail (lowest_of P x s) a s h))
            (elem_cases (lowest_of P x s) x s r.member);
        none_lower =
            λ y m.
            ⊎_elim
            (λ (e : y ≡ x). r.none_lower y (rw e (elem_head x s)))
            (λ h.
            ⊎_elim
            (λ (e : y ≡ a).
            rw e (not_lower_trans (P a) (P x) (P (lowest_of P x s)) n (r.none_lower x (elem_head x s))))
            (λ k. r.none_lower y (elem_tail y x s k))
            (elem_cases y a s h))
            (elem_cases y x (a ∷ s) m);
      }))
      (decide (lower (P a) (P x)))

-- ---- the lowest corner

module _ {m : Map} (s : Shaped m) (two : 2 ≤ m.count) where
  -- different corners are different points
  corners_differ : (a b : ℕ) → T (elem a (outline m)) → T (elem b (outline m)) → a ≢ b → point m a ≢ point m b
  corners_differ a b i j n e =
      let below = (outline_circuit s two).below in
      ⊎_elim
      (λ (l : a < b). s.points.distinct a b l (below b j) e)
      (λ (l : b ≤ a). s.points.distinct b a (omega arith) (below a i) (sym e))
      (lt_or_ge a b)

  -- no corner is lower than a
  abbrev NoneLower : ℕ → Type 0
  NoneLower a = (b : ℕ) → T (elem b (outline m)) → ¬ T (lower (point m b) (point m a))

  abbrev is_lowest : ℕ → Bool
  is_lowest a = all_in (λ b. not (lower (point m b) (point m a))) (outline m)

  lowest_test : (a : ℕ) → T (is_lowest a) → NoneLower a
  lowest_test a t b j = T_not (lower (point m b) (point m a)) (all_elem _ (outline m) t b j)

  test_lowest : (a : ℕ) → NoneLower a → T (is_lowest a)
  test_lowest a f = all_of_elem _ (outline m) (λ b j. not_T (lower (point m b) (point m a)) (f b j))

  one_lowest : (a b : ℕ) → T (elem a (outline m)) → T (elem b (outline m)) → NoneLower a → NoneLower b → a ≡ b
  one_lowest a b i j f g =
      ⊎_elim
      (λ (e : a ≡ b). e)
      (λ (n : a ≢ b).
      absurd
      (⊎_elim (corners_differ a b i j n) (⊎_elim (g a i) (f b j)) (lower_or_same (point m a) (point m b))))
      (same_or_not a b)

  -- the lowest one, looked for from the reference's corner on
  abbrev found : ℕ
  found = lowest_of (point m) (owner m.reference) (outline m)

  found_on : T (elem found (outline m))
  found_on =
      ⊎_elim
      (λ (e : found ≡ owner m.reference). rw e (outline_first s two))
      (λ h. h)
      (elem_cases found (owner m.reference) (outline m)
      (lowest_of_is (point m) (owner m.reference) (outline m)).member)

  found_lowest : NoneLower found
  found_lowest b j =
      (lowest_of_is (point m) (owner m.reference) (outline m)).none_lower b
      (elem_tail b (owner m.reference) (outline m) j)

  pub lowest_found : found ≡ lowest_corner m
  unfolding lowest_corner
  lowest_found =
      sym
      (first_only is_lowest 0 found (outline m) found_on (test_lowest found found_lowest)
      (λ b j t. one_lowest b found j found_on (lowest_test b t) found_lowest))

  -- it is a corner, no corner is lower, every other corner is higher, and it is the only such one
  pub lowest_on : T (elem (lowest_corner m) (outline m))
  lowest_on = rw lowest_found at found_on

  pub lowest_none : NoneLower (lowest_corner m)
  lowest_none = subst NoneLower lowest_found found_lowest

  pub lowest_below : (b : ℕ) → T (elem b (outline m)) → b ≢ lowest_corner m →
      T (lower (point m (lowest_corner m)) (point m b))
  lowest_below b j n =
      ⊎_elim
      (λ e. absurd (corners_differ b (lowest_corner m) j lowest_on n e))
      (⊎_elim (λ h. absurd (lowest_none b j h)) (λ h. h))
      (lower_or_same (point m b) (point m (lowest_corner m)))

  pub lowest_only : (c : ℕ) → T (elem c (outline m)) → NoneLower c → c ≡ lowest_corner m
  lowest_only c i f = one_lowest c (lowest_corner m) i lowest_on f lowest_none

  -- ---- the listing

  pub corners_lowest : corners m ≡ corners_from m (lowest_corner m)
  unfolding corners
  corners_lowest = rw (le-ltb m.count 2 two)

  halves : (u : List ℕ) × (v : List ℕ) × (outline m ≡ u ++ lowest_corner m ∷ v)
  halves = elem_cut (lowest_corner m) (outline m) lowest_on

  rotated_circuit : Circuit m (lowest_corner m ∷ halves.1 ++ halves.0)
  rotated_circuit =
      circuit_rotate halves.0 (lowest_corner m ∷ halves.1) (subst (Circuit m) halves.2 (outline_circuit s two))

  corners_are : corners m ≡ lowest_corner m ∷ halves.1 ++ halves.0
  corners_are = corners_lowest ∙ circuit_corners (lowest_corner m) (halves.1 ++ halves.0) rotated_circuit

  -- the outline, cut before the lowest corner and put together in the other order
  pub corners_rotated : (u : List ℕ) × (v : List ℕ) × (u ++ v ≡ outline m) × (v ++ u ≡ corners m)
  corners_rotated = (halves.0, lowest_corner m ∷ halves.1, sym halves.2, sym corners_are)

  pub lowest_first : (t : List ℕ) × (corners m ≡ lowest_corner m ∷ t)
  lowest_first = (halves.1 ++ halves.0, corners_are)

  -- no corner stands twice, each is a point with a helper, and edges lead round
  pub corners_circuit : Circuit m (corners m)
  corners_circuit = rw corners_are rotated_circuit

  pub corners_distinct : T (distinct (corners m))
  corners_distinct = corners_circuit.all_distinct

  pub corners_members : (a : ℕ) → T (elem a (corners m)) ↔ T (elem a (outline m))
  corners_members a = (
    λ h.
        rw halves.2
        (elem_swap a (lowest_corner m ∷ halves.1) halves.0 (rw corners_are at h)),
    λ h. rw corners_are (elem_swap a halves.0 (lowest_corner m ∷ halves.1) (rw halves.2 at h)),
  )

  pub corners_length : length (corners m) ≡ length (outline m)
  corners_length =
      omega (
        arith,
        ap length corners_are,
        ap length halves.2,
        length-append halves.0 (lowest_corner m ∷ halves.1),
        length-append halves.1 halves.0,
      )

  -- the edge that leaves a corner leads to the one listed after it, and from the last to the first
  pub corner_next : (i : ℕ) → i < length (corners m) →
      next_corner m (get_or (corners m) i 0) ≡ get_or (corners m) ((i + 1) % length (corners m)) 0
  corner_next i h =
      cycle_at (λ a b. next_corner m a ≡ b) (corners m) i 0 h
      (cycle_change (Edge m) (λ a b. next_corner m a ≡ b) (corners m) (λ a b j k e. edge_next m a b e)
      corners_circuit.edges)

-- ---- fewer points

pub few_listed : (m : Map) → m.count < 2 → corners m ≡ table m.count (λ k. k)
unfolding corners
few_listed m h = rw (lt-ltb m.count 2 h)

-- "One point lists itself", and none lists nothing
pub one_listed : (m : Map) → m.count ≡ 1 → corners m ≡ 0 ∷ []
unfolding table
one_listed m e = few_listed m (omega arith) ∙ ap (λ (n : ℕ). table n (λ k. k)) e

pub none_listed : (m : Map) → m.count ≡ 0 → corners m ≡ []
unfolding table
none_listed m e = few_listed m (omega arith) ∙ ap (λ (n : ℕ). table n (λ k. k)) e
