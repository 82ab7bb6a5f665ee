-- A claim passes just where it is the corner listing, begun at any corner: `claim_decides`. In the order of this page:
-- what a rotation is; what is tested of a claim, as statements; with no point, and with one; the one way from a
-- number to another; with two points or more; all of these.
-- With two points or more all others lie beside the edge from each number of a claim that passes to the one after
-- it, so that the claim leads round as the outline does. From its first number there is one way to go; the claim, and
-- the listing begun at that number, both go it until they are back there for the first time, so they are the same.
-- Document 02, request 103: "Right means: the claim is the corner listing, begun at any corner."
use mathlib.Core.Path.{◌≡◌, refl, sym, ap, subst, ◌∙◌}
use mathlib.Core.Logic.{◌≢◌, ⊎_elim}
use mathlib.Core.Bool.{Bool, not, ◌&&◌, ◌||◌}
use mathlib.Core.List.{List, [], ◌∷◌, ◌++◌}
use Prim.Native.Nat.{ℕ, zero, suc, ◌+◌, ◌%◌, ◌≤◌, ◌<◌}
use native.Mathlib.Nat.{mod-lt}
use native.Mathlib.Omega.{arith}
use lib.Dec.{T, ltb, eqb, ltb→lt, lt→ltb, eqb→eq, eqb-suc-zero}
use lib.ListN.{length, get_or, take, drop, take-append-drop, length-append}
use lib.Seq.{take-append_seam, drop-append_seam}
use Rattle.finite.specs.Tests.{and_left, and_right, and_both, or_cases, or_left, or_right, implies_use, implies_by}
use Rattle.finite.specs.Tests.{is_false, same_test, equal_by, differ_use, differ_by, same_or_not}
use Rattle.finite.specs.Bounded.{all, any, all_at, all_by, any_at, any_by}
use Rattle.finite.specs.Lists.{elem, same_by, same_list, all_in, distinct}
use Rattle.finite.specs.ListLaws.{elem_head, elem_tail, elem_cut, all_elem, all_in_by, same_list_eq, same_list_refl}
use Rattle.finite.specs.Distinct.{distinct_head, distinct_swap}
use Rattle.finite.specs.Cycles.{Chain, Cycle}
use Rattle.finite.specs.CycleLaws.{cycle_change, cycle_swap}
use Rattle.finite.specs.Rings.{cycle_at, cycle_by}
use Rattle.model.specs.declared.Point.{Point}
use Rattle.model.specs.declared.Map.{Map}
use Rattle.model.specs.Plane.{beside}
use Rattle.model.specs.Maps.{point}
use Rattle.model.specs.Outline.{next_corner, outline, corners}
use Rattle.model.specs.Marking.{begun_at, is_rotation}
use Rattle.model.specs.Shape.{Shaped}
use Rattle.maps.proofs.Circuits.{Edge, edge_next}
use Rattle.hull.proofs.Theorems.{outline_is_hull}
use Rattle.corners.proofs.Corners.{lowest_first, corners_circuit, corners_distinct, corners_members}
use Rattle.corners.proofs.Corners.{one_listed, none_listed}
use Rattle.corners.proofs.Listings.{places_differ, not_beside_point}
use Rattle.marking.specs.Claims.{aside_by, edge_at, claim_passes}

-- ---- a rotation

-- a list that is rotated is cut in two and put together in the other order ..
pub rotation_parts : (claim s : List ℕ) → T (is_rotation claim s) →
    (u : List ℕ) × (v : List ℕ) × (u ++ v ≡ s) × (v ++ u ≡ claim)
unfolding is_rotation begun_at
rotation_parts claim s r =
    let begun = any_at (suc (length s)) (λ i. same_list claim (begun_at i s)) r in
    let i = begun.0 in
    (take i s, drop i s, take-append-drop i s, sym (same_list_eq claim (begun_at i s) begun.2))

-- .. and one that is so cut and put together is rotated
pub rotation_by : (u v : List ℕ) → T (is_rotation (v ++ u) (u ++ v))
unfolding is_rotation begun_at
rotation_by u v =
    any_by (suc (length (u ++ v))) (λ i. same_list (v ++ u) (begun_at i (u ++ v))) (length u)
    (omega (arith, length-append u v))
    (rw (drop-append_seam u v, take-append_seam u v) (same_list_refl (v ++ u)))

-- ---- what is tested, as statements

-- the number at place i of a claim, and the one after it, or the first after the last
abbrev number : List ℕ → ℕ → ℕ
number claim i = get_or claim i 0

abbrev after : List ℕ → ℕ → ℕ
after claim i = number claim ((i + 1) % length claim)

-- what is asked at place i of a claim, of n points
record EdgeHolds (P : ℕ → Point) (n : ℕ) (claim : List ℕ) (i : ℕ) : Type 0 where
  pub below : number claim i < n
  pub once : i ≢ 0 → number claim i ≢ number claim 0
  pub others : (c : ℕ) → c < n → c ≢ number claim i → c ≢ after claim i →
      T (beside (P (number claim i)) (P (after claim i)) (P c))

module _ (P : ℕ → Point) (n : ℕ) where
  -- at one place, from the test ..
  edge_holds : (claim : List ℕ) (i : ℕ) → T (edge_at P n claim i) → EdgeHolds P n claim i
  edge_holds claim i t =
      let a = number claim i in
      let b = after claim i in
      let new = not (eqb a (number claim 0)) in
      let aside = all n (aside_by P a b) in
      let front = and_left (ltb a n && (eqb i 0 || new)) aside t in
      record {
        below = ltb→lt a n (and_left (ltb a n) (eqb i 0 || new) front);
        once = λ later.
            ⊎_elim (λ first. absurd (later (eqb→eq i 0 first))) (differ_use a (number claim 0))
            (or_cases (eqb i 0) new (and_right (ltb a n) (eqb i 0 || new) front));
        others = λ c h d e.
            implies_use (not (eqb c a) && not (eqb c b))
            (beside (P a) (P b) (P c))
            (all_at n (aside_by P a b) (and_right (ltb a n && (eqb i 0 || new)) aside t) c h)
            (and_both (not (eqb c a)) (not (eqb c b)) (differ_by c a d) (differ_by c b e));
      }

  -- .. and back
  edge_by : (claim : List ℕ) (i : ℕ) → EdgeHolds P n claim i → T (edge_at P n claim i)
  edge_by claim i e =
      let a = number claim i in
      let b = after claim i in
      let new = not (eqb a (number claim 0)) in
      and_both (ltb a n && (eqb i 0 || new)) (all n (aside_by P a b))
      (and_both (ltb a n) (eqb i 0 || new) (lt→ltb a n e.below)
      (⊎_elim
      (λ first. or_left (eqb i 0) new (equal_by i 0 first))
      (λ later. or_right (eqb i 0) new (differ_by a (number claim 0) (e.once later)))
      (same_or_not i 0)))
      (all_by n (aside_by P a b)
      (λ c h.
      implies_by (not (eqb c a) && not (eqb c b)) (beside (P a) (P b) (P c))
      (λ d.
      e.others c h (differ_use c a (and_left (not (eqb c a)) (not (eqb c b)) d))
      (differ_use c b (and_right (not (eqb c a)) (not (eqb c b)) d)))))

  -- of a claim that is not empty the same is asked at every place
  some_claimed : (x : ℕ) (t : List ℕ) →
      claim_passes P n (x ∷ t) ≡ all (length (x ∷ t)) (edge_at P n (x ∷ t))
  unfolding claim_passes
  some_claimed x t = rw (eqb-suc-zero (length t))

  -- so from a claim that passes to every place ..
  claim_holds : (x : ℕ) (t : List ℕ) → T (claim_passes P n (x ∷ t)) →
      (i : ℕ) → i < length (x ∷ t) → EdgeHolds P n (x ∷ t) i
  claim_holds x t p i h =
      edge_holds (x ∷ t) i (all_at (length (x ∷ t)) (edge_at P n (x ∷ t)) (rw (some_claimed x t) at p) i h)

  -- .. and back
  claim_by : (x : ℕ) (t : List ℕ) → ((i : ℕ) → i < length (x ∷ t) → EdgeHolds P n (x ∷ t) i) →
      T (claim_passes P n (x ∷ t))
  claim_by x t f =
      rw (some_claimed x t)
      (all_by (length (x ∷ t)) (edge_at P n (x ∷ t)) (λ i h. edge_by (x ∷ t) i (f i h)))

  -- each of its numbers is that of a point
  pub claim_below : (claim : List ℕ) → T (claim_passes P n claim) → T (all_in (λ k. ltb k n) claim)
  unfolding all_in
  claim_below [] p = tt
  claim_below (x ∷ t) p =
      all_in_by (λ k. ltb k n) (x ∷ t) 0 (λ i h. lt→ltb (number (x ∷ t) i) n (claim_holds x t p i h).below)

-- ---- no point, and one

-- no number is below 0, so that only the empty claim passes
none_decides : (P : ℕ → Point) (claim : List ℕ) → claim_passes P 0 claim ≡ is_rotation claim []
unfolding claim_passes is_rotation begun_at any same_by
none_decides P [] = refl
none_decides P (x ∷ t) =
    is_false (claim_passes P 0 (x ∷ t)) (λ p. omega (arith, (claim_holds P 0 x t p 0 (omega arith)).below))

-- only 0 is below 1, and it stands once
one_claimed : (P : ℕ → Point) (claim : List ℕ) → T (claim_passes P 1 claim) → claim ≡ 0 ∷ []
unfolding claim_passes
one_claimed P [] p = absurd p
one_claimed P (x ∷ []) p =
    let is_zero : x ≡ 0 = omega (arith, (claim_holds P 1 x [] p 0 (omega arith)).below) in rw is_zero
one_claimed P (x ∷ y ∷ t) p =
    let first = claim_holds P 1 x (y ∷ t) p 0 (omega arith) in
    let second = claim_holds P 1 x (y ∷ t) p 1 (omega arith) in
    absurd (second.once (omega arith) (omega arith))

-- a list of one number is its only rotation
one_rotated : (x : ℕ) (claim : List ℕ) → T (is_rotation claim (x ∷ [])) → claim ≡ x ∷ []
unfolding is_rotation begun_at any
one_rotated x claim r =
    let same = same_list claim (x ∷ []) in
    same_list_eq claim (x ∷ []) (⊎_elim (λ t. t) (λ t. t) (or_cases same same r))

-- so 0 alone passes, and is the listing of one point
one_decides : (P : ℕ → Point) (claim : List ℕ) → claim_passes P 1 claim ≡ is_rotation claim (0 ∷ [])
unfolding claim_passes all is_rotation begun_at any same_by
one_decides P claim =
    same_test (claim_passes P 1 claim) (is_rotation claim (0 ∷ []))
    (λ p. rw (one_claimed P claim p) tt)
    (λ r. rw (one_rotated 0 claim r) tt)

-- ---- one way

module _ (E : ℕ → ℕ → Type 0) where
  -- where each number leads to one only, there is one way from a to the first x met
  one_way : ((a b c : ℕ) → E a b → E a c → b ≡ c) → (x a : ℕ) (s t : List ℕ) → ¬ T (elem x s) → ¬ T (elem x t) →
      Chain E (a ∷ s ++ x ∷ []) → Chain E (a ∷ t ++ x ∷ []) → s ≡ t
  unfolding Chain
  one_way only x a [] [] n k c d = refl
  one_way only x a [] (b ∷ t) n k c d = absurd (k (rw (only a x b c.0 d.0) (elem_head b t)))
  one_way only x a (b ∷ s) [] n k c d = absurd (n (rw (only a x b d.0 c.0) (elem_head b s)))
  one_way only x a (b ∷ s) (e ∷ t) n k c d =
      let same = only a b e c.0 d.0 in
      rw (
        same,
        one_way only x e s t (λ h. n (elem_tail x b s h)) (λ h. k (elem_tail x e t h))
            (subst (λ (y : ℕ). Chain E (y ∷ s ++ x ∷ [])) same c.1) d.1,
      )

-- ---- two points or more

-- one of the first two numbers that is not a
another : (a : ℕ) → (c : ℕ) × (c < 2) × (c ≢ a)
another zero = (1, omega arith, omega arith)
another (suc a) = (0, omega arith, omega arith)

module _ {m : Map} (s : Shaped m) (two : 2 ≤ m.count) where
  -- a claim passes at the map's points
  abbrev passes : List ℕ → Bool
  passes = claim_passes (point m) m.count

  -- the outline has an edge from a to b
  abbrev Leads : ℕ → ℕ → Type 0
  Leads a b = T (elem a (outline m)) × (next_corner m a ≡ b)

  -- in the listing, begun at any corner, no number stands twice, and the edges lead round it
  listing_leads : (claim : List ℕ) → T (is_rotation claim (corners m)) → T (distinct claim) × Cycle Leads claim
  listing_leads claim r =
      let parts = rotation_parts claim (corners m) r in
      let edges =
      cycle_change (Edge m) Leads (corners m) (λ a b h k e. ((corners_members s two a).0 h, edge_next m a b e))
      (corners_circuit s two).edges in
      rw (← parts.3) (
        distinct_swap parts.0 parts.1 (rw parts.2 (corners_distinct s two)),
        cycle_swap Leads parts.0 parts.1 (rw parts.2 edges),
      )

  module _ (x : ℕ) (t : List ℕ) (p : T (passes (x ∷ t))) where
    holds : (i : ℕ) → i < length (x ∷ t) → EdgeHolds (point m) m.count (x ∷ t) i
    holds = claim_holds (point m) m.count x t p

    -- Each number leads to the one after it: all others lie beside the edge. If both were the same point, another
    -- would lie beside an edge from a point to itself.
    claim_leads : (i : ℕ) → i < length (x ∷ t) → Leads (number (x ∷ t) i) (after (x ∷ t) i)
    unfolding point
    claim_leads i h =
        let a = number (x ∷ t) i in
        let c = another a in
        (outline_is_hull s two a (after (x ∷ t) i)).1
        (record {
          from_below = (holds i h).below;
          to_below = (holds ((i + 1) % length (x ∷ t)) (mod-lt (i + 1) (omega arith))).below;
          differ = λ e.
              not_beside_point (point m a) (point m c.0)
              (subst (λ (b : ℕ). T (beside (point m a) (point m b) (point m c.0))) (sym e)
              ((holds i h).others c.0 (omega arith) c.2 (λ k. c.2 (k ∙ sym e))));
          others = (holds i h).others;
        })

    -- the first number stands nowhere else
    first_once : ¬ T (elem x t)
    first_once e =
        differ_use x x
        (all_elem (λ y. not (eqb y x)) t
        (all_in_by (λ y. not (eqb y x)) t 0
        (λ k h. differ_by (number t k) x ((holds (suc k) (omega arith)).once (omega arith))))
        x e)
        refl

    -- so from there the claim goes the way of the listing, begun there
    claim_begun : (u v : List ℕ) → corners m ≡ u ++ x ∷ v → T (is_rotation (x ∷ t) (corners m))
    unfolding Cycle
    claim_begun u v e =
        let begun : T (is_rotation (x ∷ v ++ u) (corners m)) = rw e (rotation_by u (x ∷ v)) in
        let listing = listing_leads (x ∷ v ++ u) begun in
        rw (one_way Leads (λ a b c f g. sym f.1 ∙ g.1) x x t (v ++ u) first_once
        (distinct_head x (v ++ u) listing.0) (cycle_by Leads (x ∷ t) 0 claim_leads) listing.1)
        begun

  -- a claim that passes is not empty, and the listing may begin at its first number
  passes_rotated : (claim : List ℕ) → T (passes claim) → T (is_rotation claim (corners m))
  unfolding claim_passes
  passes_rotated [] p = absurd (omega (arith, eqb→eq m.count 0 p))
  passes_rotated (x ∷ t) p =
      let cut = elem_cut x (corners m) ((corners_members s two x).1 (claim_leads x t p 0 (omega arith)).0) in
      claim_begun x t p cut.0 cut.1 cut.2

  -- a rotation of the listing is not empty, has no number twice, and all others lie beside each of its edges
  rotated_passes : (claim : List ℕ) → T (is_rotation claim (corners m)) → T (passes claim)
  unfolding point
  rotated_passes [] r =
      let parts = rotation_parts [] (corners m) r in
      absurd
      (omega (
        arith,
        ap length (lowest_first s two).1,
        simp length-append at (ap length parts.2),
        simp length-append at (ap length parts.3),
      ))
  rotated_passes (x ∷ t) r =
      let listing = listing_leads (x ∷ t) r in
      claim_by (point m) m.count x t
      (λ i h.
      let edge =
      (outline_is_hull s two (number (x ∷ t) i) (after (x ∷ t) i)).0 (cycle_at Leads (x ∷ t) i 0 h listing.1) in
      record {
        below = edge.from_below;
        once = places_differ (x ∷ t) listing.0 i 0 0 h (omega arith);
        others = edge.others;
      })

-- ---- in all

-- a claim passes just where it is the corner listing, begun at any corner
pub claim_decides : {m : Map} → Shaped m → (claim : List ℕ) →
    claim_passes (point m) m.count claim ≡ is_rotation claim (corners m)
claim_decides {m} s claim =
    ⊎_elim
    (λ (none : m.count ≡ 0).
    ap (λ (n : ℕ). claim_passes (point m) n claim) none ∙ none_decides (point m) claim
    ∙ sym (ap (is_rotation claim) (none_listed m none)))
    (λ (some : m.count ≢ 0).
    ⊎_elim
    (λ (one : m.count ≡ 1).
    ap (λ (n : ℕ). claim_passes (point m) n claim) one ∙ one_decides (point m) claim
    ∙ sym (ap (is_rotation claim) (one_listed m one)))
    (λ (more : m.count ≢ 1).
    let two : 2 ≤ m.count = omega arith in
    same_test (claim_passes (point m) m.count claim) (is_rotation claim (corners m))
    (passes_rotated s two claim) (rotated_passes s two claim))
    (same_or_not m.count 1))
    (same_or_not m.count 0)
