-- The loops that look for the lowest corner and list the corners, in this order, each with its
-- invariant and the laws of its start, of a step and of the end. What is found and what is still
-- ahead make up the answer together.
use mathlib.Core.Path.{◌≡◌, refl, sym, ap, subst, ◌∙◌}
use mathlib.Core.Logic.{◌≢◌}
use mathlib.Core.List.{List, [], ◌∷◌, ◌++◌, append_assoc, append-nil}
use Prim.Native.Nat.{ℕ, zero, suc, ◌+◌, ◌-◌, ◌≤◌, ◌<◌}
use native.Mathlib.Numerals.{add-one}
use native.Mathlib.Omega.{arith}
use lib.ListN.{length, take, set, replicate, length-replicate, length-set}
use lib.Seq.{take-suc-set, length-take-le}
use borrow.Author.Tests.{le-ltb}
use Rattle.finite.specs.Bounded.{table}
use Rattle.finite.specs.Lists.{ring}
use Rattle.finite.specs.Rings.{ring_last, ring_more}
use Rattle.model.specs.declared.Map.{Map}
use Rattle.model.specs.Maps.{point_limit, owner, point}
use Rattle.model.specs.Outline.{next_corner, corners_from, outline, lowest_corner, corners}
use Rattle.model.specs.Shape.{Shaped}
use Rattle.corners.specs.Listing.{ListsCorners, lower_of, lowest_of, lowest_round}
use Rattle.corners.proofs.Corners.{lowest_found, corners_lowest, few_listed}

-- ---- the lowest corner

module _ (m : Map) (start : ℕ) where
  -- the lower of `lowest` and of what is ahead, at most so many from corner a, is the lowest of all
  pub record Seeking (lowest a ahead : ℕ) : Type 0 where
    pub so_far : lowest_of (point m) lowest (ring (next_corner m) start ahead a) ≡ lowest_round m start

  pub seeking_first : {ahead : ℕ} → ahead ≡ m.count → Seeking start start ahead
  unfolding lowest_round corners_from
  seeking_first all = rw all (record { so_far = refl })

  module _ {lowest lowest' a b ahead : ℕ} (u : Seeking lowest a ahead) (more : 0 < ahead)
      (l : lowest' ≡ lower_of m lowest a) (to : b ≡ next_corner m a) where
    step : (on : ℕ) → ring (next_corner m) start ahead a ≡ a ∷ ring (next_corner m) start on b → Seeking lowest' b on
    unfolding lowest_of
    step on is = record { so_far = rw l (ap (lowest_of (point m) lowest) (sym is) ∙ u.so_far) }

    -- the next corner is the first ..
    pub seeking_last : b ≡ start → Seeking lowest' b 0
    seeking_last e = step 0 (rw to (ring_last (next_corner m) start ahead a more (sym to ∙ e)))

    -- .. or another one
    pub seeking_more : {on : ℕ} → on ≡ ahead - 1 → b ≢ start → Seeking lowest' b on
    seeking_more one_less n =
        rw one_less (step (ahead - 1) (rw to (ring_more (next_corner m) start ahead a more (λ e. n (to ∙ e)))))

  pub seeking_end : {lowest a ahead : ℕ} → Seeking lowest a ahead → ahead ≤ 0 → lowest ≡ lowest_round m start
  unfolding ring lowest_of
  seeking_end {lowest} {a} {ahead} u h =
      let none : ahead ≡ 0 = omega arith in (subst (Seeking lowest a) none u).so_far

-- from two points on the outline is what lies round from the reference's point ..
outline_from : (m : Map) → 2 ≤ m.count → outline m ≡ corners_from m (owner m.reference)
unfolding outline
outline_from m two = rw (le-ltb m.count 2 two)

-- .. and the lowest there is the lowest corner of a sound map
pub lowest_is : {m : Map} → Shaped m → 2 ≤ m.count → lowest_round m (owner m.reference) ≡ lowest_corner m
unfolding lowest_round
lowest_is {m} s two = ap (lowest_of (point m) (owner m.reference)) (sym (outline_from m two)) ∙ lowest_found s two

-- ---- the list

module _ (m : Map) (start : ℕ) where
  -- what is listed and what is ahead are the corners from `start`
  pub record Listing (points : List ℕ) (listed a ahead : ℕ) : Type 0 where
    pub whole : length points ≡ point_limit
    pub few : listed + ahead ≤ m.count
    pub so_far : take listed points ++ ring (next_corner m) start ahead a ≡ corners_from m start

  pub listing_first : {points : List ℕ} {ahead : ℕ} → length points ≡ point_limit → ahead ≡ m.count →
      Listing points 0 start ahead
  unfolding corners_from
  listing_first e all = rw all (record { whole = e; few = omega arith; so_far = refl })

  module _ {points : List ℕ} {listed a b ahead : ℕ} (u : Listing points listed a ahead) (more : 0 < ahead)
      (room : listed < point_limit) (to : b ≡ next_corner m a) where
    grown : (on : ℕ) → on < ahead → ring (next_corner m) start ahead a ≡ a ∷ ring (next_corner m) start on b →
        Listing (set points listed a) (listed + 1) b on
    grown on h is =
        record {
          whole = length-set points listed a ∙ u.whole;
          few = omega (arith, u.few);
          so_far =
              let inside : listed < length points = omega (arith, u.whole) in
              ap (λ (j : ℕ). take j (set points listed a) ++ ring (next_corner m) start on b) (add-one listed)
              ∙ ap (λ (t : List ℕ). t ++ ring (next_corner m) start on b) (take-suc-set points listed a inside)
              ∙ append_assoc (take listed points) (a ∷ []) (ring (next_corner m) start on b)
              ∙ ap (λ (t : List ℕ). take listed points ++ t) (sym is)
              ∙ u.so_far;
        }

    pub listing_last : b ≡ start → Listing (set points listed a) (listed + 1) b 0
    listing_last e = grown 0 more (rw to (ring_last (next_corner m) start ahead a more (sym to ∙ e)))

    pub listing_more : {on : ℕ} → on ≡ ahead - 1 → b ≢ start → Listing (set points listed a) (listed + 1) b on
    listing_more one_less n =
        rw one_less
        (grown (ahead - 1) (omega arith) (rw to (ring_more (next_corner m) start ahead a more (λ e. n (to ∙ e)))))

pub listing_end : {m : Map} → Shaped m → 2 ≤ m.count → {start : ℕ} → start ≡ lowest_corner m →
    {points : List ℕ} {listed a ahead : ℕ} → Listing m start points listed a ahead → ahead ≤ 0 →
    {n : ℕ} → n ≡ listed → ListsCorners m (record { points = points; count = n })
unfolding ring
listing_end {m} s two {start} is {points} {listed} {a} {ahead} u h {n} so_many =
    rw so_many
    (let none : ahead ≡ 0 = omega arith in
    let w = subst (Listing m start points listed a) none u in
    let fits : listed ≤ point_limit = omega (arith, u.few, s.links.fits) in
    let members : take listed points ≡ corners m =
    sym (append-nil (take listed points)) ∙ w.so_far ∙ ap (corners_from m) is ∙ sym (corners_lowest s two) in
    record {
      members = members;
      number = sym (length-take-le listed points (omega (arith, u.whole))) ∙ ap length members;
      whole = u.whole;
      fits = fits;
    })

-- one point or none
pub listing_few : {m : Map} → m.count < 2 → {n : ℕ} → n ≡ m.count →
    ListsCorners m (record { points = replicate point_limit 0; count = n })
unfolding table
listing_few {m} few {n} e =
    let members : take n (replicate point_limit 0) ≡ corners m =
    rw e (own_numbers m.count few ∙ sym (few_listed m few)) in
    record {
      members = members;
      number =
          sym
          (length-take-le n (replicate point_limit 0) (omega (arith, length-replicate {A = ℕ} point_limit 0)))
          ∙ ap length members;
      whole = length-replicate {A = ℕ} point_limit 0;
      fits = omega arith;
    }
  where
    own_numbers : (k : ℕ) → k < 2 → take k (replicate point_limit 0) ≡ table k (λ j. j)
    own_numbers zero h = refl
    own_numbers (suc zero) h = refl
    own_numbers (suc (suc k)) h = absurd (omega arith)
