-- A fan summed up triangle by triangle, in the order of this page: what is summed up and what is still ahead
-- make up the whole, and neither is negative; the start, at the last corner, whose edge leads to the first;
-- one triangle more; the end; the same over the corners of a map.
use mathlib.Core.Path.{◌≡◌, sym, ap, subst, ◌∙◌}
use mathlib.Core.List.{List, [], ◌∷◌, ◌++◌, map, map-append}
use Prim.Native.Nat.{ℕ, suc, ◌+◌, ◌-◌, ◌≤◌, ◌<◌}
use native.Mathlib.Numerals.{add-one}
use native.Mathlib.Omega.{arith}
use lib.IntN.{ℤ, pos, ◌+ℤ◌, +ℤ_idl, +ℤ_idr, +ℤ_assoc}
use lib.ListN.{length, get_or, take, drop, drop_of_length-le}
use lib.Seq.{take-suc, take_all, drop-cons}
use lib.Signed.{◌≤ℤ◌, ≤ℤ_refl}
use Rattle.integers.specs.Order.{order, +ℤ_splits}
use Rattle.integers.specs.Sign.{sum_nonneg}
use Rattle.integers.specs.Range.{Bounded, splits_bounded}
use Rattle.finite.specs.Cycles.{Chain, Cycle, cycle_rotate}
use Rattle.model.specs.declared.Point.{Point}
use Rattle.model.specs.declared.Map.{Map}
use Rattle.model.specs.Plane.{orientation}
use Rattle.model.specs.Maps.{point}
use Rattle.model.specs.Area.{path_sum, fan, area_limit}
use Rattle.plane.proofs.Fan.{fan_swap, path_sum_nonneg}
use Rattle.measures.specs.Areas.{Fanned}

-- q sees no right turn from a to b
abbrev NotRight : Point → Point → Point → Type 0
NotRight q a b = pos 0 ≤ℤ orientation q a b

-- the way round s is at a, and still has to go along the rest
pub record Summing (q : Point) (s : List Point) (total : ℤ) (a : Point) (rest : List Point) : Type 0 where
  pub whole : total +ℤ path_sum q a rest ≡ fan q s
  pub so_far : pos 0 ≤ℤ total
  pub ahead : Chain (NotRight q) (a ∷ rest)

module _ (q : Point) where
  -- from the last point, round the whole list
  summing_first : (s : List Point) (z : Point) → Cycle (NotRight q) (s ++ z ∷ []) →
      Summing q (s ++ z ∷ []) (pos 0) z (s ++ z ∷ [])
  unfolding fan Cycle
  summing_first s z c =
      record {
        whole = +ℤ_idl (path_sum q z (s ++ z ∷ [])) ∙ sym (fan_swap q s (z ∷ []));
        so_far = ≤ℤ_refl (pos 0);
        ahead = cycle_rotate (NotRight q) s z [] c;
      }

  module _ {s : List Point} {total : ℤ} {a : Point} where
    summing_more : {b : Point} {rest : List Point} → Summing q s total a (b ∷ rest) →
        Summing q s (total +ℤ orientation q a b) b rest
    unfolding path_sum Chain
    summing_more {b} {rest} h =
        record {
          whole = +ℤ_assoc total (orientation q a b) (path_sum q b rest) ∙ h.whole;
          so_far = sum_nonneg h.so_far h.ahead.0;
          ahead = h.ahead.1;
        }

    summing_last : Summing q s total a [] → total ≡ fan q s
    unfolding path_sum
    summing_last h = sym (+ℤ_idr total) ∙ h.whole

    -- no part is larger than the whole
    summing_bounded : {rest : List Point} → Summing q s total a rest → fan q s ≤ℤ pos area_limit → Bounded area_limit total
    summing_bounded {rest} h limit =
        omega (
          arith,
          order,
          splits_bounded,
          h.whole,
          h.so_far,
          +ℤ_splits total (path_sum q a rest),
          path_sum_nonneg q a rest h.ahead,
          limit,
        )

-- ---- the corners of a map

-- the way is at corner a, with the corners from place i on ahead
pub record SummingAt (m : Map) (corners : List ℕ) (q : Point) (total : ℤ) (a i : ℕ) : Type 0 where
  way : Summing q (map (point m) corners) total (point m a) (map (point m) (drop i corners))

module _ {m : Map} {corners : List ℕ} {q : Point} (f : Fanned m corners q) where
  -- the corners up to the last one, and the last one
  last_apart : map (point m) corners ≡
      map (point m) (take (length corners - 1) corners) ++ point m (get_or corners (length corners - 1) 0) ∷ []
  last_apart =
      let n = length corners in
      let count : n ≡ suc (n - 1) = omega (arith, f.some) in
      ap (map (point m))
      (sym (take_all n corners (omega arith)) ∙ ap (λ (k : ℕ). take k corners) count
      ∙ take-suc corners (n - 1) 0 (omega (arith, f.some)))
      ∙ map-append (point m) (take (n - 1) corners) (get_or corners (n - 1) 0 ∷ [])

  pub at_first : SummingAt m corners q (pos 0) (get_or corners (length corners - 1) 0) 0
  at_first =
      let last = point m (get_or corners (length corners - 1) 0) in
      record {
        way =
            subst (λ (s : List Point). Summing q s (pos 0) last s) (sym last_apart)
            (summing_first q (map (point m) (take (length corners - 1) corners)) last
            (subst (Cycle (NotRight q)) last_apart f.terms));
      }

  module _ {total : ℤ} {a i : ℕ} (h : SummingAt m corners q total a i) where
    pub within : Bounded area_limit total
    within = summing_bounded q h.way f.limit

    -- the corners ahead are these
    ahead_are : (t : List ℕ) → drop i corners ≡ t →
        Summing q (map (point m) corners) total (point m a) (map (point m) t)
    ahead_are t e =
        subst (λ (u : List ℕ). Summing q (map (point m) corners) total (point m a) (map (point m) u)) e h.way

    pub one_more : i < length corners →
        SummingAt m corners q (total +ℤ orientation q (point m a) (point m (get_or corners i 0))) (get_or corners i 0)
        (i + 1)
    one_more l =
        record {
          way =
              rw add-one
              (summing_more q (ahead_are (get_or corners i 0 ∷ drop (suc i) corners) (drop-cons corners i 0 l)));
        }

    pub at_end : length corners ≤ i → total ≡ fan q (map (point m) corners)
    at_end l = summing_last q (ahead_are [] (drop_of_length-le corners {i = i} l))
