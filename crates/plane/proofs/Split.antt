-- The visible edges are one run of the outline, in the order of this page: an outline cut at its
-- right corner and rotated, so that the hidden edges come first and the visible ones follow from the
-- left corner on; its lengths, members and count; that there is such a cut where just one corner is
-- left and just one right, and so where a point other than the numbered ones sees some edges, not all.
use mathlib.Core.Path.{◌≡◌, sym, ap, subst, ◌∙◌}
use mathlib.Core.Logic.{◌≢◌, ⊎_elim}
use mathlib.Core.Bool.{Bool, not}
use mathlib.Core.List.{List, [], ◌∷◌, ◌++◌, append_assoc}
use Prim.Native.Nat.{ℕ, suc, ◌+◌, ◌<◌}
use native.Mathlib.Omega.{arith}
use lib.Dec.{T, T_not}
use lib.ListN.{length, length-append}
use Rattle.finite.specs.Tests.{decide}
use Rattle.finite.specs.Lists.{elem, count_in}
use Rattle.finite.specs.ListLaws.{elem_head, elem_tail, elem_cases, elem_append_left}
use Rattle.finite.specs.ListLaws.{elem_append_right, elem_cut, elem_swap}
use Rattle.finite.specs.Distinct.{distinct_apart, count_in_append, count_in_swap, count_in_all}
use Rattle.finite.specs.Distinct.{count_in_none}
use Rattle.finite.specs.Cycles.{Chain, Cycle, chain_cut}
use Rattle.finite.specs.CycleLaws.{chain_front, chain_carry}
use Rattle.model.specs.declared.Point.{Point}
use Rattle.plane.proofs.Convex.{Link, Convex, sees, convex_swap}
use Rattle.plane.proofs.Corners.{LeftCorner, RightCorner, left_not_right, left_corner_unique, right_corner_unique}

-- s rotated is `r ∷ middle`, where the test p fails, then `l ∷ inner`, where it passes
pub record Split (next prev : ℕ → ℕ) (p : ℕ → Bool) (s : List ℕ) (l r : ℕ) : Type 0 where
  pub middle : List ℕ
  pub inner : List ℕ
  pub front : List ℕ
  pub back : List ℕ
  pub cut : s ≡ front ++ back
  pub rotated : back ++ front ≡ r ∷ middle ++ l ∷ inner
  pub is_right : RightCorner prev p s r
  pub is_left : LeftCorner prev p s l
  pub hidden : (a : ℕ) → T (elem a (r ∷ middle)) → ¬ T (p a)
  pub seen : (a : ℕ) → T (elem a (l ∷ inner)) → T (p a)
  pub hidden_chain : Chain (Link next prev) (r ∷ middle ++ l ∷ [])
  pub seen_chain : Chain (Link next prev) (l ∷ inner ++ r ∷ [])

module _ {next prev : ℕ → ℕ} {p : ℕ → Bool} {s : List ℕ} {l r : ℕ} (split : Split next prev p s l r) where
  -- from the right corner to the left: the corners that stay when a point arrives
  abbrev pub remaining : List ℕ
  remaining = r ∷ split.middle ++ l ∷ []

  pub remaining_rotated : split.back ++ split.front ≡ remaining ++ split.inner
  remaining_rotated =
      split.rotated ∙ ap (λ (t : List ℕ). r ∷ t) (sym (append_assoc split.middle (l ∷ []) split.inner))

  pub split_member : (a : ℕ) → T (elem a (remaining ++ split.inner)) → T (elem a s)
  split_member a m =
      rw split.cut (elem_swap a split.back split.front (rw remaining_rotated m))

  pub split_length : length remaining + length split.inner ≡ length s
  split_length =
      omega (
        arith,
        ap length split.cut,
        ap length remaining_rotated,
        length-append split.front split.back,
        length-append split.back split.front,
        length-append remaining split.inner,
      )

  -- as many visible edges as the left corner and the corners within
  pub split_count : count_in p s ≡ suc (length split.inner)
  split_count =
      omega (
        arith,
        ap (count_in p) split.cut,
        count_in_swap p split.front split.back,
        ap (count_in p) split.rotated,
        count_in_append p (r ∷ split.middle) (l ∷ split.inner),
        count_in_none p (r ∷ split.middle) split.hidden,
        count_in_all p (l ∷ split.inner) split.seen,
      )

  -- with one corner more for the arrival: corners then and visible edges are two more than corners before
  pub split_balance : suc (length remaining) + count_in p s ≡ length s + 2
  split_balance = omega (arith, split_length, split_count)

-- ---- there is a split where just one corner is left and just one right

module _ {n : ℕ} {P : ℕ → Point} {next prev : ℕ → ℕ} {s : List ℕ} (C : Convex n P next prev s)
    (p : ℕ → Bool) (l r : ℕ) (L : LeftCorner prev p s l) (R : RightCorner prev p s r)
    (only_left : (a : ℕ) → LeftCorner prev p s a → a ≡ l)
    (only_right : (a : ℕ) → RightCorner prev p s a → a ≡ r) where
  -- s = u ++ r ∷ v, rotated to begin at r
  module _ (u v middle inner : List ℕ) (cut : s ≡ u ++ r ∷ v)
      (rotated : r ∷ v ++ u ≡ r ∷ middle ++ l ∷ inner) where
    whole : Convex n P next prev (r ∷ middle ++ l ∷ inner)
    whole = subst (Convex n P next prev) rotated (convex_swap u (r ∷ v) (subst (Convex n P next prev) cut C))

    in_whole : (a : ℕ) → T (elem a (r ∷ middle ++ l ∷ inner)) → T (elem a s)
    in_whole a m = rw cut (elem_swap a (r ∷ v) u (subst (λ (t : List ℕ). T (elem a t)) (sym rotated) m))

    chains : Chain (Link next prev) (r ∷ middle ++ l ∷ []) × Chain (Link next prev) (l ∷ inner ++ r ∷ [])
    unfolding Cycle
    chains =
        chain_cut (Link next prev) (r ∷ middle) l (inner ++ r ∷ [])
        (subst (λ (t : List ℕ). Chain (Link next prev) (r ∷ t)) (append_assoc middle (l ∷ inner) (r ∷ []))
        whole.round)

    -- a corner where the test passes again would be a left one, so l, which stands further on
    fails : (a : ℕ) → T (elem a (r ∷ middle)) → ¬ T (p a)
    fails =
        chain_carry (Link next prev) (λ a. ¬ T (p a)) r middle
        (λ a b i j e h t.
        distinct_apart (r ∷ middle) (l ∷ inner) whole.all_distinct b (elem_tail b r middle j)
        (subst (λ (x : ℕ). T (elem x (l ∷ inner)))
        (sym
        (only_left b
        (record {
          member = in_whole b (elem_append_left b (r ∷ middle) (l ∷ inner) (elem_tail b r middle j));
          enters = rw e.1 h;
          leaves = t;
        })))
        (elem_head l inner)))
        (chain_front (Link next prev) (r ∷ middle) (l ∷ []) chains.0)
        R.leaves

    -- a corner where the test fails again would be a right one, so r, where the list began
    passes : (a : ℕ) → T (elem a (l ∷ inner)) → T (p a)
    passes =
        chain_carry (Link next prev) (λ a. T (p a)) l inner
        (λ a b i j e h.
        ⊎_elim (λ (t : T (p b)). t)
        (λ (t : T (not (p b))).
        absurd
        (distinct_apart (r ∷ middle) (l ∷ inner) whole.all_distinct r (elem_head r middle)
        (subst (λ (x : ℕ). T (elem x (l ∷ inner)))
        (only_right b
        (record {
          member = in_whole b (elem_append_right b (r ∷ middle) (l ∷ inner) (elem_tail b l inner j));
          enters = rw e.1 h;
          leaves = T_not (p b) t;
        }))
        (elem_tail b l inner j))))
        (decide (p b)))
        (chain_front (Link next prev) (l ∷ inner) (r ∷ []) chains.1)
        L.leaves

    split_rotated : Split next prev p s l r
    split_rotated =
        record {
          middle = middle;
          inner = inner;
          front = u;
          back = r ∷ v;
          cut = cut;
          rotated = rotated;
          is_right = R;
          is_left = L;
          hidden = fails;
          seen = passes;
          hidden_chain = chains.0;
          seen_chain = chains.1;
        }

  pub split_between : Split next prev p s l r
  split_between =
      let f = elem_cut r s R.member in
      let g = elem_cut l (f.1 ++ f.0) (later f.0 f.1 f.2) in
      split_rotated f.0 f.1 g.0 g.1 f.2 (ap (λ (t : List ℕ). r ∷ t) g.2)
    where
      later : (u v : List ℕ) → s ≡ u ++ r ∷ v → T (elem l (v ++ u))
      later u v e =
          ⊎_elim (λ (k : l ≡ r). absurd (left_not_right L R k)) (λ m. m)
          (elem_cases l r (v ++ u) (elem_swap l u (r ∷ v) (rw e at L.member)))

-- ---- the visible edges are one run

module _ {n : ℕ} {P : ℕ → Point} {next prev : ℕ → ℕ} {s : List ℕ} (C : Convex n P next prev s)
    (q : Point) (fresh : (c : ℕ) → c < n → q ≢ P c) where
  pub visible_split : (l r : ℕ) →
      LeftCorner prev (sees P next q) s l → RightCorner prev (sees P next q) s r →
      Split next prev (sees P next q) s l r
  visible_split l r L R =
      split_between C (sees P next q) l r L R (λ a A. left_corner_unique C q fresh a l A L)
      (λ a A. right_corner_unique C q fresh a r A R)
