-- Walks end, in the order of this page: what must hold of g; what one step does; the darts that a walk has seen; a walk
-- comes home just where its part is closed, and else ends loose at a dart that f fixes; it makes no
-- more moves than there are darts, so that more moves left change nothing.
-- When an edge step is due at d, the darts seen are the pairs that edge steps went along before.
-- They are closed under f, and under g but for the start and for what leads to d; and d is not one
-- of them. If f moves d, then d and f d are two more. The point step from f d leads to none of these
-- but the start: not to f d, for g fixes no dart that f moves; and every other one is g of a dart
-- seen before. When it leads to the start, the darts seen are the whole part, and f moves them all.
use mathlib.Core.Path.{◌≡◌, refl, sym, ◌∙◌, ap, subst}
use mathlib.Core.Logic.{◌⊎◌, inl, inr, ⊎_elim, ◌≢◌}
use mathlib.Core.Bool.{Bool}
use mathlib.Core.List.{List, [], ◌∷◌}
use Prim.Native.Nat.{ℕ, zero, suc, ◌+◌, ◌≤◌, ◌<◌}
use native.Mathlib.Nat.{le_refl}
use native.Mathlib.Omega.{arith}
use lib.Dec.{T, not_T}
use borrow.Author.Tests.{ne_eqb, eq-eqb}
use Rattle.finite.specs.Tests.{same_or_not}
use Rattle.finite.specs.Bounded.{count}
use Rattle.finite.specs.Counting.{count_mono, count_less, count_none}
use Rattle.finite.specs.Lists.{elem}
use Rattle.finite.specs.ListLaws.{elem_head, elem_tail, elem_cases}
use Rattle.finite.specs.Distinct.{count_members}
use Rattle.orbits.specs.Reach.{Reach, here, by_two}
use Rattle.orbits.specs.Classes.{is_fixed, is_closed}
use Rattle.orbits.specs.Walks.{ends, edge_step, point_step, walk}
use Rattle.orbits.specs.declared.Walk.{Walk}
use Rattle.orbits.specs.declared.Ending.TheVariants.{Home, Loose}
use Rattle.orbits.proofs.Reach.{Dart, reach_dart, reach_trans, by_first_link, by_second_link}
use Rattle.orbits.proofs.Classes.{closed_iff}
use Rattle.orbits.proofs.Permutations.{Permutes, Involutes, involution_permutes, part_keeps, part_holds}

-- In the part of a, g fixes only what f fixes, so a walk comes by an edge step to no dart that g
-- fixes. Without this it may go back there and come home: if f swaps 0 and 1 and g fixes both, the
-- walk from 0 makes four moves, to 1, 1, 0 and 0.
abbrev pub OpenEnds : (ℕ → ℕ) → (ℕ → ℕ) → ℕ → Type 0
OpenEnds f g a = (d : ℕ) → Reach (by_two f g) a d → g d ≡ d → f d ≡ d

pub open_ends_by : {n : ℕ} {present : ℕ → Bool} {f g : ℕ → ℕ} {a : ℕ} → Involutes n present f → Involutes n present g →
    ((d : ℕ) → Dart n present d → g d ≡ d → f d ≡ d) → Dart n present a → OpenEnds f g a
open_ends_by i j fixed h d r =
    fixed d (reach_dart (part_keeps (involution_permutes i) (involution_permutes j)) h r)

-- ---- steps

module _ (f g : ℕ → ℕ) (start : ℕ) where
  pub edge_fixed : (k d m : ℕ) → f d ≡ d → edge_step f g start (suc k) d m ≡ ends Loose d m
  unfolding edge_step is_fixed
  edge_fixed k d m e = rw (eq-eqb (f d) d e)

  pub edge_moved : (k d m : ℕ) → f d ≢ d → edge_step f g start (suc k) d m ≡ point_step f g start k (f d) (suc m)
  unfolding edge_step is_fixed
  edge_moved k d m e = rw (ne_eqb (f d) d e)

  pub point_home : (k d m : ℕ) → g d ≡ start → point_step f g start (suc k) d m ≡ ends Home (g d) (suc m)
  unfolding point_step
  point_home k d m e = rw (eq-eqb (g d) start e)

  pub point_on : (k d m : ℕ) → g d ≢ start → point_step f g start (suc k) d m ≡ edge_step f g start k (g d) (suc m)
  unfolding point_step
  point_on k d m e = rw (ne_eqb (g d) start e)

-- the same with enough moves left for c in all
module _ (f g : ℕ → ℕ) (start c : ℕ) where
  loose_same : (k d m : ℕ) → f d ≡ d → m < c → c ≤ k + m → edge_step f g start k d m ≡ ends Loose d m
  loose_same zero d m e l enough = absurd (omega arith)
  loose_same (suc k) d m e l enough = edge_fixed f g start k d m e

  home_same : (k d m : ℕ) → f d ≢ d → g (f d) ≡ start → suc m < c → c ≤ k + m →
      edge_step f g start k d m ≡ ends Home (g (f d)) (suc (suc m))
  home_same zero d m moves home l enough = absurd (omega arith)
  home_same (suc zero) d m moves home l enough = absurd (omega arith)
  home_same (suc (suc k)) d m moves home l enough =
      edge_moved f g start (suc k) d m moves ∙ point_home f g start k (f d) (suc m) home

  on_same : (k d m : ℕ) (w : Walk) → f d ≢ d → g (f d) ≢ start → suc m < c →
      ((l : ℕ) → c ≤ l + suc (suc m) → edge_step f g start l (g (f d)) (suc (suc m)) ≡ w) → c ≤ k + m →
      edge_step f g start k d m ≡ w
  on_same zero d m w moves away l later enough = absurd (omega arith)
  on_same (suc zero) d m w moves away l later enough = absurd (omega arith)
  on_same (suc (suc k)) d m w moves away l later enough =
      edge_moved f g start (suc k) d m moves ∙ (point_on f g start k (f d) (suc m) away ∙ later k (omega arith))

-- ---- the darts seen

-- an edge step is due at d, and the walk has gone along the darts of the list
record Walking (n : ℕ) (present : ℕ → Bool) (f g : ℕ → ℕ) (start : ℕ) (seen : List ℕ) (d : ℕ) : Type 0 where
  reach : Reach (by_two f g) start d
  darts : (x : ℕ) → T (elem x seen) → Dart n present x
  moved : (x : ℕ) → T (elem x seen) → f x ≢ x
  first : (x : ℕ) → T (elem x seen) → T (elem (f x) seen)
  second : (x : ℕ) → T (elem x seen) → T (elem (g x) seen) ⊎ (g x ≡ d) ⊎ (x ≡ start)
  new : ¬ T (elem d seen)
  from : (d ≡ start) ⊎ T (elem (g d) seen)
  begun : (d ≡ start) ⊎ T (elem start seen)

walking_none : {n : ℕ} {present : ℕ → Bool} {f g : ℕ → ℕ} (start : ℕ) → Walking n present f g start [] start
unfolding elem
walking_none start =
    record {
      reach = here;
      darts = λ x h. absurd h;
      moved = λ x h. absurd h;
      first = λ x h. absurd h;
      second = λ x h. absurd h;
      new = λ h. h;
      from = inl refl;
      begun = inl refl;
    }

-- the darts of one edge more
abbrev with_edge : (ℕ → ℕ) → ℕ → List ℕ → List ℕ
with_edge f d seen = d ∷ f d ∷ seen

module _ (f : ℕ → ℕ) (d : ℕ) (seen : List ℕ) where
  edge_first : T (elem d (with_edge f d seen))
  edge_first = elem_head d (f d ∷ seen)

  edge_second : T (elem (f d) (with_edge f d seen))
  edge_second = elem_tail (f d) d (f d ∷ seen) (elem_head (f d) seen)

  edge_old : (x : ℕ) → T (elem x seen) → T (elem x (with_edge f d seen))
  edge_old x m = elem_tail x d (f d ∷ seen) (elem_tail x (f d) seen m)

  edge_each : (Q : ℕ → Type 0) → Q d → Q (f d) → ((x : ℕ) → T (elem x seen) → Q x) →
      (x : ℕ) → T (elem x (with_edge f d seen)) → Q x
  edge_each Q a b old x m =
      ⊎_elim
      (λ (e : x ≡ d). rw e a)
      (λ (t : T (elem x (f d ∷ seen))).
      ⊎_elim (λ (e : x ≡ f d). rw e b) (old x) (elem_cases x (f d) seen t))
      (elem_cases x d (f d ∷ seen) m)

module _ {n : ℕ} {present : ℕ → Bool} {f g : ℕ → ℕ} (i : Involutes n present f) (j : Involutes n present g)
    {start : ℕ} (h : Dart n present start) (open_ends : OpenEnds f g start) where
  p : Permutes n present f
  p = involution_permutes i

  q : Permutes n present g
  q = involution_permutes j

  module _ {seen : List ℕ} {d : ℕ} (w : Walking n present f g start seen d) where
    at : Dart n present d
    at = reach_dart (part_keeps p q) h w.reach

    second_new : ¬ T (elem (f d) seen)
    second_new m = w.new (subst (λ (x : ℕ). T (elem x seen)) (i.twice at) (w.first (f d) m))

    more_first : (x : ℕ) → T (elem x (with_edge f d seen)) → T (elem (f x) (with_edge f d seen))
    more_first =
        edge_each f d seen (λ x. T (elem (f x) (with_edge f d seen))) (edge_second f d seen)
        (rw (i.twice at) (edge_first f d seen)) (λ x m. edge_old f d seen (f x) (w.first x m))

    more_second : (x : ℕ) → T (elem x (with_edge f d seen)) →
        T (elem (g x) (with_edge f d seen)) ⊎ (g x ≡ g (f d)) ⊎ (x ≡ start)
    more_second =
        edge_each f d seen (λ x. T (elem (g x) (with_edge f d seen)) ⊎ (g x ≡ g (f d)) ⊎ (x ≡ start))
        (⊎_elim (λ e. inr (inr e)) (λ m. inl (edge_old f d seen (g d) m)) w.from)
        (inr (inl refl))
        (λ x m.
        ⊎_elim (λ t. inl (edge_old f d seen (g x) t))
        (⊎_elim (λ (e : g x ≡ d). inl (rw e (edge_first f d seen))) (λ e. inr (inr e))) (w.second x m))

    more_begun : T (elem start (with_edge f d seen))
    more_begun =
        ⊎_elim
        (λ (e : d ≡ start). subst (λ (x : ℕ). T (elem x (with_edge f d seen))) e (edge_first f d seen))
        (edge_old f d seen start) w.begun

    module _ (moves : f d ≢ d) where
      more_moved : (x : ℕ) → T (elem x (with_edge f d seen)) → f x ≢ x
      more_moved = edge_each f d seen (λ x. f x ≢ x) moves (λ e. moves (sym e ∙ i.twice at)) w.moved

      -- the point step leads to a dart not seen, or home
      more_new : g (f d) ≢ start → ¬ T (elem (g (f d)) (with_edge f d seen))
      more_new away m = edge_each f d seen (λ x. x ≢ g (f d)) not_first not_second not_old (g (f d)) m refl
        where
          back : (x : ℕ) → x ≡ g (f d) → g x ≡ f d
          back x e = ap g e ∙ j.twice (i.stays at)

          not_first : d ≢ g (f d)
          not_first e =
              ⊎_elim
              (λ (u : d ≡ start). away (sym e ∙ u))
              (λ (t : T (elem (g d) seen)). second_new (rw (back d e) at t))
              w.from

          not_second : f d ≢ g (f d)
          not_second e =
              moves
              (sym (open_ends (f d) (reach_trans w.reach (by_first_link f g d)) (sym e)) ∙ i.twice at)

          not_old : (x : ℕ) → T (elem x seen) → x ≢ g (f d)
          not_old x t e =
              ⊎_elim
              (λ (u : T (elem (g x) seen)). second_new (rw (back x e) at u))
              (⊎_elim
              (λ (u : g x ≡ d). moves (sym (back x e) ∙ u))
              (λ (u : x ≡ start). away (sym e ∙ u)))
              (w.second x t)

      walking_more : g (f d) ≢ start → Walking n present f g start (with_edge f d seen) (g (f d))
      walking_more away =
          record {
            reach = reach_trans w.reach (reach_trans (by_first_link f g d) (by_second_link f g (f d)));
            darts = edge_each f d seen (Dart n present) at (i.stays at) w.darts;
            moved = more_moved;
            first = more_first;
            second = more_second;
            new = more_new away;
            from = inr (rw (j.twice (i.stays at)) (edge_second f d seen));
            begun = inr more_begun;
          }

      -- at home all of the part has been seen
      home_moved : g (f d) ≡ start → (x : ℕ) → Reach (by_two f g) start x → f x ≢ x
      home_moved home x r =
          more_moved x
          (part_holds p q (λ z. T (elem z (with_edge f d seen))) h (λ z k m. more_first z m)
          (λ z k m.
          ⊎_elim (λ t. t)
          (⊎_elim
          (λ (e : g z ≡ g (f d)). rw (e ∙ home) more_begun)
          (λ (e : z ≡ start).
          rw (ap g (e ∙ sym home) ∙ j.twice (i.stays at)) (edge_second f d seen)))
          (more_second z m))
          r more_begun)

      more_count : count n (λ x. elem x (with_edge f d seen)) ≡ suc (suc (count n (λ x. elem x seen)))
      more_count =
          count_members n d (f d ∷ seen) at.below
          (λ m. ⊎_elim (λ (e : d ≡ f d). moves (sym e)) w.new (elem_cases d (f d) seen m)) ∙
          ap suc (count_members n (f d) seen (i.stays at).below second_new)

    -- there is room for d
    room : count n (λ x. elem x seen) < count n present
    room =
        count_less n d (λ x. elem x seen) present (λ x l m. (w.darts x m).is_present) at.below
        (not_T (elem d seen) w.new) at.is_present

    -- and for its edge
    room_more : f d ≢ d → suc (count n (λ x. elem x seen)) < count n present
    room_more moves =
        omega (
          arith,
          more_count moves,
          count_mono n (λ x. elem x (with_edge f d seen)) present
              (λ x l m. (edge_each f d seen (Dart n present) at (i.stays at) w.darts x m).is_present),
        )

-- ---- how a walk ends

-- back at the start, in a part in which f moves every dart
pub record CameHome (f g : ℕ → ℕ) (start : ℕ) (w : Walk) : Type 0 where
  pub ending : w.ending ≡ Home
  pub last : w.last ≡ start
  pub moved : (d : ℕ) → Reach (by_two f g) start d → f d ≢ d

-- at a dart of the part that f fixes
pub record EndedLoose (f g : ℕ → ℕ) (start : ℕ) (w : Walk) : Type 0 where
  pub ending : w.ending ≡ Loose
  pub fixed : f w.last ≡ w.last
  pub reach : Reach (by_two f g) start w.last

-- the walk that goes on at d with m moves made ends the same way with any number of moves left that
-- is enough for the darts
record Ends (n : ℕ) (present : ℕ → Bool) (f g : ℕ → ℕ) (start d m : ℕ) : Type 0 where
  result : Walk
  same : (k : ℕ) → count n present ≤ k + m → edge_step f g start k d m ≡ result
  within : result.moves ≤ count n present
  how : CameHome f g start result ⊎ EndedLoose f g start result

module _ {n : ℕ} {present : ℕ → Bool} {f g : ℕ → ℕ} (i : Involutes n present f) (j : Involutes n present g)
    {start : ℕ} (h : Dart n present start) (open_ends : OpenEnds f g start) where
  walk_on : (k m : ℕ) (seen : List ℕ) (d : ℕ) → Walking n present f g start seen d →
      count n (λ x. elem x seen) ≡ m → count n present ≤ k + m → Ends n present f g start d m
  walk_on zero m seen d w e enough = absurd (omega (arith, room i j h open_ends w))
  walk_on (suc k) m seen d w e enough =
      ⊎_elim
      (λ (fixed : f d ≡ d).
      let l : m < count n present = omega (arith, room i j h open_ends w) in
      record {
        result = ends Loose d m;
        same = λ b. loose_same f g start (count n present) b d m fixed l;
        within = omega arith;
        how = inr (record { ending = refl; fixed = fixed; reach = w.reach });
      })
      (λ (moves : f d ≢ d).
      let l : suc m < count n present = omega (arith, room_more i j h open_ends w moves) in
      ⊎_elim
      (λ (home : g (f d) ≡ start).
      record {
        result = ends Home (g (f d)) (suc (suc m));
        same = λ b. home_same f g start (count n present) b d m moves home l;
        within = l;
        how = inl (record { ending = refl; last = home; moved = home_moved i j h open_ends w moves home });
      })
      (λ (away : g (f d) ≢ start).
      let later = walk_on k (suc (suc m)) (with_edge f d seen) (g (f d)) (walking_more i j h open_ends w moves away)
      (more_count i j h open_ends w moves ∙ ap (λ (c : ℕ). suc (suc c)) e) (omega arith) in
      record {
        result = later.result;
        same = λ b. on_same f g start (count n present) b d m later.result moves away l later.same;
        within = later.within;
        how = later.how;
      })
      (same_or_not (g (f d)) start))
      (same_or_not (f d) d)

  walk_ends : Ends n present f g start start 0
  unfolding elem
  walk_ends =
      walk_on (count n present) 0 [] start (walking_none start) (count_none n (λ x. elem x []) (λ k l t. t)) (omega arith)

-- ---- the theorems

module _ {n : ℕ} {present : ℕ → Bool} {f g : ℕ → ℕ} (i : Involutes n present f) (j : Involutes n present g)
    {a : ℕ} (h : Dart n present a) (k : ℕ) (enough : count n present ≤ k) where
  walk_is : (open_ends : OpenEnds f g a) → walk f g k a ≡ (walk_ends i j h open_ends).result
  unfolding walk
  walk_is open_ends = (walk_ends i j h open_ends).same k (omega arith)

  -- a walk makes no more moves than there are darts
  pub walk_within : OpenEnds f g a → (walk f g k a).moves ≤ count n present
  walk_within open_ends = rw (walk_is open_ends) (walk_ends i j h open_ends).within

  walk_how : OpenEnds f g a → CameHome f g a (walk f g k a) ⊎ EndedLoose f g a (walk f g k a)
  walk_how open_ends = rw (walk_is open_ends) (walk_ends i j h open_ends).how

  -- from a dart of a closed part a walk comes home
  pub walk_home : T (is_closed f g n a) → CameHome f g a (walk f g k a)
  walk_home t =
      ⊎_elim (λ c. c) (λ l. absurd ((closed (walk f g k a).last l.reach).0 l.fixed))
      (walk_how (λ d r e. absurd ((closed d r).1 e)))
    where
      closed : (d : ℕ) → Reach (by_two f g) a d → (f d ≢ d) × (g d ≢ d)
      closed = (closed_iff (part_keeps (involution_permutes i) (involution_permutes j)) h).0 t

  -- from a dart of any other part it ends loose
  pub walk_loose : OpenEnds f g a → ¬ T (is_closed f g n a) → EndedLoose f g a (walk f g k a)
  walk_loose open_ends t =
      ⊎_elim
      (λ c.
      absurd (t ((closed_iff (part_keeps (involution_permutes i) (involution_permutes j)) h).1
      (λ d r. (c.moved d r, λ e. c.moved d r (open_ends d r e))))))
      (λ l. l) (walk_how open_ends)

-- more moves left change nothing
pub walk_enough : {n : ℕ} {present : ℕ → Bool} {f g : ℕ → ℕ} → Involutes n present f → Involutes n present g →
    {a : ℕ} → Dart n present a → OpenEnds f g a → (k : ℕ) → count n present ≤ k →
    walk f g k a ≡ walk f g (count n present) a
walk_enough {n} {present} i j h open_ends k enough =
    walk_is i j h k enough open_ends ∙ sym (walk_is i j h (count n present) (le_refl (count n present)) open_ends)
