-- A map with one point more: the points and the notes of the new map are the old ones and the new one, so they
-- are sound where the new point is in range and no old one, and what is noted of it fits. Helpers, links and
-- reference are any.
use mathlib.Core.Path.{◌≡◌, ◌∙◌}
use mathlib.Core.Logic.{◌≢◌, ⊎_elim}
use mathlib.Core.Bool.{Bool, not}
use mathlib.Core.List.{List}
use Prim.Native.Nat.{ℕ, ◌≤◌, ◌<◌}
use native.Mathlib.Omega.{arith}
use borrow.Author.Tests.{eq-eqb, ne_eqb}
use lib.Dec.{T, T_not}
use lib.ListN.{length-set}
use lib.Seq.{get_or-set_same, get_or-set_other}
use Rattle.finite.specs.Tests.{decide, same_or_not}
use Rattle.finite.specs.Bounded.{below_suc}
use Rattle.model.specs.declared.Point.{Point}
use Rattle.model.specs.declared.Note.{Note}
use Rattle.model.specs.declared.Map.{Map}
use Rattle.model.specs.Plane.{origin, in_range}
use Rattle.model.specs.Maps.{point_limit, no_dart, own, helper, point, is_present, edge_link, note, no_note}
use Rattle.model.specs.Arrival.{freeing_none, freed_by, freeing, with_point}
use Rattle.model.proofs.Shape.{present_below}
use Rattle.model.specs.Shape.{Shaped, ShapedPoints, Fitting, ShapedNotes}

module _ {m : Map} (s : Shaped m) (room : m.count < point_limit) (p : Point) (noted : Note)
    (helpers : List Bool) (edge : List ℕ) (reference : ℕ) where
  pub point_new : point (with_point m p noted helpers edge reference) m.count ≡ p
  unfolding point with_point
  point_new = get_or-set_same m.points m.count p origin (rw s.points.points_whole room)

  pub point_old : (k : ℕ) → k ≢ m.count → point (with_point m p noted helpers edge reference) k ≡ point m k
  unfolding point with_point
  point_old k other = get_or-set_other m.points m.count k p origin other

  pub with_point_sound : T (in_range p) → ((k : ℕ) → k < m.count → point m k ≢ p) →
      ShapedPoints (with_point m p noted helpers edge reference)
  unfolding with_point
  with_point_sound ranged differs =
      record {
        points_whole = length-set m.points m.count p ∙ s.points.points_whole;
        ranged = λ k h.
            ⊎_elim
            (λ (l : k < m.count). rw (point_old k (omega arith)) (s.points.ranged k l))
            (λ (e : k ≡ m.count). rw (e, point_new) ranged)
            (below_suc m.count k h);
        distinct = λ j k l h.
            ⊎_elim
            (λ (b : k < m.count). rw (point_old j (omega arith), point_old k (omega arith)) (s.points.distinct j k l b))
            (λ (e : k ≡ m.count).
            rw (point_old j (omega arith), e, point_new) (differs j (omega arith)))
            (below_suc m.count k h);
        vacant = λ k h. rw (point_old k (omega arith)) (s.points.vacant k (omega arith));
      }

  pub note_new : note (with_point m p noted helpers edge reference) m.count ≡ noted
  unfolding note with_point
  note_new = get_or-set_same m.notes m.count noted no_note (rw s.notes.notes_whole room)

  pub note_old : (k : ℕ) → k ≢ m.count → note (with_point m p noted helpers edge reference) k ≡ note m k
  unfolding note with_point
  note_old k other = get_or-set_other m.notes m.count k noted no_note other

  pub with_point_noted : Fitting noted → ShapedNotes (with_point m p noted helpers edge reference)
  unfolding with_point
  with_point_noted fits =
      record {
        notes_whole = length-set m.notes m.count noted ∙ s.notes.notes_whole;
        fitting = λ k.
            ⊎_elim (λ (e : k ≡ m.count). rw (e, note_new) fits)
            (λ (n : k ≢ m.count). rw (note_old k n) (s.notes.fitting k)) (same_or_not k m.count);
        unnoted = λ k h. note_old k (omega arith) ∙ s.notes.unnoted k (omega arith);
      }

-- an arrival that frees no dart fits
pub freeing_none_fits : (kind : ℕ) → kind ≤ 3 → Fitting (freeing_none kind)
freeing_none_fits kind h = record { arrival_small = h; left_small = omega arith; right_small = omega arith }

-- so does one that frees darts, which are the map's, or none
module _ {m : Map} (s : Shaped m) where
  freed_most : (d other : ℕ) → d < own point_limit → freed_by (edge_link m) d other ≤ no_dart
  freed_most d other h =
      let most : edge_link m d ≤ no_dart =
      ⊎_elim
      (λ (t : T (is_present m d)).
      omega (arith, s.links.fits, present_below m (edge_link m d) (s.links.present d t)))
      (λ (t : T (not (is_present m d))). omega (arith, s.links.absent d (T_not (is_present m d) t)))
      (decide (is_present m d)) in
      ⊎_elim
      (λ (e : edge_link m d ≡ other). rw (eq-eqb (edge_link m d) other e) (omega arith))
      (λ (n : edge_link m d ≢ other). rw (ne_eqb (edge_link m d) other n) most)
      (same_or_not (edge_link m d) other)

  pub freeing_fits : (l r : ℕ) → l < point_limit → r < point_limit → Fitting (freeing m l r)
  freeing_fits l r h k =
      record {
        arrival_small = omega arith;
        left_small = freed_most (own l) (helper r) (omega arith);
        right_small = freed_most (helper r) (own l) (omega arith);
      }
