-- One closed walk, in the order of this page: a part in which both links move every dart, as a
-- relation; there is just one such part where one dart's is closed and every dart whose part is
-- closed is reached from it; the number of closed walks is 1 just there.
use mathlib.Core.Path.{◌≡◌, sym, ◌∙◌}
use mathlib.Core.Logic.{◌≢◌}
use mathlib.Core.Bool.{Bool, ◌&&◌}
use mathlib.Core.List.{List, [], ◌∷◌}
use Prim.Native.Nat.{ℕ}
use native.Mathlib.Omega.{arith}
use lib.Dec.{T}
use lib.ListN.{length}
use Rattle.finite.specs.Tests.{and_left, and_right, and_both}
use Rattle.finite.specs.Lists.{elem, distinct, members}
use Rattle.finite.specs.ListLaws.{elem_head, elem_one}
use Rattle.finite.specs.Distinct.{distinct_cons}
use Rattle.orbits.specs.Reach.{Reach, here, there, by_two}
use Rattle.orbits.specs.Classes.{is_least, is_closed, closed_walks}
use Rattle.orbits.proofs.Reach.{Dart, Symmetric, reach_trans, reach_sym, by_two_each, one_link, by_first_link, by_second_link}
use Rattle.orbits.proofs.Classes.{Represents, closed_iff, least_represent, classes_represented}

-- both links move every dart of the part of a
abbrev pub ClosedPart : (ℕ → ℕ) → (ℕ → ℕ) → ℕ → Type 0
ClosedPart f g a = (d : ℕ) → Reach (by_two f g) a d → (f d ≢ d) × (g d ≢ d)

-- the part of a is closed, and no other part is
pub record OneClosed (n : ℕ) (present : ℕ → Bool) (f g : ℕ → ℕ) (a : ℕ) : Type 0 where
  pub dart : Dart n present a
  pub closed : ClosedPart f g a
  pub every : (d : ℕ) → Dart n present d → ClosedPart f g d → Reach (by_two f g) a d

-- the test that `closed_walks` counts by
abbrev in_closed : (ℕ → ℕ) → (ℕ → ℕ) → ℕ → (ℕ → Bool) → ℕ → Bool
in_closed f g n present a = present a && is_closed f g n a

-- a list of one member has no two
only_member : (s : List ℕ) (x y : ℕ) → length s ≡ 1 → T (elem x s) → T (elem y s) → x ≡ y
unfolding elem
only_member [] x y e m n = absurd m
only_member (a ∷ []) x y e m n = elem_one x a m ∙ sym (elem_one y a n)
only_member (a ∷ b ∷ s) x y e m n = absurd (omega arith)

module _ {n : ℕ} {present : ℕ → Bool} {f g : ℕ → ℕ} (w : Symmetric n present (by_two f g)) where
  closed_dart : {a : ℕ} → Dart n present a → ClosedPart f g a → Dart n (in_closed f g n present) a
  closed_dart {a} h c =
      record {
        below = h.below;
        is_present = and_both (present a) (is_closed f g n a) h.is_present ((closed_iff w.keeps h).1 c);
      }

  dart_of : {a : ℕ} → Dart n (in_closed f g n present) a → Dart n present a
  dart_of {a} h = record { below = h.below; is_present = and_left (present a) (is_closed f g n a) h.is_present }

  closed_of : {a : ℕ} → Dart n (in_closed f g n present) a → ClosedPart f g a
  closed_of {a} h = (closed_iff w.keeps (dart_of h)).0 (and_right (present a) (is_closed f g n a) h.is_present)

  -- the links keep the closed parts
  closed_symmetric : Symmetric n (in_closed f g n present) (by_two f g)
  closed_symmetric =
      record {
        keeps =
            record {
              stays = λ {d} c h e.
                  closed_dart (w.keeps.stays c (dart_of h) e) (λ x r. closed_of h x (reach_trans (one_link c e) r));
            };
        back = λ {d} c h e. w.back c (dart_of h) e;
      }

  pub one_closed_by : {a : ℕ} → OneClosed n present f g a → closed_walks f g n present ≡ 1
  unfolding closed_walks distinct
  one_closed_by {a} one =
      sym
      (classes_represented closed_symmetric {s = a ∷ []}
      (record {
        all_distinct = distinct_cons a [] (λ m. m) tt;
        darts = λ x m. rw (elem_one x a m) (closed_dart one.dart one.closed);
        apart = λ x y m o r. elem_one x a m ∙ sym (elem_one y a o);
        every = λ d h.
            (a, elem_head a [], reach_sym w one.dart (one.every d (dart_of h) (closed_of h)));
      }))

  module _ (e : closed_walks f g n present ≡ 1) where
    least_closed : List ℕ
    least_closed = members n (λ a. in_closed f g n present a && is_least (by_two f g) n a)

    represented : Represents n (in_closed f g n present) (by_two f g) least_closed
    unfolding least_closed
    represented = least_represent closed_symmetric

    one_of : length least_closed ≡ 1
    unfolding closed_walks
    one_of = classes_represented closed_symmetric represented ∙ e

    -- then every dart whose part is closed reaches all others
    pub one_closed_at : {a : ℕ} → Dart n present a → ClosedPart f g a → OneClosed n present f g a
    one_closed_at {a} h c =
        record {
          dart = h;
          closed = c;
          every = λ d k o.
              let x = represented.every a (closed_dart h c) in
              let y = represented.every d (closed_dart k o) in
              reach_trans x.2
              (rw (only_member least_closed x.0 y.0 one_of x.1 y.1) (reach_sym w k y.2));
        }

-- ---- links that agree on a part reach the same in it

pub agree_reach : {f g f' g' : ℕ → ℕ} {a : ℕ} →
    ((d : ℕ) → Reach (by_two f' g') a d → (f d ≡ f' d) × (g d ≡ g' d)) →
    {b : ℕ} → Reach (by_two f g) a b → Reach (by_two f' g') a b
agree_reach same here = here
agree_reach {f} {g} {f'} {g'} {a} same {b} (there {b = c} r e) =
    let q = agree_reach same r in
    let s = same c q in
    by_two_each (Reach (by_two f' g') a) f g c b e (rw s.0 (reach_trans q (by_first_link f' g' c)))
    (rw s.1 (reach_trans q (by_second_link f' g' c)))

-- so a part that is closed by the one pair of links is closed by the other
pub agree_closed : {f g f' g' : ℕ → ℕ} {a : ℕ} →
    ((d : ℕ) → Reach (by_two f' g') a d → (f d ≡ f' d) × (g d ≡ g' d)) →
    ClosedPart f' g' a → ClosedPart f g a
agree_closed same c d r =
    let q = agree_reach same r in
    let s = same d q in
    (λ e. (c d q).0 (sym s.0 ∙ e), λ e. (c d q).1 (sym s.1 ∙ e))
