-- The way round an outline on which a point looks for the corners where what it sees turns and counts the
-- edges that it sees, in the order of this page: a corner that is sought; the corners still ahead; the invariant; the laws of its start, of a corner passed and of the end.
-- What is found and what is still ahead make up the answer together. So nothing has to be said of the
-- corners that were passed.
use mathlib.Core.Path.{◌≡◌, refl, sym, ap, subst, ◌∙◌}
use mathlib.Core.Logic.{◌≢◌}
use mathlib.Core.Bool.{Bool, true, false, beq, not, cond, ◌&&◌, and_comm}
use mathlib.Core.List.{List, [], ◌∷◌}
use Prim.Native.Nat.{ℕ, ◌+◌, ◌-◌, ◌≤◌, ◌<◌}
use native.Mathlib.Omega.{arith}
use lib.Dec.{T}
use borrow.Author.Tests.{le-ltb}
use Rattle.std.specs.declared.option.Option.{Option}
use Rattle.std.specs.declared.option.Option.TheVariants.{Some, None}
use Rattle.std.specs.Option.{unwrap_or}
use Rattle.finite.specs.Bounded.{one_if}
use Rattle.finite.specs.Counting.{one_if_small}
use Rattle.finite.specs.Lists.{elem, count_in, first_in, ring}
use Rattle.finite.specs.Rings.{ring_last, ring_more}
use Rattle.model.specs.declared.Point.{Point}
use Rattle.model.specs.declared.Map.{Map}
use Rattle.model.specs.Plane.{sees_edge}
use Rattle.model.specs.Maps.{own, helper, owner, point, edge_link}
use Rattle.model.specs.Outline.{next_corner, previous_corner, corners_from, outline, sees, visible_edges}
use Rattle.model.specs.Shape.{Shaped}
use Rattle.model.specs.Arrival.{turning_left, turning_right}
use Rattle.maps.proofs.Links.{sound_linked}
use Rattle.maps.proofs.Circuits.{edge_next, edge_previous}
use Rattle.maps.proofs.Outline.{outline_first, outline_next, outline_previous}
use Rattle.sight.specs.Requires.{OutlineFor}
use Rattle.sight.specs.Sight.{sought_at, turning}

-- ---- a corner that is sought

-- the corner sought if it is found, else the first ahead that passes
abbrev settled : Option ℕ → (ℕ → Bool) → List ℕ → ℕ
settled (Some k) test ahead = k
settled None test ahead = first_in test 0 ahead

sought_settles : (test : ℕ → Bool) (s : Option ℕ) (before after : Bool) (a : ℕ) (ahead : List ℕ) →
    test a ≡ (not before && after) → settled (sought_at s before after a) test ahead ≡ settled s test (a ∷ ahead)
unfolding first_in
sought_settles test (Some k) before after a ahead is = refl
sought_settles test None before after a ahead is = go (not before && after) is
  where
    go : (t : Bool) → test a ≡ t → settled (cond t (Some a) None) test ahead ≡ settled None test (a ∷ ahead)
    go true e = rw e
    go false e = rw e

settled_end : (s : Option ℕ) (test : ℕ → Bool) → settled s test [] ≡ unwrap_or s 0
unfolding first_in
settled_end (Some k) test = refl
settled_end None test = refl

-- ---- the corners ahead

module _ (m : Map) where
  -- from a on, at most so many
  abbrev corners_ahead : ℕ → ℕ → List ℕ
  corners_ahead ahead a = ring (next_corner m) (owner m.reference) ahead a

-- ---- a corner whose two edges are both visible, or both hidden, is not sought

module _ (a : ℕ) where
  pub unsought : (s : Option ℕ) (b c : Bool) → not (beq b c) ≡ false → s ≡ sought_at s b c a
  unsought (Some k) b c e = refl
  unsought None true c e = refl
  unsought None false true e = absurd (subst T e tt)
  unsought None false false e = refl

  pub unsought_back : (s : Option ℕ) (b c : Bool) → not (beq c b) ≡ false → s ≡ sought_at s b c a
  unsought_back (Some k) b c e = refl
  unsought_back None true c e = refl
  unsought_back None false true e = absurd (subst T e tt)
  unsought_back None false false e = refl

-- ---- the invariant

module _ (m : Map) (p : Point) where
  abbrev is_left : ℕ → Bool
  is_left a = not (sees m p (previous_corner m a)) && sees m p a

  abbrev is_right : ℕ → Bool
  is_right a = sees m p (previous_corner m a) && not (sees m p a)

  -- a is the first corner ahead, and `entering` says whether its entering edge is visible
  pub record SightAhead (entering : Bool) (left right : Option ℕ) (visible a ahead : ℕ) : Type 0 where
    pub on : T (elem a (outline m))
    pub few : visible + ahead ≤ m.count
    pub entered : entering ≡ sees m p (previous_corner m a)
    pub left_is : settled left is_left (corners_ahead m ahead a) ≡ turning_left m p
    pub right_is : settled right is_right (corners_ahead m ahead a) ≡ turning_right m p
    pub visible_is : visible + count_in (sees m p) (corners_ahead m ahead a) ≡ visible_edges m p

  -- what the code tests of an edge
  leaves : {leaving : Bool} (a b : ℕ) → b ≡ next_corner m a →
      leaving ≡ sees_edge (point m a) (point m b) p → leaving ≡ sees m p a
  unfolding sees
  leaves a b to e = rw to at e

  module _ (o : OutlineFor m p) where
    abbrev s : Shaped m
    s = o.accepted.is_sound

    -- nothing is found at first, and all of the outline is ahead
    pub at_first : {last ahead : ℕ} {entering : Bool} → ahead ≡ m.count → last ≡ previous_corner m (owner m.reference) →
        entering ≡ sees_edge (point m last) (point m (owner m.reference)) p →
        SightAhead entering None None 0 (owner m.reference) ahead
    unfolding outline corners_from turning_left turning_right visible_edges
    at_first {last} {ahead} {entering} all from e =
        rw all
        (let start = owner m.reference in
        let first = outline_first s o.two in
        let edge : edge_link m (own last) ≡ helper start =
        rw from
        (ap (edge_link m) (sym (outline_previous s o.two start first).0) ∙ s.links.undone (helper start)) in
        record {
          on = first;
          few = omega arith;
          entered = leaves last start (sym (edge_next m last start edge)) e ∙ ap (sees m p) from;
          left_is = rw (le-ltb m.count 2 o.two);
          right_is = rw (le-ltb m.count 2 o.two);
          visible_is = rw (le-ltb m.count 2 o.two) (omega arith);
        })

    module _ {entering leaving : Bool} {left right left' right' : Option ℕ} {visible visible' a b ahead : ℕ}
        (u : SightAhead entering left right visible a ahead) (more : 0 < ahead)
        (to : b ≡ next_corner m a) (edge : leaving ≡ sees_edge (point m a) (point m b) p)
        (l : left' ≡ sought_at left entering leaving a) (r : right' ≡ sought_at right leaving entering a)
        (v : visible' ≡ visible + one_if leaving) where
      -- corner a is passed, and so many are ahead then
      passed : (on : ℕ) → on < ahead → corners_ahead m ahead a ≡ a ∷ corners_ahead m on b →
          SightAhead leaving left' right' visible' b on
      unfolding count_in
      passed on h is =
          let n = outline_next s o.two a u.on in
          let e = leaves a b to edge in
          record {
            on = rw to n.1;
            few = omega (arith, u.few, one_if_small leaving);
            entered = rw to (e ∙ ap (sees m p) (sym (edge_previous (sound_linked s) a (next_corner m a) n.0)));
            left_is =
                rw l
                (sought_settles is_left left entering leaving a (corners_ahead m on b) (rw (u.entered, e))
                ∙ (ap (settled left is_left) (sym is) ∙ u.left_is));
            right_is =
                rw r
                (sought_settles is_right right leaving entering a (corners_ahead m on b)
                (rw (u.entered, e) (and_comm (sees m p (previous_corner m a)) (not (sees m p a))))
                ∙ (ap (settled right is_right) (sym is) ∙ u.right_is));
            visible_is = omega (arith, ap one_if e, ap (count_in (sees m p)) is, u.visible_is);
          }

      -- none, since the next corner is the first ..
      pub passed_last : b ≡ owner m.reference → SightAhead leaving left' right' visible' b 0
      passed_last e =
          passed 0 more
          (rw to (ring_last (next_corner m) (owner m.reference) ahead a more (sym to ∙ e)))

      -- .. or one less
      pub passed_one : {on : ℕ} → on ≡ ahead - 1 → b ≢ owner m.reference → SightAhead leaving left' right' visible' b on
      passed_one one_less n =
          rw one_less
          (passed (ahead - 1) (omega arith)
          (rw to (ring_more (next_corner m) (owner m.reference) ahead a more (λ e. n (to ∙ e)))))

    -- none is ahead, and all is found
    pub at_end : {entering : Bool} {left right : Option ℕ} {visible a ahead : ℕ} →
        SightAhead entering left right visible a ahead → ahead ≤ 0 →
        record { left = unwrap_or left 0; right = unwrap_or right 0; visible = visible } ≡ turning m p
    unfolding ring count_in
    at_end {entering} {left} {right} {visible} {a} {ahead} u h =
        let none : ahead ≡ 0 = omega arith in
        let w = subst (SightAhead entering left right visible a) none u in
        let l = sym (settled_end left is_left) ∙ w.left_is in
        let r = sym (settled_end right is_right) ∙ w.right_is in
        let v : visible ≡ visible_edges m p = omega (arith, w.visible_is) in
        λ i. record { left = l i; right = r i; visible = v i }
