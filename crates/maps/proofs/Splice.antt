-- A new point k between a left corner l and a right corner r, in the order of this page: how the new
-- edge link differs from the old one (`Splices`); the new links are sound; the edges that stay; k and
-- the corners from r to l are a circuit; with the old outline cut, no other part is closed.
-- Both the second point (l and r are point 0) and an outside point come between so.
use mathlib.Core.Path.{◌≡◌, refl, sym, ap, subst, ◌∙◌}
use mathlib.Core.Logic.{◌≢◌, ◌⊎◌, inl, inr, ⊎_elim}
use mathlib.Core.List.{List, [], ◌∷◌, ◌++◌, append_assoc}
use Prim.Native.Nat.{ℕ, suc, ◌%◌, ◌≤◌, ◌<◌}
use native.Mathlib.Omega.{arith}
use lib.Dec.{T, T_not}
use lib.ListN.{length}
use Rattle.finite.specs.Tests.{decide, same_or_not}
use Rattle.finite.specs.Lists.{elem, distinct}
use Rattle.finite.specs.ListLaws.{elem_head, elem_tail, elem_cases, elem_one, elem_append, elem_append_left}
use Rattle.finite.specs.ListLaws.{elem_append_right}
use Rattle.finite.specs.Distinct.{distinct_head, distinct_cons, distinct_left, distinct_apart}
use Rattle.finite.specs.Cycles.{Chain, Cycle, chain_cut, chain_join}
use Rattle.finite.specs.CycleLaws.{chain_change, chain_next}
use Rattle.orbits.specs.Sets.{dart_limit}
use Rattle.orbits.specs.Reach.{Reach}
use Rattle.orbits.proofs.Reach.{reach_sym}
use Rattle.orbits.proofs.Permutations.{first_second_other}
use Rattle.orbits.proofs.ClosedWalks.{ClosedPart, one_closed_at, agree_reach, agree_closed}
use Rattle.model.specs.declared.Map.{Map}
use Rattle.model.specs.Maps.{point_limit, own, helper, owner, has_helper, is_present, edge_link, point_link}
use Rattle.model.specs.Outline.{next_corner}
use Rattle.model.specs.Shape.{Shaped, ShapedLinks}
use Rattle.maps.proofs.Darts.{owner_own, owner_helper, own_differs, own_injective, helper_injective, by_present, own_present, helper_present, present_owner, present_dart}
use Rattle.maps.proofs.Links.{Linked, sound_linked, links, DartOf, links_symmetric}
use Rattle.maps.proofs.Circuits.{Edge, Circuit, edge_next, circuit_dart, circuit_stays, circuit_closed_part}
use Rattle.maps.proofs.Soundness.{links_linked}

-- d is none of the four darts that are newly linked, and was not linked with one of them
pub record Elsewhere (m : Map) (l r d : ℕ) : Type 0 where
  pub not_left : d ≢ own l
  pub not_right : d ≢ helper r
  pub not_own : d ≢ own m.count
  pub not_helper : d ≢ helper m.count
  pub not_to_left : edge_link m d ≢ own l
  pub not_to_right : edge_link m d ≢ helper r

-- "The left corner's own dart l and the right corner's helper r lose their edge partners, which become
-- fixed unless they are l and r themselves. New edge links are l with 2k + 1, and 2k with r. Nothing
-- else changes."
pub record Splices (m m' : Map) (l r : ℕ) : Type 0 where
  pub count_grows : m'.count ≡ suc m.count
  pub helpers_whole : length m'.helpers ≡ point_limit
  pub edge_whole : length m'.edge ≡ dart_limit
  pub helped_left : T (has_helper m' l)
  pub helped_right : T (has_helper m' r)
  pub helped_new : T (has_helper m' m.count)
  pub helped_old : (j : ℕ) → T (has_helper m j) → T (has_helper m' j)
  pub helped_owned : (j : ℕ) → T (has_helper m' j) → j < m'.count
  pub at_left : edge_link m' (own l) ≡ helper m.count
  pub at_helper : edge_link m' (helper m.count) ≡ own l
  pub at_right : edge_link m' (helper r) ≡ own m.count
  pub at_own : edge_link m' (own m.count) ≡ helper r
  pub cut :
      (d : ℕ) → d ≢ own l → d ≢ helper r → (edge_link m d ≡ own l) ⊎ (edge_link m d ≡ helper r) →
      edge_link m' d ≡ d
  pub elsewhere : (d : ℕ) → Elsewhere m l r d → edge_link m' d ≡ edge_link m d

module _ {m m' : Map} {l r : ℕ} (z : Splices m m' l r) where
  -- a dart is one of the four, or is fixed, or is linked as before
  pub by_splice {ℓ} : (Q : ℕ → ℕ → Type ℓ) →
      Q (own l) (helper m.count) → Q (helper m.count) (own l) →
      Q (helper r) (own m.count) → Q (own m.count) (helper r) →
      ((d : ℕ) → edge_link m' d ≡ d → Q d d) →
      ((d : ℕ) → Elsewhere m l r d → Q d (edge_link m d)) → (d : ℕ) → Q d (edge_link m' d)
  by_splice Q a b c e fixed other d =
      ⊎_elim (λ (i : d ≡ own l). rw (i, z.at_left) a)
      (⊎_elim (λ (i : d ≡ helper r). rw (i, z.at_right) c)
      (λ i.
      ⊎_elim (λ (j : d ≡ own m.count). rw (j, z.at_own) e)
      (⊎_elim (λ (j : d ≡ helper m.count). rw (j, z.at_helper) b)
      (λ j.
      ⊎_elim (λ t. fixed_at i.0 i.1 (inl t))
      (⊎_elim (λ t. fixed_at i.0 i.1 (inr t))
      (λ t.
      let o : Elsewhere m l r d =
      record {
        not_left = i.0;
        not_right = i.1;
        not_own = j.0;
        not_helper = j.1;
        not_to_left = t.0;
        not_to_right = t.1;
      } in
      rw (z.elsewhere d o) (other d o)))
      (first_second_other (own l) (helper r) (edge_link m d))))
      (first_second_other (own m.count) (helper m.count) d)))
      (first_second_other (own l) (helper r) d)
    where
      fixed_at : d ≢ own l → d ≢ helper r → (edge_link m d ≡ own l) ⊎ (edge_link m d ≡ helper r) →
          Q d (edge_link m' d)
      fixed_at i j t = let f = z.cut d i j t in rw f (fixed d f)

  -- after l comes the new point, and after that r
  pub splice_next_left : next_corner m' l ≡ m.count
  splice_next_left = edge_next m' l m.count z.at_left

  pub splice_next_new : next_corner m' m.count ≡ r
  splice_next_new = edge_next m' m.count r z.at_own

-- what is kept of an old circuit: k and the kept corners, l and r among them, are a circuit, and the
-- corner after each of them but l is the one it was
pub record Kept (m m' : Map) (l r : ℕ) (kept : List ℕ) : Type 0 where
  pub corners : List ℕ
  pub was : Circuit m corners
  pub kept_was : (x : ℕ) → T (elem x kept) → T (elem x corners)
  pub left_kept : T (elem l kept)
  pub right_kept : T (elem r kept)
  pub new_circuit : Circuit m' (m.count ∷ kept)
  pub kept_next : (x : ℕ) → T (elem x kept) → x ≢ l → next_corner m' x ≡ next_corner m x

-- the corners from r to l
abbrev pub arc : ℕ → List ℕ → ℕ → List ℕ
arc r between l = r ∷ between ++ l ∷ []

module _ {m m' : Map} (s : Shaped m) (room : m.count < point_limit) {l r : ℕ}
    (left_old : l < m.count) (right_old : r < m.count) (z : Splices m m' l r) where
  -- the old edge link fixes the new darts, for they were absent
  new_fixed : (d : ℕ) → m.count ≤ owner d → edge_link m d ≡ d
  new_fixed d h = s.links.absent d (λ t. omega (arith, present_owner m d t))

  -- a dart that is not linked with a new dart was not
  not_to_new : (d e : ℕ) → m.count ≤ owner e → d ≢ e → edge_link m d ≢ e
  not_to_new d e h other i = other (sym (s.links.undone d) ∙ (ap (edge_link m) i ∙ new_fixed e h))

  elsewhere_link : (d : ℕ) → Elsewhere m l r d → Elsewhere m l r (edge_link m d)
  elsewhere_link d o =
      record {
        not_left = o.not_to_left;
        not_right = o.not_to_right;
        not_own = not_to_new d (own m.count) (omega arith) o.not_own;
        not_helper = not_to_new d (helper m.count) (omega arith) o.not_helper;
        not_to_left = rw (s.links.undone d) o.not_left;
        not_to_right = rw (s.links.undone d) o.not_right;
      }

  pub splice_present : (d : ℕ) → T (is_present m d) → T (is_present m' d)
  splice_present =
      by_present m (λ d. T (is_present m' d)) (λ k h. own_present m' k (omega arith))
      (λ k h t. helper_present m' k (omega arith) (z.helped_old k t))

  left_present : T (is_present m' (own l))
  left_present = own_present m' l (omega arith)

  right_present : T (is_present m' (helper r))
  right_present = helper_present m' r (omega arith) z.helped_right

  new_own_present : T (is_present m' (own m.count))
  new_own_present = own_present m' m.count (omega arith)

  new_helper_present : T (is_present m' (helper m.count))
  new_helper_present = helper_present m' m.count (omega arith) z.helped_new

  splice_absent : (d : ℕ) → ¬ T (is_present m' d) → edge_link m' d ≡ d
  splice_absent =
      by_splice z (λ d e. ¬ T (is_present m' d) → e ≡ d) (λ none. absurd (none left_present))
      (λ none. absurd (none new_helper_present)) (λ none. absurd (none right_present))
      (λ none. absurd (none new_own_present)) (λ d f none. refl)
      (λ d o none. s.links.absent d (λ t. none (splice_present d t)))

  splice_stays : (d : ℕ) → T (is_present m' d) → T (is_present m' (edge_link m' d))
  splice_stays =
      by_splice z (λ d e. T (is_present m' d) → T (is_present m' e)) (λ t. new_helper_present) (λ t. left_present)
      (λ t. new_own_present) (λ t. right_present) (λ d f t. t)
      (λ d o t.
      ⊎_elim (λ p. splice_present (edge_link m d) (s.links.present d p))
      (λ p. rw (s.links.absent d (T_not (is_present m d) p)) t) (decide (is_present m d)))

  splice_undone : (d : ℕ) → edge_link m' (edge_link m' d) ≡ d
  splice_undone =
      by_splice z (λ d e. edge_link m' e ≡ d) z.at_helper z.at_left z.at_own z.at_right (λ d f. f)
      (λ d o. z.elsewhere (edge_link m d) (elsewhere_link d o) ∙ s.links.undone d)

  splice_crossing : (d : ℕ) → edge_link m' d ≢ d → d % 2 ≢ edge_link m' d % 2
  splice_crossing =
      by_splice z (λ d e. e ≢ d → d % 2 ≢ e % 2) (λ h. omega arith) (λ h. omega arith) (λ h. omega arith)
      (λ h. omega arith) (λ d f h. absurd (h refl)) (λ d o. s.links.crossing d)

  splice_leaving : (d : ℕ) → edge_link m' d ≢ d → owner d ≢ owner (edge_link m' d)
  splice_leaving =
      by_splice z (λ d e. e ≢ d → owner d ≢ owner e) (λ h. omega arith) (λ h. omega arith) (λ h. omega arith)
      (λ h. omega arith) (λ d f h. absurd (h refl)) (λ d o. s.links.leaving d)

  splice_lone : (j : ℕ) → ¬ T (has_helper m' j) → edge_link m' (own j) ≡ own j
  splice_lone j none =
      by_splice z (λ d e. d ≡ own j → e ≡ d) (λ i. absurd (no_own l z.helped_left i))
      (λ i. absurd (own_differs j m.count (sym i))) (λ i. absurd (own_differs j r (sym i)))
      (λ i. absurd (no_own m.count z.helped_new i))
      (λ d f i. refl) (λ d o i. rw i (s.links.lone j (λ t. none (z.helped_old j t)))) (own j) refl
    where
      no_own : (k : ℕ) → T (has_helper m' k) → own k ≢ own j
      no_own k t i = none (subst (λ (e : ℕ). T (has_helper m' e)) (own_injective i) t)

  pub splice_links : ShapedLinks m'
  splice_links =
      record {
        helpers_whole = z.helpers_whole;
        edge_whole = z.edge_whole;
        fits = omega arith;
        owned = z.helped_owned;
        absent = splice_absent;
        present = splice_stays;
        undone = splice_undone;
        crossing = splice_crossing;
        leaving = splice_leaving;
        lone = splice_lone;
      }

  linked : Linked m'
  linked = links_linked splice_links

  -- ---- a circuit r .. l .. lost: its edges from r to l stay, and the new one is k, r .. l

  module _ (between lost : List ℕ) (c : Circuit m (r ∷ between ++ l ∷ lost)) where
    arc_cut : r ∷ between ++ l ∷ lost ≡ arc r between l ++ lost
    arc_cut = sym (append_assoc (r ∷ between) (l ∷ []) lost)

    arc_old : (x : ℕ) → T (elem x (arc r between l)) → T (elem x (r ∷ between ++ l ∷ lost))
    arc_old x h = rw arc_cut (elem_append_left x (arc r between l) lost h)

    left_in_arc : T (elem l (arc r between l))
    left_in_arc = elem_append_right l (r ∷ between) (l ∷ []) (elem_head l [])

    right_in_arc : T (elem r (arc r between l))
    right_in_arc = elem_head r (between ++ l ∷ [])

    arc_distinct : T (distinct (arc r between l))
    arc_distinct = distinct_left (arc r between l) lost (rw arc_cut at c.all_distinct)

    arc_below : (x : ℕ) → T (elem x (arc r between l)) → x < m.count
    arc_below x h = c.below x (arc_old x h)

    -- an edge between neighbours from r to l stays: it leaves no l and enters no r
    edge_stays : (x y : ℕ) → T (elem x (r ∷ between)) → T (elem y (between ++ l ∷ [])) → Edge m x y → Edge m' x y
    edge_stays x y h k e =
        z.elsewhere (own x)
        (record {
          not_left = λ i.
              distinct_apart (r ∷ between) (l ∷ lost) c.all_distinct x h (rw (own_injective i) (elem_head l lost));
          not_right = own_differs x r;
          not_own = λ i. omega (arith, c.below x (elem_append_left x (r ∷ between) (l ∷ lost) h));
          not_helper = own_differs x m.count;
          not_to_left = λ i. own_differs l y (sym i ∙ e);
          not_to_right = λ i. r_not_later (subst (λ (w : ℕ). T (elem w (between ++ l ∷ []))) (helper_injective (sym e ∙ i)) k);
        }) ∙ e
      where
        r_not_later : ¬ T (elem r (between ++ l ∷ []))
        r_not_later = distinct_head r (between ++ l ∷ []) arc_distinct

    -- the edges of the arc, in the old map and in the new
    both_edges : Chain (λ x y. Edge m x y × Edge m' x y) (arc r between l)
    unfolding Cycle
    both_edges =
        chain_change (Edge m) (λ x y. Edge m x y × Edge m' x y) r between l
        (λ x y h k e. (e, edge_stays x y h k e))
        (chain_cut (Edge m) (r ∷ between) l (lost ++ r ∷ [])
        (subst (λ (t : List ℕ). Chain (Edge m) (r ∷ t)) (append_assoc between (l ∷ lost) (r ∷ [])) c.edges)).0

    edges_stay : Chain (Edge m') (arc r between l)
    edges_stay =
        chain_change (λ x y. Edge m x y × Edge m' x y) (Edge m') r between l (λ x y h k e. e.1) both_edges

    -- from r to the corner before l the next corner stays
    pub splice_next : (x : ℕ) → T (elem x (r ∷ between)) → next_corner m' x ≡ next_corner m x
    splice_next x h =
        let n = chain_next (λ x y. Edge m x y × Edge m' x y) x l (r ∷ between) both_edges h in
        edge_next m' x n.0 n.2.1 ∙ sym (edge_next m x n.0 n.2.0)

    pub splice_circuit : Circuit m' (m.count ∷ arc r between l)
    unfolding Cycle Chain
    splice_circuit =
        record {
          all_distinct =
              distinct_cons m.count (arc r between l) (λ h. omega (arith, arc_below m.count h)) arc_distinct;
          below = λ a h.
              ⊎_elim (λ (e : a ≡ m.count). omega arith) (λ o. omega (arith, arc_below a o))
              (elem_cases a m.count (arc r between l) h);
          helped = λ a h.
              ⊎_elim (λ (e : a ≡ m.count). rw e z.helped_new) (λ o. z.helped_old a (c.helped a (arc_old a o)))
              (elem_cases a m.count (arc r between l) h);
          edges = (
            z.at_own,
            subst (λ (t : List ℕ). Chain (Edge m') (r ∷ t)) (sym (append_assoc between (l ∷ []) (m.count ∷ [])))
                (chain_join (Edge m') (r ∷ between) l (m.count ∷ []) edges_stay (z.at_left, tt)),
          );
        }

    pub arc_kept : Kept m m' l r (arc r between l)
    arc_kept =
        record {
          corners = r ∷ between ++ l ∷ lost;
          was = c;
          kept_was = arc_old;
          left_kept = left_in_arc;
          right_kept = right_in_arc;
          new_circuit = splice_circuit;
          kept_next = λ x h other.
              ⊎_elim (splice_next x) (λ (i : T (elem x (l ∷ []))). absurd (other (elem_one x l i)))
              (elem_append x (r ∷ between) (l ∷ []) h);
        }

  -- ---- no other part is closed
  --
  -- Take a closed part off the new circuit. None of the four darts newly linked lies on it, nor one of their
  -- old partners that is fixed now. So on it the links are the old ones, and it is a closed part of the
  -- old map, which had just one: that with own l on it, which is on the new circuit.

  module _ (kept : List ℕ) (K : Kept m m' l r kept) where
    module _ (two : 2 ≤ m.count) (helped_same : (j : ℕ) → j ≢ m.count → has_helper m' j ≡ has_helper m j) where
      abbrev On : ℕ → Type 0
      On d = T (elem (owner d) (m.count ∷ kept))

      on_new : (d : ℕ) → owner d ≡ m.count → On d
      on_new d e = rw e (elem_head m.count kept)

      on_kept : (d x : ℕ) → owner d ≡ x → T (elem x kept) → On d
      on_kept d x e h = rw e (elem_tail x m.count kept h)

      left_on : On (own l)
      left_on = on_kept (own l) l (owner_own l) K.left_kept

      old : Linked m
      old = sound_linked s

      left_old_on : T (elem (owner (own l)) K.corners)
      left_old_on = rw (owner_own l) (K.kept_was l K.left_kept)

      left_dart : DartOf m (own l)
      left_dart = circuit_dart K.was (own l) left_old_on

      -- a dart off the circuit that is moved is linked as before
      same_edge : (d : ℕ) → ¬ On d → edge_link m' d ≢ d → edge_link m d ≡ edge_link m' d
      same_edge =
          by_splice z (λ d e. ¬ On d → e ≢ d → edge_link m d ≡ e)
          (λ off h. absurd (off left_on))
          (λ off h. absurd (off (on_new (helper m.count) (owner_helper m.count))))
          (λ off h. absurd (off (on_kept (helper r) r (owner_helper r) K.right_kept)))
          (λ off h. absurd (off (on_new (own m.count) (owner_own m.count))))
          (λ d f off h. absurd (h refl)) (λ d o off h. refl)

      same_point : (d : ℕ) → ¬ On d → point_link m d ≡ point_link m' d
      unfolding point_link
      same_point d off = rw (helped_same (owner d) (λ e. off (on_new d e)))

      old_present : (d : ℕ) → ¬ On d → T (is_present m' d) → T (is_present m d)
      old_present d off t =
          by_present m' (λ e. ¬ On e → T (is_present m e))
          (λ k h o. own_present m k (not_new k (own k) h (owner_own k) o))
          (λ k h u o.
          let below = not_new k (helper k) h (owner_helper k) o in
          helper_present m k below (rw (helped_same k (omega arith)) at u))
          d t off
        where
          not_new : (k e : ℕ) → k < m'.count → owner e ≡ k → ¬ On e → k < m.count
          not_new k e h i o =
              ⊎_elim (λ (j : k ≡ m.count). absurd (o (on_new e (i ∙ j)))) (λ (j : k ≢ m.count). omega arith)
              (same_or_not k m.count)

      module _ (d : ℕ) (dart : DartOf m' d) (closed : ClosedPart (edge_link m') (point_link m') d)
          (off : ¬ On d) where
        -- all of its part lies off the circuit, so the old links agree with the new ones on it
        off_all : (x : ℕ) → Reach (links m') d x → ¬ On x
        off_all x t on = off (circuit_stays linked K.new_circuit (reach_sym (links_symmetric linked) dart t) on)

        agree : (x : ℕ) → Reach (links m') d x →
            (edge_link m x ≡ edge_link m' x) × (point_link m x ≡ point_link m' x)
        agree x t = (same_edge x (off_all x t) (closed x t).0, same_point x (off_all x t))

        -- so it is a closed part of the old map, which had only one, with l on it
        not_off : ⊥
        not_off =
            let only =
            one_closed_at (links_symmetric old) (s.outlined two).one_walk left_dart
            (circuit_closed_part old K.was (own l) left_old_on) in
            let old_dart = present_dart m d (old_present d off dart.is_present) in
            let was = only.every d old_dart (agree_closed agree closed) in
            off_all (own l) (agree_reach agree (reach_sym (links_symmetric old) left_dart was)) left_on

      pub splice_every : (d : ℕ) → DartOf m' d → ClosedPart (edge_link m') (point_link m') d → On d
      splice_every d dart closed =
          let test = elem (owner d) (m.count ∷ kept) in
          ⊎_elim (λ on. on) (λ off. absurd (not_off d dart closed (T_not test off))) (decide test)

-- ---- l alone is kept, where it is r too: the new point and l link each other

pub single_kept : {m m' : Map} {f : ℕ} (z : Splices m m' f f) (corners : List ℕ) → Circuit m corners →
    T (elem f corners) → Kept m m' f f (f ∷ [])
unfolding Cycle Chain elem distinct
single_kept {m} {f = f} z corners c on =
    record {
      corners = corners;
      was = c;
      kept_was = λ x h. rw (elem_one x f h) on;
      left_kept = elem_head f [];
      right_kept = elem_head f [];
      new_circuit =
          record {
            all_distinct =
                distinct_cons m.count (f ∷ [])
                (λ h. omega (arith, c.below f on, elem_one m.count f h))
                (distinct_cons f [] (λ h. h) tt);
            below = λ a h.
                ⊎_elim (λ (e : a ≡ m.count). omega (arith, z.count_grows))
                (λ o. omega (arith, z.count_grows, elem_one a f o, c.below f on))
                (elem_cases a m.count (f ∷ []) h);
            helped = λ a h.
                ⊎_elim (λ (e : a ≡ m.count). rw e z.helped_new) (λ o. rw (elem_one a f o) z.helped_left)
                (elem_cases a m.count (f ∷ []) h);
            edges = (z.at_own, (z.at_left, tt));
          };
      kept_next = λ x h other. absurd (other (elem_one x f h));
    }
