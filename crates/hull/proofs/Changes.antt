-- "Nothing else changes": each arrival changes just what document 01 names, at every place of the map
-- (model/specs/Changes), and no other sound map has these changes. In the order of this page: a link
-- that is made by cases; a point inside; the first point; the second; a point outside; every offer
-- (`nothing_else_changes`); the changes fix the map (`grown_only`).
use mathlib.Core.Path.{◌≡◌, refl, sym, ap, subst, ◌∙◌}
use mathlib.Core.Logic.{◌≢◌, inl, inr, ⊎_elim}
use mathlib.Core.Bool.{Bool, cond}
use Prim.Native.Nat.{ℕ, ◌≤◌}
use native.Mathlib.Omega.{arith}
use borrow.Author.Tests.{eq-eqb, ne_eqb}
use lib.Dec.{T, ltb, ltb→lt, lt→ltb}
use Rattle.std.specs.declared.result.Result.{Result}
use Rattle.std.specs.declared.result.Result.TheVariants.{Ok}
use Rattle.finite.specs.Tests.{is_true, is_false, same_test, same_or_not}
use Rattle.model.specs.declared.Point.{Point}
use Rattle.model.specs.declared.Note.{Note}
use Rattle.model.specs.declared.Map.{Map}
use Rattle.model.specs.declared.Refusal.{Refusal}
use Rattle.model.specs.declared.Offered.{Offered}
use Rattle.model.specs.Answers.{arrival_of}
use Rattle.model.specs.Maps.{own, helper, owner, other_dart, point, has_helper, edge_link, point_link, note}
use Rattle.model.specs.Outline.{visible_edges}
use Rattle.model.specs.Shape.{Shaped}
use Rattle.model.specs.Arrival.{left_corner, right_corner, first_kind, inside_kind, freeing_none, with_point, alone, pair, spliced, arrive}
use Rattle.model.specs.Offers.{offer, map_after}
use Rattle.model.specs.Changes.{joined, parted, with_helper, Grown, FirstGrown, SecondGrown, InsideGrown, Lone, OutsideGrown, Changes, first, second, inside, outside, refused}
use Rattle.maps.proofs.Darts.{owner_own, own_or_helper, point_own, point_helper, point_lone}
use Rattle.maps.proofs.Outline.{outline_circuit}
use Rattle.maps.proofs.Same.{same_map}
use Rattle.maps.proofs.Points.{point_new, point_old, note_new, note_old}
use Rattle.maps.proofs.Alone.{alone_new_fixed}
use Rattle.maps.proofs.Splice.{Splices}
use Rattle.maps.proofs.Spliced.{spliced_splices, spliced_helper_new, spliced_helper_old}
use Rattle.maps.proofs.Pair.{all_fixed, pair_helper, pair_owned, pair_splices}
use Rattle.sight.specs.Requires.{Accepted}
use Rattle.hull.proofs.Outcomes.{Arrives, arrive_arrives}
use Rattle.hull.proofs.Outcomes as outcomes
use Rattle.hull.proofs.Offers.{Decided, accepted, offer_decided}
use Rattle.hull.proofs.Offers as offers
use Rattle.hull.proofs.Arrivals.{corners_on}

-- ---- v is where a link leads that is made by cases

joined_is : (a b : ℕ) (link : ℕ → ℕ) (d v : ℕ) → (d ≡ a → v ≡ b) → (d ≡ b → v ≡ a) →
    (d ≢ a → d ≢ b → v ≡ link d) → v ≡ joined a b link d
joined_is a b link d v f g h =
    ⊎_elim (λ (e : d ≡ a). rw (eq-eqb d a e) (f e))
    (λ (n : d ≢ a).
    ⊎_elim (λ (e : d ≡ b). rw (ne_eqb d a n, eq-eqb d b e) (g e))
    (λ (o : d ≢ b). rw (ne_eqb d a n, ne_eqb d b o) (h n o)) (same_or_not d b))
    (same_or_not d a)

parted_is : (a b : ℕ) (link : ℕ → ℕ) (d v : ℕ) → (link d ≡ a → v ≡ d) → (link d ≡ b → v ≡ d) →
    (link d ≢ a → link d ≢ b → v ≡ link d) → v ≡ parted a b link d
parted_is a b link d v f g h =
    ⊎_elim (λ (e : link d ≡ a). rw (eq-eqb (link d) a e) (f e))
    (λ (n : link d ≢ a).
    ⊎_elim (λ (e : link d ≡ b). rw (ne_eqb (link d) a n, eq-eqb (link d) b e) (g e))
    (λ (o : link d ≢ b). rw (ne_eqb (link d) a n, ne_eqb (link d) b o) (h n o)) (same_or_not (link d) b))
    (same_or_not (link d) a)

-- ---- a point that arrives alone

module _ {m : Map} {p : Point} (a : Accepted m p) where
  -- all is as it was, but for the new point and what is noted of it
  alone_changes : (kind : ℕ) →
      Grown m p (freeing_none kind) (has_helper m) (point_link m) (edge_link m) m.reference (alone kind m p)
  unfolding alone with_point has_helper edge_link point_link
  alone_changes kind =
      let noted = freeing_none kind in
      record {
        count = refl;
        new_point = point_new a.is_sound a.room p noted m.helpers m.edge m.reference;
        old_points = point_old a.is_sound a.room p noted m.helpers m.edge m.reference;
        new_note = note_new a.is_sound a.room p noted m.helpers m.edge m.reference;
        old_notes = note_old a.is_sound a.room p noted m.helpers m.edge m.reference;
        helpers = λ k. refl;
        points_linked = λ d. refl;
        edges_linked = λ d. refl;
        reference = refl;
      }

  pub inside_changes : InsideGrown m p (alone inside_kind m p)
  inside_changes = alone_changes inside_kind

  pub inside_lone : Lone (alone inside_kind m p) m.count
  inside_lone =
      let none : ¬ T (has_helper m m.count) = λ t. omega (arith, a.is_sound.links.owned m.count t) in
      let g = inside_changes in
      record {
        no_helper = rw (g.helpers m.count) none;
        point_fixed = g.points_linked (own m.count) ∙ point_lone m (own m.count) (rw (owner_own m.count) none);
        edge_fixed = g.edges_linked (own m.count) ∙ alone_new_fixed a.is_sound inside_kind p;
      }

  pub first_changes : m.count ≡ 0 → FirstGrown m p (alone first_kind m p)
  first_changes none =
      let bare = a.is_sound.bare (omega arith) in
      let g = alone_changes first_kind in
      record {
        count = g.count;
        new_point = g.new_point;
        old_points = g.old_points;
        new_note = g.new_note;
        old_notes = g.old_notes;
        helpers = λ k. g.helpers k ∙ is_false (has_helper m k) (bare.no_helper k);
        points_linked = λ d. g.points_linked d ∙ point_lone m d (bare.no_helper (owner d));
        edges_linked = λ d. g.edges_linked d ∙ all_fixed a.is_sound (omega arith) d;
        reference = g.reference ∙ bare.unreferenced;
      }

  -- ---- the second point

  module _ (one : m.count ≡ 1) where
    abbrev s : Shaped m
    s = a.is_sound

    second_helpers : (k : ℕ) → has_helper (pair m p) k ≡ ltb k 2
    second_helpers k =
        same_test (has_helper (pair m p) k) (ltb k 2) (λ t. lt→ltb k 2 (pair_owned p s one k t))
        (λ t. pair_helper p s k (ltb→lt k 2 t))

    second_points : (d : ℕ) → point_link (pair m p) d ≡ joined 0 1 (joined 2 3 (λ e. e)) d
    second_points d =
        joined_is 0 1 (joined 2 3 (λ e. e)) d (point_link (pair m p) d)
        (λ e. rw e (point_own (pair m p) 0 (pair_helper p s 0 (omega arith))))
        (λ e. rw e (point_helper (pair m p) 0 (pair_helper p s 0 (omega arith))))
        (λ n₀ n₁.
        joined_is 2 3 (λ e. e) d (point_link (pair m p) d)
        (λ e. rw e (point_own (pair m p) 1 (pair_helper p s 1 (omega arith))))
        (λ e. rw e (point_helper (pair m p) 1 (pair_helper p s 1 (omega arith))))
        (λ n₂ n₃. point_lone (pair m p) d (λ t. omega (arith, pair_owned p s one (owner d) t))))

    second_edges : (d : ℕ) → edge_link (pair m p) d ≡ joined 0 3 (joined 2 1 (λ e. e)) d
    second_edges d =
        let z = pair_splices s one p in
        let fixed = all_fixed s (omega arith) d in
        joined_is 0 3 (joined 2 1 (λ e. e)) d (edge_link (pair m p) d)
        (λ e. rw e (z.at_left ∙ ap helper one))
        (λ e. rw e (subst (λ (k : ℕ). edge_link (pair m p) (helper k) ≡ 0) one z.at_helper))
        (λ n₀ n₃.
        joined_is 2 1 (λ e. e) d (edge_link (pair m p) d)
        (λ e. rw e (subst (λ (k : ℕ). edge_link (pair m p) (own k) ≡ 1) one z.at_own))
        (λ e. rw e (z.at_right ∙ ap own one))
        (λ n₂ n₁.
        z.elsewhere d
        (record {
          not_left = n₀;
          not_right = n₁;
          not_own = λ e. n₂ (e ∙ ap own one);
          not_helper = λ e. n₃ (e ∙ ap helper one);
          not_to_left = λ e. n₀ (sym fixed ∙ e);
          not_to_right = λ e. n₁ (sym fixed ∙ e);
        }) ∙ fixed))

    pub second_changes : SecondGrown m p (pair m p)
    unfolding pair with_point
    second_changes =
        record {
          count = refl;
          new_point = point_new s a.room p _ _ _ 2;
          old_points = point_old s a.room p _ _ _ 2;
          new_note = note_new s a.room p _ _ _ 2;
          old_notes = note_old s a.room p _ _ _ 2;
          helpers = second_helpers;
          points_linked = second_points;
          edges_linked = second_edges;
          reference = refl;
        }

  -- ---- a point outside

  module _ (two : 2 ≤ m.count) (some : visible_edges m p ≢ 0) where
    abbrev l : ℕ
    l = left_corner m p

    abbrev r : ℕ
    r = right_corner m p

    -- how the links after an outside arrival differ from those before
    pub outside_links : Splices m (spliced m p l r) l r
    outside_links =
        let helped = (outline_circuit a.is_sound two).helped in
        spliced_splices a.is_sound a.room p l r
        (helped l (corners_on a two some).0) (helped r (corners_on a two some).1)

    outside_helpers : (k : ℕ) → has_helper (spliced m p l r) k ≡ with_helper m.count (has_helper m) k
    outside_helpers k =
        ⊎_elim
        (λ (e : k ≡ m.count).
        rw (eq-eqb k m.count e, e) (is_true _ (spliced_helper_new a.is_sound a.room p l r)))
        (λ (n : k ≢ m.count).
        rw (ne_eqb k m.count n) (spliced_helper_old a.is_sound a.room p l r k n))
        (same_or_not k m.count)

    -- a dart that is not the new point's has its old point link
    old_point_link : (d : ℕ) → owner d ≢ m.count → point_link (spliced m p l r) d ≡ point_link m d
    unfolding point_link
    old_point_link d n =
        ap (λ (b : Bool). cond b (other_dart d) d) (spliced_helper_old a.is_sound a.room p l r (owner d) n)

    outside_points : (d : ℕ) →
        point_link (spliced m p l r) d ≡ joined (own m.count) (helper m.count) (point_link m) d
    outside_points d =
        let helped = outside_links.helped_new in
        joined_is (own m.count) (helper m.count) (point_link m) d (point_link (spliced m p l r) d)
        (λ e. rw e (point_own (spliced m p l r) m.count helped))
        (λ e. rw e (point_helper (spliced m p l r) m.count helped))
        (λ i j. old_point_link d (λ e. ⊎_elim (λ o. i (o ∙ ap own e)) (λ o. j (o ∙ ap helper e)) (own_or_helper d)))

    outside_edges : (d : ℕ) →
        edge_link (spliced m p l r) d ≡
        joined (own l) (helper m.count)
        (joined (own m.count) (helper r) (parted (own l) (helper r) (edge_link m))) d
    outside_edges d =
        let z = outside_links in
        let v = edge_link (spliced m p l r) d in
        let off = parted (own l) (helper r) (edge_link m) in
        joined_is (own l) (helper m.count) (joined (own m.count) (helper r) off) d v (λ e. rw e z.at_left) (λ e. rw e z.at_helper)
        (λ not_left not_helper.
        joined_is (own m.count) (helper r) off d v (λ e. rw e z.at_own) (λ e. rw e z.at_right)
        (λ not_own not_right.
        parted_is (own l) (helper r) (edge_link m) d v (λ e. z.cut d not_left not_right (inl e))
        (λ e. z.cut d not_left not_right (inr e))
        (λ not_to_left not_to_right.
        z.elsewhere d
        (record {
          not_left = not_left;
          not_right = not_right;
          not_own = not_own;
          not_helper = not_helper;
          not_to_left = not_to_left;
          not_to_right = not_to_right;
        }))))

    pub outside_changes : OutsideGrown m p l r (spliced m p l r)
    unfolding spliced with_point
    outside_changes =
        record {
          count = refl;
          new_point = point_new a.is_sound a.room p _ _ _ (own m.count);
          old_points = point_old a.is_sound a.room p _ _ _ (own m.count);
          new_note = note_new a.is_sound a.room p _ _ _ (own m.count);
          old_notes = note_old a.is_sound a.room p _ _ _ (own m.count);
          helpers = outside_helpers;
          points_linked = outside_points;
          edges_linked = outside_edges;
          reference = refl;
        }

-- ---- every offer

arrival_changes : (m : Map) (p : Point) → Accepted m p → (o : Offered) → Arrives m p o →
    Changes m p (Ok o.arrival) o.map
arrival_changes m p a o (outcomes.first none) = first none (first_changes a none)
arrival_changes m p a o (outcomes.second one) = second one (second_changes a one)
arrival_changes m p a o (outcomes.inside two none) = inside two none (inside_changes a) (inside_lone a)
arrival_changes m p a o (outcomes.outside two some) = outside two some (outside_changes a two some)

pub nothing_else_changes : (m : Map) (p : Point) → Changes m p (arrival_of (offer m p)) (map_after m (offer m p))
unfolding arrival_of map_after
nothing_else_changes m p = decided (offer m p) (offer_decided m p)
  where
    decided : (o : Result Offered Refusal) → Decided m p o → Changes m p (arrival_of o) (map_after m o)
    decided o (accepted t a) = arrival_changes m p a (arrive m p) (arrive_arrives m p)
    decided o (offers.refused r by_rule) = refused r

-- ---- the changes fix the map

pub grown_only : {m : Map} {p : Point} {noted : Note} {helped : ℕ → Bool} {point_links edge_links : ℕ → ℕ} {dart : ℕ}
    {m₁ m₂ : Map} → Shaped m₁ → Shaped m₂ → Grown m p noted helped point_links edge_links dart m₁ →
    Grown m p noted helped point_links edge_links dart m₂ → m₁ ≡ m₂
grown_only {m} {m₁ = m₁} {m₂} s t g h =
    same_map s t (g.count ∙ sym h.count) points (λ k. g.helpers k ∙ sym (h.helpers k))
    (λ d. g.edges_linked d ∙ sym (h.edges_linked d)) notes (g.reference ∙ sym h.reference)
  where
    notes : (k : ℕ) → note m₁ k ≡ note m₂ k
    notes k =
        ⊎_elim (λ (e : k ≡ m.count). rw e (g.new_note ∙ sym h.new_note))
        (λ (n : k ≢ m.count). g.old_notes k n ∙ sym (h.old_notes k n)) (same_or_not k m.count)

    points : (k : ℕ) → point m₁ k ≡ point m₂ k
    points k =
        ⊎_elim (λ (e : k ≡ m.count). rw e (g.new_point ∙ sym h.new_point))
        (λ (n : k ≢ m.count). g.old_points k n ∙ sym (h.old_points k n)) (same_or_not k m.count)
