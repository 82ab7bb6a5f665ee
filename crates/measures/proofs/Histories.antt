-- After every list of offers, twice the area of the outline, from whatever corner its fan is, is what the
-- history adds up to (`area_of_history`). An outside arrival at p keeps the edges that p does not see, and
-- puts the two that end at p for those that it sees. In a fan from p, which is as good as any, the two count 0;
-- so the area loses the orientations (p, a, b) of the visible edges a to b, and what is added is these, negated.
-- In the order of this page: sums; the area of a map, begun anywhere; what is added over hidden and over
-- visible edges; the points of a map with one point more; an arrival with fewer than two points; inside;
-- outside, beyond one of two corners; outside, with a run of visible edges; every arrival; the history;
-- the listing's area.
-- Document 02, request 102: "the history's total: over all arrivals, the negated orientations of the edges
-- that were visible".
use mathlib.Core.Path.{◌≡◌, refl, sym, ap, ap₂, subst, ◌∙◌}
use mathlib.Core.Logic.{◌≢◌, ⊎_elim}
use mathlib.Core.Bool.{Bool}
use mathlib.Core.List.{List, [], ◌∷◌, ◌++◌, map, map-append}
use Prim.Native.Nat.{ℕ, ◌≤◌, ◌<◌}
use native.Mathlib.Omega.{arith}
use lib.Dec.{T}
use lib.IntN.{ℤ, pos, ◌+ℤ◌, +ℤ_idl, +ℤ_idr, +ℤ_assoc, +ℤ_comm, +ℤ_invr}
use lib.ListN.{length, get_or, length-map}
use borrow.Author.Tests.{le-ltb, lt-ltb}
use Rattle.integers.specs.Ring.{+ℤ_interchange}
use Rattle.finite.specs.Tests.{is_true, is_false}
use Rattle.finite.specs.Bounded.{lt_or_ge}
use Rattle.finite.specs.Lists.{elem}
use Rattle.finite.specs.ListLaws.{elem_head, elem_tail, elem_append_left}
use Rattle.finite.specs.Distinct.{count_in_zero}
use Rattle.finite.specs.Cycles.{Chain, Cycle}
use Rattle.model.specs.declared.Point.{Point}
use Rattle.model.specs.declared.Note.{Note}
use Rattle.model.specs.declared.Map.{Map}
use Rattle.model.specs.declared.Offered.{Offered}
use Rattle.model.specs.Plane.{origin, orientation}
use Rattle.model.specs.Maps.{point, empty_map}
use Rattle.model.specs.Outline.{next_corner, previous_corner, outline, sees, visible_edges, corners}
use Rattle.model.specs.Outlines.{corner_points}
use Rattle.model.specs.Shape.{Shaped}
use Rattle.model.specs.Arrival.{first_kind, inside_kind, freeing_none, turning_left, turning_right, is_beyond, farther, left_corner, right_corner, with_point, alone, pair, spliced}
use Rattle.model.specs.History.{Entry, Run, run, Action, performed, offered_point}
use Rattle.model.specs.Area.{path_sum, fan, area_from, doubled_area, sum_of, triangle_added, area_added, history_area}
use Rattle.plane.proofs.Orientation.{orientation_cyclic}
use Rattle.plane.proofs.Fan.{fan_fixed, fan_cut, fan_swap, fan_from_first, fan_flat}
use Rattle.plane.proofs.Convex.{Link}
use Rattle.plane.proofs.Split.{Split, remaining, split_member}
use Rattle.maps.proofs.Outline.{outline_circuit}
use Rattle.maps.proofs.Points.{point_new, point_old}
use Rattle.maps.proofs.Alone.{alone_outline}
use Rattle.sight.specs.Requires.{Accepted}
use Rattle.hull.proofs.Outcomes.{Arrives, first, second, inside, outside}
use Rattle.sight.proofs.Beyond.{sound_convex, all_seen, by_beyond}
use Rattle.hull.proofs.Arrivals.{beyond_outline, split_is, turning_outline}
use Rattle.hull.proofs.History.{with_entry, run_keeps, few_outline, run_shaped}
use Rattle.hull.proofs.Admissions.{outline_most}
use Rattle.hull.proofs.Actions.{actions_are_offers}
use Rattle.corners.proofs.Corners.{corners_rotated}

-- ---- sums

-- the sum of what is put together ..
sum_append : (s t : List ℤ) → sum_of (s ++ t) ≡ sum_of s +ℤ sum_of t
unfolding sum_of
sum_append [] t = sym (+ℤ_idl (sum_of t))
sum_append (z ∷ s) t =
    ap (λ (u : ℤ). z +ℤ u) (sum_append s t) ∙ sym (+ℤ_assoc z (sum_of s) (sum_of t))

-- .. where each member adds what f makes of it
sum_map_append : (f : ℕ → ℤ) (s t : List ℕ) → sum_of (map f (s ++ t)) ≡ sum_of (map f s) +ℤ sum_of (map f t)
sum_map_append f s t = ap sum_of (map-append f s t) ∙ sum_append (map f s) (map f t)

-- a list rotated has the same sum
sum_rotated : (f : ℕ → ℤ) (s u v t : List ℕ) → s ≡ u ++ v → v ++ u ≡ t → sum_of (map f s) ≡ sum_of (map f t)
sum_rotated f s u v t cut rotated =
    ap (λ (w : List ℕ). sum_of (map f w)) cut
    ∙ (sum_map_append f u v
    ∙ (+ℤ_comm (sum_of (map f u)) (sum_of (map f v))
    ∙ (sym (sum_map_append f v u)
    ∙ ap (λ (w : List ℕ). sum_of (map f w)) rotated)))

-- nothings add up to nothing
sum_none : (f : ℕ → ℤ) (s : List ℕ) → ((a : ℕ) → T (elem a s) → f a ≡ pos 0) → sum_of (map f s) ≡ pos 0
unfolding sum_of
sum_none f [] none = refl
sum_none f (a ∷ s) none =
    rw (none a (elem_head a s), sum_none f s (λ c h. none c (elem_tail c a s h)))

-- ---- the area of a map

-- twice the area that the outline goes round
abbrev outline_area : Map → ℤ
outline_area m = fan origin (map (point m) (outline m))

-- an outline of two corners or fewer goes round nothing
flat_area : (m : Map) → length (outline m) < 3 → outline_area m ≡ pos 0
flat_area m few = fan_flat origin (map (point m) (outline m)) (omega (arith, length-map (outline m) (point m)))

-- corners rotated go round the same area, whatever the base
fan_rotated : (P : ℕ → Point) (q r : Point) (s u v t : List ℕ) → s ≡ u ++ v → v ++ u ≡ t →
    fan q (map P s) ≡ fan r (map P t)
fan_rotated P q r s u v t cut rotated =
    fan_fixed r q (map P s)
    ∙ (ap (λ (w : List ℕ). fan r (map P w)) cut
    ∙ (ap (fan r) (map-append P u v)
    ∙ (fan_swap r (map P u) (map P v)
    ∙ (ap (fan r) (sym (map-append P v u))
    ∙ ap (λ (w : List ℕ). fan r (map P w)) rotated))))

-- ---- what is added

-- what a point p adds over some corners of m
abbrev added : Map → Point → List ℕ → ℤ
added m p s = sum_of (map (triangle_added m p) s)

module _ (m : Map) (p : Point) where
  -- nothing over hidden edges
  hidden_adds : (s : List ℕ) → ((a : ℕ) → T (elem a s) → ¬ T (sees m p a)) → added m p s ≡ pos 0
  unfolding triangle_added
  hidden_adds s hidden =
      sum_none (triangle_added m p) s (λ a h. rw (is_false (sees m p a) (hidden a h)))

  -- over a visible edge from a to b, the negated triangle of p with it
  seen_one : (a b : ℕ) → T (sees m p a) → next_corner m a ≡ b →
      orientation p (point m a) (point m b) +ℤ triangle_added m p a ≡ pos 0
  unfolding triangle_added
  seen_one a b t e =
      rw (is_true (sees m p a) t, e, orientation_cyclic p (point m a) (point m b))
      (+ℤ_invr (orientation (point m a) (point m b) p))

  -- along visible edges, the negated way along them as seen from p
  seen_path : (a : ℕ) (s : List ℕ) (z : ℕ) → ((c : ℕ) → T (elem c (a ∷ s)) → T (sees m p c)) →
      Chain (Link (next_corner m) (previous_corner m)) (a ∷ s ++ z ∷ []) →
      path_sum p (point m a) (map (point m) s ++ point m z ∷ []) +ℤ added m p (a ∷ s) ≡ pos 0
  unfolding path_sum sum_of Chain
  seen_path a [] z seen c =
      rw (+ℤ_idr (orientation p (point m a) (point m z)), +ℤ_idr (triangle_added m p a))
      (seen_one a z (seen a (elem_head a [])) c.0.0)
  seen_path a (b ∷ s) z seen c =
      +ℤ_interchange (orientation p (point m a) (point m b))
      (path_sum p (point m b) (map (point m) s ++ point m z ∷ [])) (triangle_added m p a) (added m p (b ∷ s))
      ∙ ap₂ ◌+ℤ◌ (seen_one a b (seen a (elem_head a (b ∷ s))) c.0.0)
      (seen_path b s z (λ d h. seen d (elem_tail d a (b ∷ s) h)) c.1)

  -- where all edges are visible, the negated area of them all
  seen_round : (s : List ℕ) → ((c : ℕ) → T (elem c s) → T (sees m p c)) →
      Cycle (Link (next_corner m) (previous_corner m)) s → fan p (map (point m) s) +ℤ added m p s ≡ pos 0
  unfolding fan sum_of Cycle
  seen_round [] seen c = refl
  seen_round (a ∷ s) seen c = seen_path a s a seen c

-- ---- the points of a map with one point more

-- two functions that agree at all members
map_same : (f g : ℕ → Point) (s : List ℕ) → ((a : ℕ) → T (elem a s) → f a ≡ g a) → map f s ≡ map g s
map_same f g [] same = refl
map_same f g (a ∷ s) same =
    ap₂ ◌∷◌ (same a (elem_head a s)) (map_same f g s (λ c h. same c (elem_tail c a s h)))

module _ {m : Map} {p : Point} (a : Accepted m p) where
  -- at the numbers that it had, they are the old ones
  points_old : (noted : Note) (helpers : List Bool) (edge : List ℕ) (reference : ℕ) (s : List ℕ) →
      ((c : ℕ) → T (elem c s) → c < m.count) → map (point (with_point m p noted helpers edge reference)) s ≡ map (point m) s
  points_old noted helpers edge reference s below =
      map_same (point (with_point m p noted helpers edge reference)) (point m) s
      (λ c h. point_old a.is_sound a.room p noted helpers edge reference c (omega (arith, below c h)))

  -- ---- fewer than two points

  -- there is no edge, so nothing is added to an area of nothing, and the next outline goes round nothing too
  few_add : (new : Map) → m.count < 2 → length (outline new) < 3 →
      outline_area new ≡ outline_area m +ℤ added m p (outline m)
  unfolding fan sum_of
  few_add new few flat = flat_area new flat ∙ rw (few_outline m few)

  module _ (two : 2 ≤ m.count) where
    -- the corners have old numbers
    corner_below : (c : ℕ) → T (elem c (outline m)) → c < m.count
    corner_below = (outline_circuit a.is_sound two).below

    -- ---- inside

    -- the outline stays, and no edge is visible
    inside_adds : visible_edges m p ≡ 0 → outline_area (alone inside_kind m p) ≡ outline_area m +ℤ added m p (outline m)
    unfolding alone visible_edges
    inside_adds none =
        ap (λ (s : List ℕ). fan origin (map (point (alone inside_kind m p)) s)) (alone_outline a.is_sound inside_kind p two)
        ∙ (ap (fan origin) (points_old (freeing_none inside_kind) m.helpers m.edge m.reference (outline m) corner_below)
        ∙ sym
        (ap (λ (z : ℤ). outline_area m +ℤ z)
        (hidden_adds m p (outline m) (count_in_zero (sees m p) (outline m) none))
        ∙ +ℤ_idr (outline_area m)))

    -- ---- outside, beyond one of two corners

    -- all edges are visible, and the new outline is one of two corners
    beyond_adds : T (is_beyond m p) →
        outline_area (spliced m p (farther m p) (farther m p)) ≡ outline_area m +ℤ added m p (outline m)
    beyond_adds beyond =
        flat_area (spliced m p (farther m p) (farther m p)) (omega (arith, ap length (beyond_outline a two beyond)))
        ∙ sym
        (ap (λ (z : ℤ). z +ℤ added m p (outline m)) (fan_fixed p origin (map (point m) (outline m)))
        ∙ seen_round m p (outline m) (all_seen a two beyond) (sound_convex a.is_sound two).round)

    -- ---- outside, with a run of visible edges

    module _ (not_beyond : ¬ T (is_beyond m p)) (some : visible_edges m p ≢ 0) where
      abbrev l : ℕ
      l = turning_left m p

      abbrev r : ℕ
      r = turning_right m p

      abbrev split : Split (next_corner m) (previous_corner m) (sees m p) (outline m) l r
      split = split_is a two not_beyond some

      -- the way over the hidden edges, and the way over the visible ones, seen from p
      abbrev hidden_way : ℤ
      hidden_way = path_sum p (point m r) (map (point m) split.middle ++ point m l ∷ [])

      abbrev seen_way : ℤ
      seen_way = path_sum p (point m l) (map (point m) split.inner ++ point m r ∷ [])

      -- before, the outline goes both ways
      area_before : outline_area m ≡ hidden_way +ℤ seen_way
      area_before =
          fan_rotated (point m) origin p (outline m) split.front split.back
          (r ∷ split.middle ++ l ∷ split.inner) split.cut split.rotated
          ∙ (ap (λ (s : List Point). fan p (point m r ∷ s)) (map-append (point m) split.middle (l ∷ split.inner))
          ∙ fan_cut p (point m r) (map (point m) split.middle) (point m l) (map (point m) split.inner))

      -- what is added is added over the visible edges
      added_seen : added m p (outline m) ≡ added m p (l ∷ split.inner)
      added_seen =
          sum_rotated (triangle_added m p) (outline m) split.front split.back
          (r ∷ split.middle ++ l ∷ split.inner) split.cut split.rotated
          ∙ (sum_map_append (triangle_added m p) (r ∷ split.middle) (l ∷ split.inner)
          ∙ (ap (λ (z : ℤ). z +ℤ added m p (l ∷ split.inner)) (hidden_adds m p (r ∷ split.middle) split.hidden)
          ∙ +ℤ_idl (added m p (l ∷ split.inner))))

      -- the points of the new outline are p, and those from the right corner to the left
      points_after :
          map (point (spliced m p l r)) (outline (spliced m p l r))
          ≡ p ∷ point m r ∷ map (point m) split.middle ++ point m l ∷ []
      unfolding spliced
      points_after =
          ap (map (point (spliced m p l r))) (turning_outline a two not_beyond some)
          ∙ (ap₂ ◌∷◌ (point_new a.is_sound a.room p _ _ _ _)
          (points_old _ _ _ _ (remaining split)
          (λ c h. corner_below c (split_member split c (elem_append_left c (remaining split) split.inner h))))
          ∙ ap (λ (s : List Point). p ∷ point m r ∷ s) (map-append (point m) split.middle (l ∷ [])))

      -- after, the outline goes the hidden way, and over the two edges that end at p
      area_after : outline_area (spliced m p l r) ≡ hidden_way
      area_after =
          fan_fixed p origin (map (point (spliced m p l r)) (outline (spliced m p l r)))
          ∙ (ap (fan p) points_after ∙ fan_from_first p (point m r) (map (point m) split.middle) (point m l))

      -- the visible way and what is added come to nothing
      turning_adds : outline_area (spliced m p l r) ≡ outline_area m +ℤ added m p (outline m)
      turning_adds =
          area_after
          ∙ (with_nothing hidden_way seen_way (added m p (l ∷ split.inner))
          (seen_path m p l split.inner r split.seen split.seen_chain)
          ∙ sym (ap₂ ◌+ℤ◌ area_before added_seen))
        where
          with_nothing : (x y z : ℤ) → y +ℤ z ≡ pos 0 → x ≡ x +ℤ y +ℤ z
          with_nothing x y z e = sym (+ℤ_assoc x y z ∙ (ap (λ (u : ℤ). x +ℤ u) e ∙ +ℤ_idr x))

    -- ---- outside, both cases

    -- by whether p is beyond one of two corners
    outside_adds : visible_edges m p ≢ 0 →
        outline_area (spliced m p (left_corner m p) (right_corner m p)) ≡ outline_area m +ℤ added m p (outline m)
    outside_adds some =
        by_beyond a two (λ l r. outline_area (spliced m p l r) ≡ outline_area m +ℤ added m p (outline m))
        beyond_adds (λ n. turning_adds n some)

-- ---- every arrival

-- the outline's area grows by what the arrival adds
arrival_adds_area : (m : Map) (p : Point) → Accepted m p → (o : Offered) → Arrives m p o →
    outline_area o.map ≡ outline_area m +ℤ added m p (outline m)
unfolding alone pair with_point
arrival_adds_area m p a o (first none) = few_add a (alone first_kind m p) (omega arith) (omega (arith, outline_most (alone first_kind m p)))
arrival_adds_area m p a o (second one) = few_add a (pair m p) (omega arith) (omega (arith, outline_most (pair m p)))
arrival_adds_area m p a o (inside two none) = inside_adds a two none
arrival_adds_area m p a o (outside two some) = outside_adds a two some

-- ---- the history

-- what one entry more adds
history_more : (h : List Entry) (e : Entry) → history_area (h ++ e ∷ []) ≡ history_area h +ℤ area_added e
unfolding history_area sum_of
history_more h e =
    ap sum_of (map-append area_added h (e ∷ []))
    ∙ (sum_append (map area_added h) (area_added e ∷ []) ∙ ap (λ (z : ℤ). history_area h +ℤ z) (+ℤ_idr (area_added e)))

-- what every offer keeps
abbrev AddsUp : Run → Type 0
AddsUp r = outline_area r.map ≡ history_area r.history

-- the empty map has no outline, and no history
adds_up_start : AddsUp (record { map = empty_map; history = [] })
unfolding history_area sum_of empty_map
adds_up_start = flat_area empty_map (omega (arith, outline_most empty_map))

-- one accepted offer
adds_up_more : (r : Run) → AddsUp r → (p : Point) → Accepted r.map p → (o : Offered) → Arrives r.map p o →
    AddsUp (with_entry r p o)
unfolding area_added
adds_up_more r k p a o arrives =
    let e : Entry = record { before = r.map; offered = p; arrival = o.arrival } in
    arrival_adds_area r.map p a o arrives
    ∙ (ap (λ (z : ℤ). z +ℤ added r.map p (outline r.map)) k ∙ sym (history_more r.history e))

-- ---- the listing's area

-- from any corner of the listing it is the outline's, and 0 for both with fewer than three points
listed_area : {m : Map} → Shaped m → (place : ℕ) → doubled_area m place ≡ outline_area m
unfolding doubled_area area_from corner_points
listed_area {m} s place =
    ⊎_elim
    (λ (few : m.count < 3). rw (lt-ltb m.count 3 few) (sym (flat_area m (omega (arith, outline_most m)))))
    (λ (three : 3 ≤ m.count).
    let halves = corners_rotated s (omega arith) in
    rw (le-ltb m.count 3 three)
    (sym
    (fan_rotated (point m) origin (get_or (corner_points m) place origin) (outline m) halves.0 halves.1 (corners m)
    (sym halves.2) halves.3)))
    (lt_or_ge m.count 3)

-- after every list of offers, twice the outline's area from any corner is the history's total
pub area_of_history : (ps : List Point) (place : ℕ) → doubled_area (run ps).map place ≡ history_area (run ps).history
area_of_history ps place =
    listed_area (run_shaped ps) place ∙ run_keeps AddsUp adds_up_more adds_up_start ps

-- .. and so after every list of offers and removals: the history leaves out arrivals taken back
pub area_with_removals : (acts : List Action) (place : ℕ) →
    doubled_area (performed acts).map place ≡ history_area (performed acts).history
area_with_removals acts place =
    subst (λ (r : Run). doubled_area r.map place ≡ history_area r.history) (sym (actions_are_offers acts))
    (area_of_history (map offered_point (performed acts).history) place)
