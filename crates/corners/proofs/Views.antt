-- Placing a point by one look at each edge, in the order of this page: what the side of an edge says
-- of the tests; what is found in a list of corners; the answer from it; the loop over the corners,
-- with the laws of its start, of a step, of an early answer and of the end.
-- What is found and what is still ahead make up the answer together.
use mathlib.Core.Path.{◌≡◌, refl, sym, ap, ◌∙◌}
use mathlib.Core.Bool.{Bool, true, false, cond, ◌&&◌, ◌||◌, and-true, and-false}
use mathlib.Core.List.{List, [], ◌∷◌}
use Prim.Native.Nat.{ℕ, suc, ◌+◌, ◌≤◌, ◌<◌}
use native.Mathlib.Nat.{zero-add}
use native.Mathlib.Numerals.{add-one}
use native.Mathlib.Omega.{arith}
use lib.Dec.{ltb}
use lib.ListN.{length, get_or, drop, drop_of_length-le}
use lib.Seq.{drop-cons}
use borrow.Author.Tests.{le-ltb}
use Rattle.integers.specs.Order.{<ℤ_asym}
use Rattle.std.specs.declared.option.Option.{Option}
use Rattle.std.specs.declared.option.Option.TheVariants.{Some, None}
use Rattle.finite.specs.Tests.{of_true}
use Rattle.finite.specs.Bounded.{one_if}
use Rattle.finite.specs.Lists.{all_in, any_in, count_in, first_in}
use Rattle.model.specs.declared.Point.{Point}
use Rattle.model.specs.declared.Map.{Map}
use Rattle.model.specs.declared.Placed.{Placed}
use Rattle.model.specs.Plane.{same_point, left_of, visible_from, in_line, strictly_between}
use Rattle.model.specs.Maps.{point}
use Rattle.model.specs.Outline.{next_corner, corners}
use Rattle.model.specs.Placing.{is_at, is_on_edge, is_left_of_edge, strictly_sees, strictly_visible, place_among}
use Rattle.plane.specs.Between.{opposite}
use Rattle.plane.proofs.Orientation.{left_positive, visible_negative}
use Rattle.corners.specs.declared.query.Side.{Side}
use Rattle.corners.specs.declared.query.View.{View}
use Rattle.corners.specs.Viewing.{side_of, viewed, view_of}

-- ---- a side of an edge

-- the three tests of an edge, by side
abbrev says_left : Side → Bool
says_left Side.Left = true
says_left Side.Visible = false
says_left Side.Between = false
says_left Side.Beyond = false

abbrev says_visible : Side → Bool
says_visible Side.Left = false
says_visible Side.Visible = true
says_visible Side.Between = false
says_visible Side.Beyond = false

abbrev says_between : Side → Bool
says_between Side.Left = false
says_between Side.Visible = false
says_between Side.Between = true
says_between Side.Beyond = false

record Says (a b p : Point) (side : Side) : Type 0 where
  pub left : left_of a b p ≡ says_left side
  pub visible : visible_from a b p ≡ says_visible side
  pub between : strictly_between a b p ≡ says_between side

side_says : (a b p : Point) → Says a b p (side_of a b p)
unfolding side_of strictly_between in_line
side_says a b p = go (left_of a b p) (visible_from a b p) (opposite a b p) refl refl refl
  where
    go : (l v o : Bool) → left_of a b p ≡ l → visible_from a b p ≡ v → opposite a b p ≡ o → Says a b p (side_of a b p)
    go true true o el ev eo =
        absurd
        (<ℤ_asym (left_positive a b p (of_true (left_of a b p) el))
        (visible_negative a b p (of_true (visible_from a b p) ev)))
    go true false o el ev eo = rw el (record { left = el; visible = ev; between = rw el })
    go false true o el ev eo = rw (el, ev) (record { left = el; visible = ev; between = rw (el, ev) })
    go false false true el ev eo = rw (el, ev, eo) (record { left = el; visible = ev; between = rw (el, ev, eo) })
    go false false false el ev eo = rw (el, ev, eo) (record { left = el; visible = ev; between = rw (el, ev, eo) })

-- ---- what is found in a list of corners

inside_step : (v : View) (side : Side) (a : ℕ) (rest : Bool) →
    ((viewed v side a).inside && rest) ≡ (v.inside && (says_left side && rest))
inside_step v Side.Left a rest = refl
inside_step v Side.Visible a rest = sym (and-false v.inside)
inside_step v Side.Between a rest = sym (and-false v.inside)
inside_step v Side.Beyond a rest = sym (and-false v.inside)

visible_step : (v : View) (side : Side) (a rest : ℕ) →
    (viewed v side a).visible + rest ≡ v.visible + (one_if (says_visible side) + rest)
unfolding one_if
visible_step v Side.Left a rest = omega arith
visible_step v Side.Visible a rest = omega arith
visible_step v Side.Between a rest = omega arith
visible_step v Side.Beyond a rest = omega arith

module _ (m : Map) (p : Point) where
  abbrev side_from : ℕ → Side
  side_from a = side_of (point m a) (point m (next_corner m a)) p

  says : (a : ℕ) → Says (point m a) (point m (next_corner m a)) p (side_from a)
  says a = side_says (point m a) (point m (next_corner m a)) p

  -- the start that was found, or the first one of a list
  first_or : Option ℕ → List ℕ → Option ℕ
  first_or (Some b) s = Some b
  first_or None s = cond (any_in (is_on_edge m p) s) (Some (first_in (is_on_edge m p) 0 s)) None

  -- the same of a corner that is tested and those after it
  first_after : Option ℕ → Bool → ℕ → List ℕ → Option ℕ
  first_after (Some b) t a s = Some b
  first_after None t a s = cond (t || any_in (is_on_edge m p) s) (Some (cond t a (first_in (is_on_edge m p) 0 s))) None

  first_next : (o : Option ℕ) (a : ℕ) (s : List ℕ) → first_or o (a ∷ s) ≡ first_after o (is_on_edge m p a) a s
  unfolding first_or first_after any_in first_in
  first_next (Some b) a s = refl
  first_next None a s = refl

  start_step : (o : Option ℕ) (inside : Bool) (visible : ℕ) (side : Side) (a : ℕ) (s : List ℕ) →
      first_or (viewed (record { start = o; inside = inside; visible = visible }) side a).start s ≡
      first_after o (says_between side) a s
  unfolding first_or first_after
  start_step (Some b) i n Side.Left a s = refl
  start_step (Some b) i n Side.Visible a s = refl
  start_step (Some b) i n Side.Between a s = refl
  start_step (Some b) i n Side.Beyond a s = refl
  start_step None i n Side.Left a s = refl
  start_step None i n Side.Visible a s = refl
  start_step None i n Side.Between a s = refl
  start_step None i n Side.Beyond a s = refl

  none_more : (o : Option ℕ) → o ≡ first_or o []
  unfolding first_or any_in
  none_more (Some b) = refl
  none_more None = refl

  view_start : (v : View) (s : List ℕ) → (view_of m p v s).start ≡ first_or v.start s
  unfolding view_of
  view_start v [] = none_more v.start
  view_start v (a ∷ s) =
      view_start (viewed v (side_from a) a) s
      ∙ start_step v.start v.inside v.visible (side_from a) a s
      ∙ ap (λ (b : Bool). first_after v.start b a s) (sym (says a).between)
      ∙ sym (first_next v.start a s)

  view_inside : (v : View) (s : List ℕ) → (view_of m p v s).inside ≡ (v.inside && all_in (is_left_of_edge m p) s)
  unfolding view_of all_in
  view_inside v [] = sym (and-true v.inside)
  view_inside v (a ∷ s) =
      view_inside (viewed v (side_from a) a) s
      ∙ inside_step v (side_from a) a (all_in (is_left_of_edge m p) s)
      ∙ ap (λ (b : Bool). v.inside && (b && all_in (is_left_of_edge m p) s)) (sym (says a).left)

  view_visible : (v : View) (s : List ℕ) → (view_of m p v s).visible ≡ v.visible + count_in (strictly_sees m p) s
  unfolding view_of count_in
  view_visible v [] = omega arith
  view_visible v (a ∷ s) =
      view_visible (viewed v (side_from a) a) s
      ∙ visible_step v (side_from a) a (count_in (strictly_sees m p) s)
      ∙ ap (λ (b : Bool). v.visible + (one_if b + count_in (strictly_sees m p) s)) (sym (says a).visible)

  -- ---- the answer

  abbrev nothing_found : View
  nothing_found = record { start = None; inside = true; visible = 0 }

  -- on the edge from a start that was found, or as it is else
  abbrev placed_by : Option ℕ → Placed → Placed
  placed_by (Some a) rest = Placed.Edge a (next_corner m a)
  placed_by None rest = rest

  abbrev pub place_seen : View → Placed
  place_seen v = placed_by v.start (cond v.inside Placed.Inside (Placed.Outside v.visible))

  module _ (v : View) where
    pub edge_seen : {a : ℕ} → v.start ≡ Some a → {b : ℕ} → b ≡ next_corner m a → Placed.Edge a b ≡ place_seen v
    edge_seen {a} e to = rw (e, to)

    pub inside_seen : v.start ≡ None → v.inside ≡ true → Placed.Inside ≡ place_seen v
    inside_seen e i = rw (e, i)

    pub outside_seen : v.start ≡ None → v.inside ≡ false → Placed.Outside v.visible ≡ place_seen v
    outside_seen e i = rw (e, i)

  placed_cond : (t : Bool) (a : ℕ) (rest : Placed) →
      placed_by (cond t (Some a) None) rest ≡ cond t (Placed.Edge a (next_corner m a)) rest
  placed_cond true a rest = refl
  placed_cond false a rest = refl

  place_seen_is : any_in (is_at m p) (corners m) ≡ false →
      place_seen (view_of m p nothing_found (corners m)) ≡ place_among m p
  unfolding place_among strictly_visible first_or
  place_seen_is none =
      rw (
        none,
        view_start nothing_found (corners m),
        view_inside nothing_found (corners m),
        view_visible nothing_found (corners m) ∙ zero-add (count_in (strictly_sees m p) (corners m)),
      )
      (placed_cond (any_in (is_on_edge m p) (corners m)) (first_in (is_on_edge m p) 0 (corners m)) _)

-- ---- the loop

-- the corner looked at next is at place i, and none before it is the point
pub record Scanning (m : Map) (p : Point) (view : View) (i : ℕ) : Type 0 where
  pub few : view.visible ≤ i
  pub bounded : i ≤ length (corners m)
  pub rest : view_of m p view (drop i (corners m)) ≡ view_of m p (nothing_found m p) (corners m)
  pub any_at : any_in (is_at m p) (drop i (corners m)) ≡ any_in (is_at m p) (corners m)
  pub first_at : first_in (is_at m p) 0 (drop i (corners m)) ≡ first_in (is_at m p) 0 (corners m)

viewed_few : (v : View) (side : Side) (a : ℕ) → (viewed v side a).visible ≤ v.visible + 1
viewed_few v Side.Left a = omega arith
viewed_few v Side.Visible a = omega arith
viewed_few v Side.Between a = omega arith
viewed_few v Side.Beyond a = omega arith

module _ (m : Map) (p : Point) where
  pub at_first : Scanning m p (nothing_found m p) 0
  at_first = record { few = omega arith; bounded = omega arith; rest = refl; any_at = refl; first_at = refl }

  module _ {items : List ℕ} (are : items ≡ corners m) {view : View} {i : ℕ} (u : Scanning m p view i)
      (more : i < length items) where
    -- the corner that is looked at
    abbrev a : ℕ
    a = get_or items i 0

    ahead : drop i (corners m) ≡ a ∷ drop (suc i) (corners m)
    ahead =
        let some : i < length (corners m) = omega (arith, ap length are) in
        drop-cons (corners m) i 0 some
        ∙ ap (λ (s : List ℕ). get_or s i 0 ∷ drop (suc i) (corners m)) (sym are)

    -- corner a is the point
    pub corner_found : {q : Point} → q ≡ point m a → {here : Bool} → here ≡ same_point q p → here ≡ true → 2 ≤ m.count →
        Placed.Corner a ≡ cond (ltb m.count 2) Placed.NoOutline (place_among m p)
    unfolding place_among any_in first_in
    corner_found read tests e two =
        let yes : is_at m p a ≡ true = sym (tests ∙ ap (λ (r : Point). same_point r p) read) ∙ e in
        let any : any_in (is_at m p) (corners m) ≡ true =
        sym u.any_at ∙ ap (any_in (is_at m p)) ahead
        ∙ ap (λ (b : Bool). b || any_in (is_at m p) (drop (suc i) (corners m))) yes in
        let first : first_in (is_at m p) 0 (corners m) ≡ a =
        sym u.first_at ∙ ap (first_in (is_at m p) 0) ahead
        ∙ ap (λ (b : Bool). cond b a (first_in (is_at m p) 0 (drop (suc i) (corners m)))) yes in
        rw (le-ltb m.count 2 two, any, first)

    -- or it is not, and the edge that leaves it is looked at
    pub corner_looked : {q : Point} → q ≡ point m a → {here : Bool} → here ≡ same_point q p → here ≡ false →
        {b : ℕ} → b ≡ next_corner m a → {q' : Point} → q' ≡ point m b → {side : Side} → side ≡ side_of q q' p →
        {view' : View} → view' ≡ viewed view side a → Scanning m p view' (i + 1)
    unfolding any_in first_in view_of
    corner_looked read tests e {b} to read' {side} is {view'} w =
        let no : is_at m p a ≡ false = sym (tests ∙ ap (λ (r : Point). same_point r p) read) ∙ e in
        let side_is : side ≡ side_of (point m a) (point m (next_corner m a)) p =
        is ∙ (λ j. side_of (read j) ((read' ∙ ap (point m) to) j) p) in
        let on = add-one i in
        record {
          few = omega (arith, u.few, ap (λ (v : View). v.visible) w, viewed_few view side a);
          bounded = omega (arith, ap length are);
          rest =
              ap (λ (j : ℕ). view_of m p view' (drop j (corners m))) on
              ∙ ap (λ (v : View). view_of m p v (drop (suc i) (corners m)))
              (w ∙ ap (λ (t : Side). viewed view t a) side_is)
              ∙ ap (view_of m p view) (sym ahead)
              ∙ u.rest;
          any_at =
              ap (λ (j : ℕ). any_in (is_at m p) (drop j (corners m))) on
              ∙ ap (λ (t : Bool). t || any_in (is_at m p) (drop (suc i) (corners m))) (sym no)
              ∙ ap (any_in (is_at m p)) (sym ahead)
              ∙ u.any_at;
          first_at =
              ap (λ (j : ℕ). first_in (is_at m p) 0 (drop j (corners m))) on
              ∙ ap (λ (t : Bool). cond t a (first_in (is_at m p) 0 (drop (suc i) (corners m)))) (sym no)
              ∙ ap (first_in (is_at m p) 0) (sym ahead)
              ∙ u.first_at;
        }

  pub at_end : {items : List ℕ} → items ≡ corners m → {view : View} {i : ℕ} → Scanning m p view i → length items ≤ i →
      2 ≤ m.count → place_seen m p view ≡ cond (ltb m.count 2) Placed.NoOutline (place_among m p)
  unfolding any_in view_of
  at_end {items} are {view} {i} u h two =
      let none : drop i (corners m) ≡ [] = drop_of_length-le (corners m) {i = i} (omega (arith, ap length are)) in
      let view_is : view ≡ view_of m p (nothing_found m p) (corners m) =
      sym (ap (view_of m p view) none) ∙ u.rest in
      let no_corner : any_in (is_at m p) (corners m) ≡ false = sym u.any_at ∙ ap (any_in (is_at m p)) none in
      rw (le-ltb m.count 2 two) (ap (place_seen m p) view_is ∙ place_seen_is m p no_corner)
