-- Corners that some survey lists, in the order of this page: the lowest is first, as the library looks at the
-- others; the tests at an array that holds corners are those at the corners; what is answered for a text, by
-- what was found; the coordinates of points; what a caller has of the answer; a loop that writes coordinates.
use mathlib.Core.Path.{◌≡◌, refl, sym, ap, subst, ◌∙◌}
use mathlib.Core.Logic.{⊎_elim}
use mathlib.Core.Bool.{Bool, true, false, not, ◌&&◌}
use mathlib.Core.List.{List, [], ◌∷◌}
use mathlib.Core.Option.{Option as Perhaps, none, some}
use Prim.Native.Nat.{ℕ, zero, suc, ◌+◌, ◌-◌, ◌*◌, ◌≤◌, ◌<◌}
use native.Mathlib.Omega.{arith}
use borrow.Author.Tests.{le-leb, lt-leb}
use lib.Dec.{T, T_not, leb, leb→le, ltb, eqb}
use lib.IntN.{ℤ, pos}
use lib.ListN.{length, get_or, set, take, length-take}
use lib.Seq.{ext_get_or, get_or-take, length-take-le}
use Rattle.std.proofs.lemmas.List.{get_or_past}
use Rattle.std.specs.declared.option.Option.{Option}
use Rattle.std.specs.declared.option.Option.TheVariants.{Some, None}
use Rattle.std.specs.declared.result.Result.{Result}
use Rattle.std.specs.declared.result.Result.TheVariants.{Ok, Err}
use Rattle.std.specs.List.{list_all}
use Rattle.finite.specs.Tests.{decide, of_true, is_true, is_false, same_test, implies_use, implies_by, differ_by, differ_use, and_left, and_right, and_both}
use Rattle.finite.specs.Bounded.{all, all_at, all_by, lt_or_ge}
use Rattle.finite.specs.Lists.{all_in}
use Rattle.finite.specs.ListLaws.{all_in_by}
use Rattle.finite.specs.Overwriting.{Copied, one_copied}
use Rattle.model.specs.declared.Refusal.{Refusal}
use Rattle.model.specs.declared.Point.{Point}
use Rattle.model.specs.Refusals.{unless}
use Rattle.model.specs.Answers.{outcome_by}
use Rattle.model.specs.Plane.{coordinate_in_range, in_range, lower, origin}
use Rattle.model.specs.Maps.{point_in, point_limit}
use Rattle.model.specs.Report.{text_limit}
use Rattle.model.specs.Outlines.{coordinates, corners_in, corners_spelt, is_outline, is_some, listable, lowest_is_first, or_none, outline_rules}
use Rattle.model.proofs.Answers.{outcome_serves, unless_made}
use Rattle.maps.specs.Places.{AllRanged}
use Rattle.survey.proofs.Digits.{some_same}
use Rattle.polygons.specs.declared.Corners.{Corners}
use Rattle.polygons.specs.Spellings.{CornersRead, corners_as}
use Rattle.listings.specs.Listings.{ListingRead, turns_at}
use Rattle.listings.proofs.Turning.{turns_same}

-- ---- the lowest is first

-- every one passes, by its place
each_passes : (p : Point → Bool) (s : List Point) → list_all p s ≡ all (length s) (λ k. p (get_or s k origin))
each_passes p s = same_test (list_all p s) _ (there s) (here s)
  where
    there : (s : List Point) → T (list_all p s) → T (all (length s) (λ k. p (get_or s k origin)))
    there s t = all_by (length s) (λ k. p (get_or s k origin)) (λ k h. at_place s t k h)
      where
        at_place : (s : List Point) → T (list_all p s) → (k : ℕ) → k < length s → T (p (get_or s k origin))
        at_place [] t k h = absurd (omega arith)
        at_place (q ∷ s) t zero h = and_left (p q) (list_all p s) t
        at_place (q ∷ s) t (suc k) h = at_place s (and_right (p q) (list_all p s) t) k (omega arith)

    here : (s : List Point) → T (all (length s) (λ k. p (get_or s k origin))) → T (list_all p s)
    here s t = whole s (λ k h. all_at (length s) (λ k. p (get_or s k origin)) t k h)
      where
        whole : (s : List Point) → ((k : ℕ) → k < length s → T (p (get_or s k origin))) → T (list_all p s)
        whole [] f = tt
        whole (q ∷ s) f =
            and_both (p q) (list_all p s) (f 0 (omega arith)) (whole s (λ k h. f (suc k) (omega arith)))

pub lowest_of : (p : Point) (s : List Point) → list_all (λ q. lower p q) s ≡ lowest_is_first (p ∷ s)
unfolding lowest_is_first
lowest_of p s =
    each_passes (λ q. lower p q) s
    ∙ same_test (all (length s) (λ k. lower p (get_or s k origin))) _
    (λ t.
    all_by (length (p ∷ s)) _
    (λ k h.
    implies_by (not (eqb k 0)) (lower p (get_or (p ∷ s) k origin))
    (λ d.
    let some = differ_use k 0 d in
    let before : suc (k - 1) ≡ k = omega (arith, some) in
    subst (λ (j : ℕ). T (lower p (get_or (p ∷ s) j origin))) before
    (all_at (length s) (λ j. lower p (get_or s j origin)) t (k - 1) (omega (arith, some))))))
    (λ t.
    all_by (length s) _
    (λ k h.
    implies_use (not (eqb (suc k) 0)) (lower p (get_or s k origin))
    (all_at (length (p ∷ s)) _ t (suc k) (omega arith)) (differ_by (suc k) 0 (λ e. omega arith))))

pub lowest_none : (s : List Point) → length s ≡ 0 → lowest_is_first s ≡ true
unfolding lowest_is_first all
lowest_none s e = rw e

-- ---- the tests at the corners

-- what the code tests is what the definition does
pub tests_same : (cs : List Point) → T (all_in in_range cs) → length cs ≤ point_limit →
    (lowest_is_first cs && turns_at cs) ≡ listable cs
unfolding listable
tests_same cs ranged fits =
    rw (le-leb (length cs) point_limit fits)
    (⊎_elim
    (λ (low : T (lowest_is_first cs)).
    rw (is_true (lowest_is_first cs) low) (turns_same cs ranged fits low))
    (λ (low : T (not (lowest_is_first cs))).
    rw (is_false (lowest_is_first cs) (T_not (lowest_is_first cs) low)))
    (decide (lowest_is_first cs)))

-- the first n points of an array, which may not have so many
pub few_points : (points corners : List Point) (n : ℕ) → length points ≡ point_limit → n ≤ length points →
    corners ≡ take n points → T (all_in in_range corners) →
    (lowest_is_first corners && turns_at corners) ≡ (leb n point_limit && listable (take n points))
few_points points corners n long few is ranged =
    let size : length (take n points) ≡ n = length-take-le n points few in
    rw (le-leb n point_limit (omega arith))
    (tests_same corners ranged (omega (arith, ap length is)) ∙ ap listable is)

pub many_points : (cs : List Point) (n : ℕ) → point_limit < n → false ≡ (leb n point_limit && listable cs)
many_points cs n h = rw (lt-leb n point_limit h)

-- the first n points of an array whose points are all in range
pub front_ranged : (points : List Point) (n : ℕ) → n ≤ length points →
    ((k : ℕ) → T (in_range (point_in points k))) → T (all_in in_range (take n points))
front_ranged points n h ranged =
    all_in_by in_range (take n points) origin
    (λ k l.
    let below : k < n = omega (arith, length-take-le n points h) in
    subst (λ (p : Point). T (in_range p)) (sym (get_or-take n points k origin below)) (ranged k))

-- .. as places
pub front_held : (points : List Point) (n : ℕ) → n ≤ length points → AllRanged points → AllRanged (take n points)
unfolding in_range coordinate_in_range
front_held points n h ranged k =
    ⊎_elim
    (λ (l : k < n). subst (λ (p : Point). T (in_range p)) (sym (get_or-take n points k origin l)) (ranged k))
    (λ (g : n ≤ k).
    subst (λ (p : Point). T (in_range p))
    (sym (get_or_past (take n points) k origin (rw (length-take-le n points h) g))) tt)
    (lt_or_ge k n)

-- ---- what is answered for a text

read_of : {c : Corners} (m : Perhaps (List Point)) → Some c ≡ corners_as m →
    (cs : List Point) × (m ≡ some cs) × (c.count ≡ length cs) × (c.ranged ≡ all_in in_range cs)
unfolding corners_as
read_of none e = absurd (let z : ◌≡◌ {A = ℕ} 0 1 = cc in omega arith)
read_of (some cs) e =
    let same = some_same _ _ e in
    (cs, refl, ap (λ (d : Corners). d.count) same, ap (λ (d : Corners). d.ranged) same)

none_of : (m : Perhaps (List Point)) → None ≡ corners_as m → m ≡ none
unfolding corners_as
none_of none e = refl
none_of (some cs) e = absurd (let z : ◌≡◌ {A = ℕ} 0 1 = cc in omega arith)

-- a refused text holds nothing
refused_read : {t : List ℕ} {points : List Point} (x : Refusal) →
    Err x ≡ unless Err (outline_rules t) (Ok (length (corners_spelt t))) → ListingRead t (Err x) points
refused_read x e =
    record { answer = e; held = λ n f. absurd (let z : ◌≡◌ {A = ℕ} 0 1 = cc in omega arith) }

pub long_read : {t : List ℕ} {points : List Point} → ltb text_limit (length t) ≡ true →
    ListingRead t (Err Refusal.LongText) points
unfolding unless
long_read e = refused_read Refusal.LongText (sym (rw e))

module _ {t : List ℕ} {r : Option Corners} {points : List Point} (fits : ltb text_limit (length t) ≡ false)
    (w : CornersRead t r points) where
  pub malformed_read : r ≡ None → ListingRead t (Err Refusal.BadOutline) points
  unfolding unless is_outline is_some
  malformed_read e =
      let no_corners : corners_in t ≡ none = none_of (corners_in t) (sym e ∙ w.answer) in
      refused_read Refusal.BadOutline (sym (rw (fits, no_corners)))

  module _ {c : Corners} (is : r ≡ Some c) where
    abbrev found :
        (cs : List Point) × (corners_in t ≡ some cs) × (c.count ≡ length cs) × (c.ranged ≡ all_in in_range cs)
    found = read_of (corners_in t) (sym is ∙ w.answer)

    abbrev cs : List Point
    cs = found.0

    spelt_is : corners_spelt t ≡ cs
    unfolding corners_spelt or_none
    spelt_is = ap or_none found.1

    in_form : is_outline t ≡ true
    unfolding is_outline is_some
    in_form = ap is_some found.1

    ranged_is : all_in in_range (corners_spelt t) ≡ c.ranged
    ranged_is = ap (all_in in_range) spelt_is ∙ sym found.3

    pub far_read : c.ranged ≡ false → ListingRead t (Err Refusal.OutOfRange) points
    unfolding unless
    far_read e = refused_read Refusal.OutOfRange (sym (rw (fits, in_form, ranged_is ∙ e)))

    module _ (e : c.ranged ≡ true) where
      pub places_ranged : (k : ℕ) → T (in_range (point_in points k))
      places_ranged = (w.held cs found.1).ranged (of_true (all_in in_range cs) (sym found.3 ∙ e))

      module _ (long : length points ≡ point_limit) where
        -- the corners are the first points
        first_points : c.count ≤ point_limit → take c.count points ≡ cs
        first_points few =
            let size : length (take c.count points) ≡ c.count = length-take-le c.count points (omega arith) in
            ext_get_or origin (take c.count points) cs (omega (arith, found.2))
            (λ k l.
            get_or-take c.count points k origin (omega arith)
            ∙ (w.held cs found.1).each k (omega (arith, found.2)) (omega arith))

        -- the test of the points is that of the corners, also where there are too many of them
        test_is : listable (corners_spelt t) ≡ (leb c.count point_limit && listable (take c.count points))
        unfolding listable
        test_is =
            ap listable spelt_is
            ∙ ⊎_elim
            (λ (many : point_limit < c.count).
            let above : point_limit < length cs = omega (arith, found.2) in
            rw (lt-leb (length cs) point_limit above, lt-leb c.count point_limit many))
            (λ (few : c.count ≤ point_limit).
            rw (le-leb c.count point_limit few) (ap listable (sym (first_points few))))
            (lt_or_ge point_limit c.count)

        pub unlisted_read : (leb c.count point_limit && listable (take c.count points)) ≡ false →
            ListingRead t (Err Refusal.NoSurvey) points
        unfolding unless
        unlisted_read f = refused_read Refusal.NoSurvey (sym (rw (fits, in_form, ranged_is ∙ e, test_is ∙ f)))

        pub listed_read : (leb c.count point_limit && listable (take c.count points)) ≡ true →
            ListingRead t (Ok c.count) points
        unfolding unless
        listed_read f =
            let few : c.count ≤ point_limit =
            leb→le c.count point_limit (and_left (leb c.count point_limit) _ (of_true _ f)) in
            let size : c.count ≡ length (corners_spelt t) = found.2 ∙ ap length (sym spelt_is) in
            record {
              answer = ap Ok size ∙ sym (rw (fits, in_form, ranged_is ∙ e, test_is ∙ f));
              held =
                  λ n g.
                  let same : n ≡ c.count = cc in
                  rw (same, spelt_is) (first_points few);
            }

-- ---- the coordinates of points

pub coordinates_length : (ps : List Point) → length (coordinates ps) ≡ 2 * length ps
unfolding coordinates
coordinates_length [] = refl
coordinates_length (p ∷ ps) = omega (arith, coordinates_length ps)

pub coordinates_x : (ps : List Point) (k : ℕ) → get_or (coordinates ps) (2 * k) (pos 0) ≡ (get_or ps k origin).x
unfolding coordinates
coordinates_x [] k = refl
coordinates_x (p ∷ ps) zero = refl
coordinates_x (p ∷ ps) (suc k) =
    let next : 2 * suc k ≡ suc (suc (2 * k)) = omega arith in
    ap (λ (j : ℕ). get_or (coordinates (p ∷ ps)) j (pos 0)) next ∙ coordinates_x ps k

pub coordinates_y : (ps : List Point) (k : ℕ) → get_or (coordinates ps) (2 * k + 1) (pos 0) ≡ (get_or ps k origin).y
unfolding coordinates
coordinates_y [] k = refl
coordinates_y (p ∷ ps) zero = refl
coordinates_y (p ∷ ps) (suc k) =
    let next : 2 * suc k + 1 ≡ suc (suc (2 * k + 1)) = omega arith in
    ap (λ (j : ℕ). get_or (coordinates (p ∷ ps)) j (pos 0)) next ∙ coordinates_y ps k

-- ---- what a caller has of it

-- an answer without its value
abbrev outcome_of : Result ℕ Refusal → Result (Unit {0}) Refusal
outcome_of (Ok n) = Ok tt
outcome_of (Err r) = Err r

module _ {t : List ℕ} {r : Result ℕ Refusal} {points : List Point} (w : ListingRead t r points) where
  outcome_is : outcome_of r ≡ outcome_by (outline_rules t)
  outcome_is =
      ap outcome_of w.answer
      ∙ unless_made outcome_of Err Err (λ x. refl) (outline_rules t) (Ok (length (corners_spelt t)))

  pub listing_refused : {x : Refusal} → r ≡ Err x → Err x ≡ outcome_by (outline_rules t)
  listing_refused e = sym (ap outcome_of e) ∙ outcome_is

  module _ {n : ℕ} (e : r ≡ Ok n) where
    pub listing_served : Ok tt ≡ outcome_by (outline_rules t)
    listing_served = sym (ap outcome_of e) ∙ outcome_is

    pub listing_number : n ≡ length (corners_spelt t)
    listing_number =
        let is : Ok n ≡ Ok (length (corners_spelt t)) =
        sym e ∙ w.answer
        ∙ sym (outcome_serves Err (Ok (length (corners_spelt t))) (outline_rules t) listing_served) in
        cc

    -- the points that are written, the coordinates of them, and how many those are
    pub listing_points : take n points ≡ corners_spelt t
    listing_points = w.held n e

    pub listing_length : 2 * n ≡ length (coordinates (corners_spelt t))
    listing_length = omega (arith, listing_number, coordinates_length (corners_spelt t))

    pub listing_few : n ≤ length points
    listing_few =
        ⊎_elim
        (λ (h : length points < n).
        absurd (omega (arith, listing_number, ap length listing_points, length-take n points)))
        (λ (h : n ≤ length points). h)
        (lt_or_ge (length points) n)

-- ---- a loop that writes coordinates

module _ (points : List Point) where
  pub source_length : length (coordinates points) ≡ 2 * length points
  source_length = coordinates_length points

  -- the point at place k
  pub pair_copied : {lent now : List ℤ} (k : ℕ) → Copied lent 0 (coordinates points) now (2 * k) →
      k < length points → 2 * length points ≤ length lent →
      Copied lent 0 (coordinates points)
      (set (set now (2 * k) (get_or points k origin).x) (2 * k + 1) (get_or points k origin).y) (2 * (k + 1))
  pair_copied k c more room =
      let x_is = coordinates_x points k in
      let y_is = coordinates_y points k in
      let one = one_copied c (pos 0) {k = 2 * k} (omega arith) (omega (arith, source_length)) (omega arith) in
      let both = one_copied one (pos 0) {k = 2 * k + 1} (omega arith) (omega (arith, source_length)) (omega arith) in
      let next : 2 * (k + 1) ≡ 2 * k + 1 + 1 = omega arith in
      rw (next, ← x_is, ← y_is) both
