-- Corners that are kept in an array, in the order of this page: what holds of every place, after positions
-- were read, and after a ring was; so many positions, and a ring, as the code answers them; a whole text, by
-- the word at its front; an array that holds nothing yet.
use mathlib.Core.Path.{◌≡◌, refl, sym, ap, ap₂, subst, ◌∙◌}
use mathlib.Core.Logic.{⊎_elim}
use mathlib.Core.Bool.{Bool, true, false, not, cond, ◌&&◌}
use mathlib.Core.List.{List, [], ◌∷◌}
use mathlib.Core.Option.{Option as Perhaps, none, some}
use Prim.Native.Nat.{ℕ, ◌-◌, ◌≤◌, ◌<◌}
use native.Mathlib.Omega.{arith}
use lib.Dec.{T, T_not, leb, eqb, leb→le, le→leb}
use lib.ListN.{length, get_or, take, drop, replicate, length-append, length-drop, get_or-append, get_or-eq_default}
use lib.Seq.{take_all, length-take-le}
use Rattle.std.specs.declared.option.Option.{Option}
use Rattle.std.specs.declared.option.Option.TheVariants.{Some, None}
use Rattle.finite.specs.Tests.{and_left, and_right, and_both, decide, is_true, is_false, same_test}
use Rattle.finite.specs.Bounded.{lt_or_ge}
use Rattle.finite.specs.Lists.{all_in}
use Rattle.finite.specs.ListLaws.{all_in_at, all_in_snoc, replicate_at}
use Rattle.model.specs.declared.Point.{Point}
use Rattle.model.specs.Plane.{coordinate_in_range, in_range, origin, same_point}
use Rattle.model.specs.Maps.{point_in, point_limit}
use Rattle.model.specs.Spelling.{bytes}
use Rattle.model.specs.Outlines.{corners_in, exactly, is_word, positions, positions_in, ring_of, starts_with}
use Rattle.positions.specs.declared.Listed.{Listed}
use Rattle.polygons.specs.declared.Corners.{Corners}
use Rattle.positions.specs.Positions.{Kept, ReadAll, listed_as}
use Rattle.polygons.specs.Spellings.{CornersRead, Held, ReadBetween, Ready, corners_as, counted_as, ring_as}
use Rattle.polygons.proofs.RoundTrip.{closed, cut_closed, exactly_some, is_closed, ring_some}

-- ---- what holds of every place

origin_ranged : T (in_range origin)
unfolding in_range coordinate_in_range
origin_ranged = tt

module _ {ps before after : List Point} (ready : Ready before) (kept : Kept ps before after) where
  kept_ranged : T (all_in in_range ps) → (k : ℕ) → T (in_range (point_in after k))
  kept_ranged t k =
      ⊎_elim
      (λ (h : k < length ps).
      ⊎_elim
      (λ (l : k < point_limit).
      subst (λ (p : Point). T (in_range p)) (sym (kept.each k h l)) (all_in_at in_range ps t k origin h))
      (λ (l : point_limit ≤ k).
      subst (λ (p : Point). T (in_range p))
      (sym (get_or-eq_default after origin (omega (arith, kept.long)))) origin_ranged)
      (lt_or_ge k point_limit))
      (λ (h : length ps ≤ k). subst (λ (p : Point). T (in_range p)) (sym (kept.others k h)) (ready.ranged k))
      (lt_or_ge k (length ps))

  kept_held : Held ps after
  kept_held = record { each = kept.each; ranged = kept_ranged }

-- a ring is in range just where its corners are: what is added is the first of them
closed_ranged : (cs : List Point) → 1 ≤ length cs → all_in in_range (closed cs) ≡ all_in in_range cs
closed_ranged cs h =
    all_in_snoc in_range cs (get_or cs 0 origin)
    ∙ ⊎_elim
    (λ (t : T (all_in in_range cs)).
    let first = is_true (in_range (get_or cs 0 origin)) (all_in_at in_range cs t 0 origin h) in
    rw (is_true (all_in in_range cs) t) first)
    (λ (t : T (not (all_in in_range cs))). rw (is_false (all_in in_range cs) (T_not (all_in in_range cs) t)))
    (decide (all_in in_range cs))

ring_held : {cs before after : List Point} → 3 ≤ length cs → Ready before → Kept (closed cs) before after →
    Held cs after
ring_held {cs} h ready kept =
    let first : Point = get_or cs 0 origin in
    record {
      each =
          λ k l m.
          kept.each k (omega (arith, length-append cs (first ∷ []))) m
          ∙ get_or-append cs (first ∷ []) origin k l;
      ranged = λ t. kept_ranged ready kept (subst T (sym (closed_ranged cs (omega arith))) t);
    }

-- ---- so many positions, and a ring

-- what is answered of one of two
as_either : (b : Bool) (m n : Perhaps (List Point)) →
    corners_as (cond b m n) ≡ cond b (corners_as m) (corners_as n)
as_either true m n = refl
as_either false m n = refl

counted_answer : (n : ℕ) (m : Perhaps (List Point)) → counted_as n (listed_as m) ≡ corners_as (exactly n m)
unfolding counted_as listed_as exactly corners_as
counted_answer n none = refl
counted_answer n (some ps) = sym (as_either (eqb (length ps) n) (some ps) none)

-- the corners of a ring, as they are answered
abbrev ring_corners : List Point → Option Corners
ring_corners ps = Some (record { count = length ps - 1; ranged = all_in in_range ps })

module _ (first : Point) (ps : List Point) (is_first : 4 ≤ length ps → first ≡ get_or ps 0 origin) where
  abbrev last : Point
  last = get_or ps (length ps - 1) origin

  -- what the code tests, and what the definition does
  abbrev found_closed : Bool
  found_closed = leb 4 (length ps) && same_point first last

  same_closed : found_closed ≡ is_closed ps
  same_closed =
      let four = leb 4 (length ps) in
      let three = leb 3 (length ps - 1) in
      let begins : Point = get_or ps 0 origin in
      same_test found_closed (is_closed ps)
      (λ t.
      let h : 4 ≤ length ps = leb→le 4 (length ps) (and_left four (same_point first last) t) in
      and_both three (same_point begins last) (le→leb 3 (length ps - 1) (omega arith))
      (subst (λ (p : Point). T (same_point p last)) (is_first h) (and_right four (same_point first last) t)))
      (λ t.
      let h : 4 ≤ length ps = omega (arith, leb→le 3 (length ps - 1) (and_left three (same_point begins last) t)) in
      and_both four (same_point first last) (le→leb 4 (length ps) h)
      (subst (λ (p : Point). T (same_point p last)) (sym (is_first h)) (and_right three (same_point begins last) t)))

  -- all but the last, where it is closed
  cut_read : T (is_closed ps) → ring_corners ps ≡ corners_as (some (take (length ps - 1) ps))
  unfolding corners_as
  cut_read t =
      let cs : List Point = take (length ps - 1) ps in
      let w = cut_closed ps t in
      let long : length ps - 1 ≡ length cs = sym (length-take-le (length ps - 1) ps (omega arith)) in
      let ranged : all_in in_range ps ≡ all_in in_range cs =
      ap (all_in in_range) w.0 ∙ closed_ranged cs (omega (arith, w.1)) in
      ap₂ (λ (n : ℕ) (r : Bool). Some (record { count = n; ranged = r })) long ranged

  -- by whether the ring is closed
  by_closed : (b : Bool) → (T b → T (is_closed ps)) →
      cond b (ring_corners ps) None ≡ cond b (corners_as (some (take (length ps - 1) ps))) (corners_as none)
  unfolding corners_as
  by_closed true f = cut_read (f tt)
  by_closed false f = refl

  ring_answer : ring_as first (listed_as (some ps)) ≡ corners_as (ring_of (some ps))
  unfolding ring_as listed_as ring_of
  ring_answer =
      ap (λ (b : Bool). cond b (ring_corners ps) None) same_closed
      ∙ by_closed (is_closed ps) (λ t. t)
      ∙ sym (as_either (is_closed ps) (some (take (length ps - 1) ps)) none)

ring_answers : (first : Point) (m : Perhaps (List Point)) →
    ((ps : List Point) → m ≡ some ps → 4 ≤ length ps → first ≡ get_or ps 0 origin) →
    ring_as first (listed_as m) ≡ corners_as (ring_of m)
unfolding ring_as listed_as ring_of corners_as
ring_answers first none f = refl
ring_answers first (some ps) f = ring_answer first ps (f ps refl)

-- ---- a whole text

module _ {opening closing t : List ℕ} {r : Option Listed} {before after : List Point} (ready : Ready before)
    (w : ReadBetween opening closing t r before after) where
  pub counted_read : (n : ℕ) {c : Option Corners} → c ≡ counted_as n r →
      corners_in t ≡ exactly n (positions_in opening closing t) → CornersRead t c after
  counted_read n e is =
      record {
        answer = e ∙ ap (counted_as n) w.answer ∙ counted_answer n _ ∙ ap corners_as (sym is);
        held = λ cs f. kept_held ready (w.kept cs (exactly_some n _ cs (sym is ∙ f)).0);
      }

  pub ring_read : {first : Point} {c : Option Corners} → first ≡ point_in after 0 → c ≡ ring_as first r →
      corners_in t ≡ ring_of (positions_in opening closing t) → CornersRead t c after
  ring_read {first} begins e is =
      record {
        answer =
            e ∙ ap (ring_as first) w.answer
            ∙ ring_answers first _ (λ ps f h. begins ∙ (w.kept ps f).each 0 (omega arith) (omega arith))
            ∙ ap corners_as (sym is);
        held =
            λ cs f.
            let ring = ring_some _ cs (sym is ∙ f) in ring_held ring.1 ready (w.kept (closed cs) ring.0);
      }

pub none_read : {t : List ℕ} {points : List Point} → Ready points → corners_in t ≡ some [] →
    CornersRead t (Some (record { count = 0; ranged = true })) points
unfolding corners_as all_in
none_read ready is =
    record {
      answer = ap corners_as (sym is);
      held =
          λ cs f.
          let both : some [] ≡ some cs = sym is ∙ f in
          let none_of : cs ≡ [] = cc in
          rw none_of (record { each = λ k h. absurd (omega arith); ranged = λ t. ready.ranged });
    }

pub other_read : {t : List ℕ} {points : List Point} → corners_in t ≡ none → CornersRead t None points
unfolding corners_as
other_read is =
    record {
      answer = ap corners_as (sym is);
      held =
          λ cs f.
          let both : none ≡ some cs = sym is ∙ f in
          let z : ◌≡◌ {A = ℕ} 0 1 = cc in absurd (omega arith);
    }

-- the cases of the definition, by what the code found
module _ (t : List ℕ) where
  abbrev empty : Bool
  empty = is_word (bytes "POLYGON EMPTY") t

  abbrev one : Bool
  one = starts_with (bytes "POINT (") t

  abbrev two : Bool
  two = starts_with (bytes "LINESTRING (") t

  abbrev more : Bool
  more = starts_with (bytes "POLYGON ((") t

  pub spells_none : empty ≡ true → corners_in t ≡ some []
  unfolding corners_in
  spells_none e = rw e

  pub spells_point : empty ≡ false → one ≡ true → corners_in t ≡ exactly 1 (positions_in (bytes "POINT (") (bytes ")") t)
  unfolding corners_in
  spells_point e f = rw (e, f)

  pub spells_line : empty ≡ false → one ≡ false → two ≡ true →
      corners_in t ≡ exactly 2 (positions_in (bytes "LINESTRING (") (bytes ")") t)
  unfolding corners_in
  spells_line e f g = rw (e, f, g)

  pub spells_ring : empty ≡ false → one ≡ false → two ≡ false → more ≡ true →
      corners_in t ≡ ring_of (positions_in (bytes "POLYGON ((") (bytes "))") t)
  unfolding corners_in
  spells_ring e f g h = rw (e, f, g, h)

  pub spells_other : empty ≡ false → one ≡ false → two ≡ false → more ≡ false → corners_in t ≡ none
  unfolding corners_in
  spells_other e f g h = rw (e, f, g, h)

-- ---- positions after the first word

module _ (opening closing t : List ℕ) where
  abbrev rest : List ℕ
  rest = take (length t - length opening) (drop (length opening) t)

  rest_is : rest ≡ drop (length opening) t
  rest_is =
      take_all (length t - length opening) (drop (length opening) t) (omega (arith, length-drop (length opening) t))

  pub between_read : {r : Option Listed} {before after : List Point} → ReadAll closing rest r before after →
      ReadBetween opening closing t r before after
  unfolding positions_in
  between_read w =
      let same : positions (length rest) closing rest ≡ positions_in opening closing t =
      ap (λ (s : List ℕ). positions (length s) closing s) rest_is in
      record { answer = w.answer ∙ ap listed_as same; kept = λ ps e. w.kept ps (same ∙ e) }

-- ---- an array that holds nothing yet

pub zeros_ready : Ready (replicate point_limit origin)
zeros_ready =
    record {
      ranged =
          λ k. subst (λ (p : Point). T (in_range p)) (sym (replicate_at point_limit origin k)) origin_ranged;
    }
