-- The loop that reads positions, in the order of this page: what one step says of the positions; what
-- the loop knows at a place: what is read and what is ahead make up the answer; where it goes on,
-- stops and fails.
use mathlib.Core.Path.{◌≡◌, refl, sym, ap, ap₂, ◌∙◌}
use mathlib.Core.Logic.{◌≢◌, ⊎_elim}
use mathlib.Core.Bool.{Bool, true, false, not, ◌&&◌}
use mathlib.Core.List.{List, [], ◌∷◌, ◌++◌}
use mathlib.Core.Option.{Option as Perhaps, none, some}
use Prim.Native.Nat.{ℕ, zero, suc, ◌+◌, ◌-◌, ◌≤◌, ◌<◌}
use native.Mathlib.Nat.{sub-zero}
use native.Mathlib.Omega.{arith}
use lib.Dec.{T}
use lib.ListN.{length, get_or, set, take, drop, length-append, length-drop, length-set, get_or-append}
use lib.Seq.{take_all, drop-drop, append_snoc, get_or-append_seam, get_or-set_same, get_or-set_other}
use Rattle.std.specs.declared.option.Option.{Option}
use Rattle.std.specs.declared.option.Option.TheVariants.{Some, None}
use Rattle.finite.specs.Tests.{decide, is_true, same_or_not}
use Rattle.finite.specs.Lists.{all_in}
use Rattle.finite.specs.ListLaws.{all_in_snoc}
use Rattle.model.specs.declared.Point.{Point}
use Rattle.model.specs.Plane.{in_range, origin}
use Rattle.model.specs.Maps.{point_limit}
use Rattle.model.specs.Spelling.{bytes}
use Rattle.positions.specs.declared.Listed.{Listed}
use Rattle.positions.specs.declared.Step.{Step}
use Rattle.model.specs.Outlines.{after_position, is_position, is_word, position, positions, starts_with, with_first}
use Rattle.positions.specs.Positions.{Kept, ReadAll, listed_as, position_size, step}
use Rattle.survey.proofs.Digits.{some_same}
use Rattle.positions.proofs.PositionLaws.{fails, one_more, the_last, no_last, no_position}
use Rattle.positions.proofs.Steps.{Found, position_inside, more_inside, rest_is, is_rest}

-- ---- one step

record Goes (s : List ℕ) (p : Point) (n : ℕ) : Type 0 where
  passes : T (is_position s)
  point : position s ≡ p
  comma : T (starts_with (bytes ", ") (after_position s))
  size : n ≡ position_size s + 2

record Stops (closing s : List ℕ) (p : Point) : Type 0 where
  passes : T (is_position s)
  point : position s ≡ p
  no_comma : starts_with (bytes ", ") (after_position s) ≡ false
  closed : T (is_word closing (after_position s))

-- a step that goes on is none that stops
going_on : {p q : Point} {n : ℕ} →
    ◌≡◌ {A = Option Step} (Some (record { point = p; more = Some n }))
    (Some (record { point = q; more = None })) → ⊥
going_on {p} {q} {n} e =
    let same = ap (λ (t : Step). t.more) (some_same _ _ e) in
    let never : ◌≡◌ {A = ℕ} 0 1 = cc in omega arith

no_step : {t : Step} → ◌≡◌ {A = Option Step} (Some t) None → ⊥
no_step e = let never : ◌≡◌ {A = ℕ} 0 1 = cc in omega arith

-- a step, by what follows its position
pub told : {t : Step} {o : Option ℕ} {r : Option Step} → Some t ≡ r → t.more ≡ o →
    Some (record { point = t.point; more = o }) ≡ r
told e m = rw (← m) e

module _ (closing s : List ℕ) where
  abbrev comma_at : Bool
  comma_at = starts_with (bytes ", ") (after_position s)

  abbrev closed_at : Bool
  closed_at = is_word closing (after_position s)

  -- the four cases of the definition
  is_more : T (is_position s) → T comma_at →
      step closing s ≡ Some (record { point = position s; more = Some (position_size s + 2) })
  unfolding step
  is_more t c = rw (is_true (is_position s) t, is_true comma_at c)

  is_last : T (is_position s) → comma_at ≡ false → T closed_at →
      step closing s ≡ Some (record { point = position s; more = None })
  unfolding step
  is_last t c e = rw (is_true (is_position s) t, c, is_true closed_at e)

  is_open : T (is_position s) → comma_at ≡ false → closed_at ≡ false → step closing s ≡ None
  unfolding step
  is_open t c e = rw (is_true (is_position s) t, c, e)

  is_none : is_position s ≡ false → step closing s ≡ None
  unfolding step
  is_none t = rw t

  by_cases : {A : Type 0} → (T (is_position s) → T comma_at → A) →
      (T (is_position s) → comma_at ≡ false → T closed_at → A) →
      (T (is_position s) → comma_at ≡ false → closed_at ≡ false → A) → (is_position s ≡ false → A) → A
  by_cases more last loose absent =
      ⊎_elim
      (λ (t : T (is_position s)).
      ⊎_elim
      (λ (c : T comma_at). more t c)
      (λ (c : T (not comma_at)).
      ⊎_elim
      (λ (e : T closed_at). last t (fails comma_at c) e)
      (λ (e : T (not closed_at)). loose t (fails comma_at c) (fails closed_at e))
      (decide closed_at))
      (decide comma_at))
      (λ (t : T (not (is_position s))). absent (fails (is_position s) t))
      (decide (is_position s))

  goes : {p : Point} {n : ℕ} → step closing s ≡ Some (record { point = p; more = Some n }) → Goes s p n
  goes {p} {n} e =
      by_cases
      (λ t c.
      let same = some_same _ _ (sym (is_more t c) ∙ e) in
      record {
        passes = t;
        point = ap (λ (r : Step). r.point) same;
        comma = c;
        size = some_same _ _ (sym (ap (λ (r : Step). r.more) same));
      })
      (λ t c f. absurd (going_on (sym e ∙ is_last t c f)))
      (λ t c f. absurd (no_step (sym e ∙ is_open t c f)))
      (λ t. absurd (no_step (sym e ∙ is_none t)))

  stops : {p : Point} → step closing s ≡ Some (record { point = p; more = None }) → Stops closing s p
  stops {p} e =
      by_cases
      (λ t c. absurd (going_on (sym (is_more t c) ∙ e)))
      (λ t c f.
      let same = some_same _ _ (sym (is_last t c f) ∙ e) in
      record { passes = t; point = ap (λ (r : Step). r.point) same; no_comma = c; closed = f })
      (λ t c f. absurd (no_step (sym e ∙ is_open t c f)))
      (λ t. absurd (no_step (sym e ∙ is_none t)))

  none_read : (k : ℕ) → step closing s ≡ None → positions k closing s ≡ none
  unfolding positions
  none_read zero e = refl
  none_read (suc k) e =
      by_cases
      (λ t c. absurd (no_step (sym (is_more t c) ∙ e)))
      (λ t c f. absurd (no_step (sym (is_last t c f) ∙ e)))
      (λ t c f. no_last k closing s t c f)
      (λ t. no_position k closing s t)

  -- it takes bytes of the list
  some_bytes : T (is_position s) → 1 ≤ length s
  unfolding position_size
  some_bytes t =
      let w : Found s (position s) (position_size s) = record { passes = t; point = refl; size = refl } in
      omega (arith, position_inside w)

-- ---- what the loop knows

-- with what was read before
unfoldable pub put_first : List Point → Perhaps (List Point) → Perhaps (List Point)
put_first read none = none
put_first read (some s) = some (read ++ s)

first_last : (read : List Point) (p : Point) (m : Perhaps (List Point)) →
    put_first (read ++ p ∷ []) m ≡ put_first read (with_first p m)
unfolding put_first with_first
first_last read p none = refl
first_last read p (some s) = ap some (append_snoc read p s)

-- one point more is kept
kept_more : {read before after : List Point} (p : Point) → Kept read before after →
    Kept (read ++ p ∷ []) before (set after (length read) p)
kept_more {read} {before} {after} p w =
    let n : ℕ = length read in
    record {
      long = length-set after n p ∙ w.long;
      each =
          λ k h l.
          ⊎_elim
          (λ (e : k ≡ n).
          rw e
          (get_or-set_same after n p origin (omega (arith, w.long))
          ∙ sym (get_or-append_seam read p [] origin)))
          (λ (d : k ≢ n).
          let below : k < n = omega (arith, length-append read (p ∷ [])) in
          get_or-set_other after n k p origin d ∙ w.each k below l
          ∙ sym (get_or-append read (p ∷ []) origin k below))
          (same_or_not k n);
      others =
          λ k h.
          let above : n < k = omega (arith, length-append read (p ∷ [])) in
          let d : k ≢ n = λ e. omega arith in
          get_or-set_other after n k p origin d ∙ w.others k (omega arith);
    }

-- what is read and what is ahead make up the answer
pub record Reading (closing s : List ℕ) (before : List Point) (place count : ℕ) (ranged : Bool)
    (after : List Point) : Type 0 where
  pub read : List Point
  pub ahead :
      put_first read (positions (length s - count) closing (drop place s)) ≡ positions (length s) closing s
  pub counted : count ≡ length read
  pub all_ranged : ranged ≡ all_in in_range read
  pub kept : Kept read before after
  pub inside : place ≤ length s
  pub fewer : count ≤ place

first_none : (m : Perhaps (List Point)) → put_first [] m ≡ m
unfolding put_first
first_none none = refl
first_none (some s) = refl

pub reading_none : (closing s : List ℕ) (points : List Point) → length points ≡ point_limit →
    Reading closing s points 0 0 true points
unfolding all_in
reading_none closing s points e =
    record {
      read = [];
      ahead =
          ap (λ (k : ℕ). put_first [] (positions k closing s)) (sub-zero (length s))
          ∙ first_none (positions (length s) closing s);
      counted = refl;
      all_ranged = refl;
      kept = record { long = e; each = λ k h l. absurd (omega arith); others = λ k h. refl };
      inside = omega arith;
      fewer = omega arith;
    }

-- at a place where a step was made, with its point kept
module _ {closing s : List ℕ} {before : List Point} {place count : ℕ} {b : Bool} {after : List Point}
    (w : Reading closing s before place count b after) where
  -- the list that is lent for the step
  abbrev lent : List ℕ
  lent = take (length s - place) (drop place s)

  is_lent : lent ≡ drop place s
  is_lent = take_all (length s - place) (drop place s) (omega (arith, length-drop place s))

  -- the step is that of the list from `place` on
  here : {r : Option Step} → r ≡ step closing lent → step closing (drop place s) ≡ r
  here e = sym (e ∙ ap (step closing) is_lent)

  fuel : T (is_position (drop place s)) → length s - count ≡ suc (length s - (count + 1))
  fuel t = omega (arith, some_bytes closing (drop place s) t, length-drop place s, w.fewer)

  module _ (p : Point) where
    abbrev more_read : List Point
    more_read = w.read ++ p ∷ []

    kept_here : Kept more_read before (set after count p)
    kept_here = rw w.counted (kept_more p w.kept)

    ranged_here : {r : Bool} → r ≡ (b && in_range p) → r ≡ all_in in_range more_read
    ranged_here e = e ∙ ap (λ (a : Bool). a && in_range p) w.all_ranged ∙ sym (all_in_snoc in_range w.read p)

    counted_here : count + 1 ≡ length more_read
    counted_here = omega (arith, w.counted, length-append w.read (p ∷ []))

    module _ {n : ℕ} (e : Some (record { point = p; more = Some n }) ≡ step closing lent) where
      abbrev rest : List ℕ
      rest = drop place s

      went : Goes rest p n
      went = goes closing rest (here e)

      found_here : Found rest (position rest) (position_size rest)
      found_here = record { passes = went.passes; point = refl; size = refl }

      pub goes_inside : place + n ≤ length s
      goes_inside =
          let comma : starts_with (bytes ", ") (after_position rest) ≡ true =
          is_true (starts_with (bytes ", ") (after_position rest)) went.comma in
          omega (
            arith,
            went.size,
            more_inside found_here (ap (starts_with (bytes ", ")) (is_rest found_here) ∙ comma),
            length-drop place s,
            w.inside,
          )

      pub goes_on : 1 ≤ n
      goes_on = omega (arith, went.size)

      after_is : drop 2 (after_position rest) ≡ drop (place + n) s
      after_is =
          let m : ℕ = position_size rest in
          ap (drop 2) (sym (rest_is found_here)) ∙ drop-drop 2 m rest ∙ drop-drop (m + 2) place s
          ∙ ap (λ (k : ℕ). drop (place + k) s) (sym went.size)

      stepped : positions (length s - count) closing rest
          ≡ with_first p (positions (length s - (count + 1)) closing (drop (place + n) s))
      stepped =
          let k : ℕ = length s - (count + 1) in
          ap (λ (j : ℕ). positions j closing rest) (fuel went.passes)
          ∙ one_more k closing rest went.passes went.comma
          ∙ ap₂ with_first went.point (ap (positions k closing) after_is)

      pub reading_more : {r : Bool} → r ≡ (b && in_range p) →
          Reading closing s before (place + n) (count + 1) r (set after count p)
      reading_more f =
          record {
            read = more_read;
            ahead = first_last w.read p _ ∙ ap (put_first w.read) (sym stepped) ∙ w.ahead;
            counted = counted_here;
            all_ranged = ranged_here f;
            kept = kept_here;
            inside = goes_inside;
            fewer = omega (arith, w.fewer, goes_on);
          }

    module _ (e : Some (record { point = p; more = None }) ≡ step closing lent) where
      stopped : Stops closing (drop place s) p
      stopped = stops closing (drop place s) (here e)

      all_read : some more_read ≡ positions (length s) closing s
      unfolding put_first
      all_read =
          let k : ℕ = length s - (count + 1) in
          let one : positions (length s - count) closing (drop place s) ≡ some (p ∷ []) =
          ap (λ (j : ℕ). positions j closing (drop place s)) (fuel stopped.passes)
          ∙ the_last k closing (drop place s) stopped.passes stopped.no_comma stopped.closed
          ∙ ap (λ (q : Point). some (q ∷ [])) stopped.point in
          sym (ap (put_first w.read) one) ∙ w.ahead

      pub reading_last : {r : Bool} → r ≡ (b && in_range p) →
          ReadAll closing s (Some (record { count = count + 1; ranged = r; last = p })) before
          (set after count p)
      unfolding listed_as
      reading_last {r} f =
          let end : length more_read - 1 ≡ length w.read = omega (arith, length-append w.read (p ∷ [])) in
          let last_is : get_or more_read (length more_read - 1) origin ≡ p =
          ap (λ (k : ℕ). get_or more_read k origin) end ∙ get_or-append_seam w.read p [] origin in
          let same : Some (record { count = count + 1; ranged = r; last = p }) ≡ listed_as (some more_read) =
          rw (last_is, ← counted_here, ranged_here f) in
          record {
            answer = same ∙ ap listed_as all_read;
            kept =
                λ ps g.
                let both : some more_read ≡ some ps = all_read ∙ g in
                let is : ps ≡ more_read = cc in
                rw is kept_here;
          }

    -- the step fits, whichever it is
    pub one_fits : {o : Option ℕ} → Some (record { point = p; more = o }) ≡ step closing lent → count < length s
    one_fits {o} e =
        by_cases closing (drop place s)
        (λ t c. omega (arith, some_bytes closing (drop place s) t, length-drop place s, w.fewer))
        (λ t c f. omega (arith, some_bytes closing (drop place s) t, length-drop place s, w.fewer))
        (λ t c f. absurd (no_step (sym (here e) ∙ is_open closing (drop place s) t c f)))
        (λ t. absurd (no_step (sym (here e) ∙ is_none closing (drop place s) t)))

  pub reading_bad : {r : Option Listed} → r ≡ None → None ≡ step closing lent → ReadAll closing s r before after
  unfolding listed_as put_first
  reading_bad {r} absent e =
      let none_is : none ≡ positions (length s) closing s =
      sym (ap (put_first w.read) (none_read closing (drop place s) (length s - count) (here e))) ∙ w.ahead in
      record {
        answer = absent ∙ ap listed_as none_is;
        kept = λ ps f. let z : ◌≡◌ {A = ℕ} 0 1 = cc in absurd (omega arith);
      }
