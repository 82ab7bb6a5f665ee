-- One position as the code reads it, in the order of this page: the position at the front of a list,
-- by the cases of its two numbers and the space; by what stands after it; how many bytes it takes.
use mathlib.Core.Path.{◌≡◌, refl, sym, ap, ◌∙◌}
use mathlib.Core.Logic.{◌≢◌, ⊎_elim}
use mathlib.Core.Bool.{true, false, not}
use mathlib.Core.List.{List}
use Prim.Native.Nat.{ℕ, suc, ◌+◌, ◌-◌, ◌≤◌, ◌<◌}
use native.Mathlib.Numerals.{add-one}
use native.Mathlib.Omega.{arith}
use borrow.Author.Tests.{eq-eqb, ne_eqb}
use lib.Dec.{T, T_not, eqb}
use lib.IntN.{ℤ}
use lib.ListN.{length, get_or, take, drop, length-append, length-drop, length-take}
use lib.Seq.{take_all, drop-drop}
use Rattle.std.specs.declared.option.Option.TheVariants.{Some, None}
use Rattle.finite.specs.Tests.{decide, is_true, is_false, of_true}
use Rattle.model.specs.declared.Point.{Point}
use Rattle.model.specs.Plane.{at}
use Rattle.model.specs.Spelling.{bytes, space}
use Rattle.model.specs.Text.{is_number, number_value, front}
use Rattle.survey.specs.Numbers.{front_number}
use Rattle.survey.proofs.Digits.{some_same}
use Rattle.survey.proofs.Fronts.{Leads, leads, front_part, space_inside}
use Rattle.positions.specs.declared.Position.{Position}
use Rattle.model.specs.Outlines.{after_position, is_position, is_word, position, second, starts_with}
use Rattle.positions.specs.Positions.{front_position, position_size, step}
use Rattle.positions.proofs.WordLaws.{word_then}
use Rattle.positions.proofs.PositionLaws.{has_position}

-- ---- the position at the front

no_number : (s : List ℕ) → front_number s ≡ None → is_number (front s) ≡ false
unfolding front_number
no_number s e =
    is_false (is_number (front s))
    (λ t.
    let n : ℕ = length (front s) in
    let has : front_number s ≡ Some (record { value = number_value (front s); end = n }) =
    rw (is_true (is_number (front s)) t) in
    let never : ◌≡◌ {A = ℕ} 0 1 = cc in omega arith)

module _ (s : List ℕ) where
  pub no_first : front_number s ≡ None → None ≡ front_position s
  unfolding front_position is_position
  no_first e = sym (rw (no_number s e))

  module _ {x : ℤ} {n : ℕ} (w : Leads s x n) where
    pub no_space : get_or s n 0 ≢ space → None ≡ front_position s
    unfolding front_position is_position
    no_space d =
        let other : eqb (get_or s (length (front s)) 0) space ≡ false =
        ne_eqb (get_or s (length (front s)) 0) space (λ e. d (rw w.ends e)) in
        sym (rw (is_true (is_number (front s)) w.passes, other))

    module _ (gap : get_or s n 0 ≡ space) where
      pub inside : n < length s
      inside = space_inside s w gap

      -- the list that is lent for the second number
      abbrev lent : List ℕ
      lent = take (length s - (n + 1)) (drop (n + 1) s)

      is_second : lent ≡ second s
      unfolding second
      is_second =
          take_all (length s - (n + 1)) (drop (n + 1) s) (omega (arith, length-drop (n + 1) s))
          ∙ ap (λ (k : ℕ). drop k s) (add-one n ∙ ap suc w.ends)

      spaced : eqb (get_or s (length (front s)) 0) space ≡ true
      spaced = eq-eqb (get_or s (length (front s)) 0) space (rw w.ends at gap)

      pub no_second : front_number lent ≡ None → None ≡ front_position s
      unfolding front_position is_position
      no_second e =
          let none : is_number (front (second s)) ≡ false =
          no_number (second s) (ap front_number (sym is_second) ∙ e) in
          sym (rw (is_true (is_number (front s)) w.passes, spaced, none))

      module _ {y : ℤ} {m : ℕ} (e : front_number lent ≡ Some (record { value = y; end = m })) where
        other : Leads (second s) y m
        other = leads (second s) (ap front_number (sym is_second) ∙ e)

        pub fits : n + 1 + m ≤ length s
        fits =
            omega (
              arith,
              other.ends,
              ap length (front_part (second s)) ∙ length-take (length (front (second s))) (second s),
              ap length is_second,
              length-take (length s - (n + 1)) (drop (n + 1) s),
              inside,
            )

        pub both_read : Some (record { point = at x y; size = n + 1 + m }) ≡ front_position s
        unfolding front_position is_position position position_size
        both_read =
            sym (rw (
              is_true (is_number (front s)) w.passes,
              spaced,
              is_true (is_number (front (second s))) other.passes,
              ← w.value,
              ← w.ends,
              ← other.value,
              ← other.ends,
            ))

-- ---- by what stands after it

-- a position p of n bytes stands at the front
pub record Found (s : List ℕ) (p : Point) (n : ℕ) : Type 0 where
  pub passes : T (is_position s)
  pub point : p ≡ position s
  pub size : n ≡ position_size s

has_front : (s : List ℕ) → T (is_position s) →
    front_position s ≡ Some (record { point = position s; size = position_size s })
unfolding front_position
has_front s t = rw (is_true (is_position s) t)

no_front : (s : List ℕ) → is_position s ≡ false → front_position s ≡ None
unfolding front_position
no_front s e = rw e

pub found : (s : List ℕ) {q : Position} → front_position s ≡ Some q → Found s q.point q.size
found s {q} e =
    ⊎_elim
    (λ (t : T (is_position s)).
    let same = some_same _ _ (sym e ∙ has_front s t) in
    record {
      passes = t;
      point = ap (λ (r : Position). r.point) same;
      size = ap (λ (r : Position). r.size) same;
    })
    (λ (t : T (not (is_position s))).
    let has = no_front s (is_false (is_position s) (T_not (is_position s) t)) in
    let never : ◌≡◌ {A = ℕ} 0 1 = cc in absurd (omega arith))
    (decide (is_position s))

pub step_none : (closing s : List ℕ) → front_position s ≡ None → None ≡ step closing s
unfolding step
step_none closing s e =
    let fails : is_position s ≡ false =
    is_false (is_position s)
    (λ t. let has = has_front s t in let never : ◌≡◌ {A = ℕ} 0 1 = cc in omega arith) in
    sym (rw fails)

front_short : (s : List ℕ) → length (front s) ≤ length s
front_short s = omega (arith, ap length (front_part s) ∙ length-take (length (front s)) s)

module _ {s : List ℕ} {p : Point} {n : ℕ} (w : Found s p n) where
  pub rest_is : drop n s ≡ after_position s
  unfolding after_position second position_size
  rest_is =
      let whole : n ≡ suc (length (front s)) + length (front (second s)) = w.size ∙ omega arith in
      ap (λ (k : ℕ). drop k s) whole ∙ sym (drop-drop (length (front (second s))) (suc (length (front s))) s)

  pub position_inside : n ≤ length s
  unfolding second position_size
  position_inside =
      let t = has_position s w.passes in
      let first : Leads s (number_value (front s)) (length (front s)) =
      record { passes = t.first_number; value = refl; ends = refl } in
      omega (
        arith,
        w.size,
        front_short (second s),
        length-drop (suc (length (front s))) s,
        space_inside s first t.spaced,
      )

  -- the list that is lent for what stands after it
  abbrev pub rest : List ℕ
  rest = take (length s - n) (drop n s)

  pub is_rest : rest ≡ after_position s
  is_rest = take_all (length s - n) (drop n s) (omega (arith, length-drop n s)) ∙ rest_is

  module _ (closing : List ℕ) where
    pub step_more : starts_with (bytes ", ") rest ≡ true →
        Some (record { point = p; more = Some (n + 2) }) ≡ step closing s
    unfolding step
    step_more e =
        let comma = ap (starts_with (bytes ", ")) (sym is_rest) ∙ e in
        sym (rw (is_true (is_position s) w.passes, comma, ← w.point, ← w.size))

    pub step_last : starts_with (bytes ", ") rest ≡ false → is_word closing rest ≡ true →
        Some (record { point = p; more = None }) ≡ step closing s
    unfolding step
    step_last e f =
        let comma = ap (starts_with (bytes ", ")) (sym is_rest) ∙ e in
        let closed = ap (is_word closing) (sym is_rest) ∙ f in
        sym (rw (is_true (is_position s) w.passes, comma, closed, ← w.point))

    pub step_bad : starts_with (bytes ", ") rest ≡ false → is_word closing rest ≡ false →
        None ≡ step closing s
    unfolding step
    step_bad e f =
        let comma = ap (starts_with (bytes ", ")) (sym is_rest) ∙ e in
        let closed = ap (is_word closing) (sym is_rest) ∙ f in
        sym (rw (is_true (is_position s) w.passes, comma, closed))

  -- a comma and a space stand within the list
  pub more_inside : starts_with (bytes ", ") rest ≡ true → n + 2 ≤ length s
  unfolding bytes
  more_inside e =
      let long : length rest ≡ length s - n =
      omega (arith, length-take (length s - n) (drop n s), length-drop n s) in
      let two = ap length (word_then (bytes ", ") rest (of_true (starts_with (bytes ", ") rest) e)) in
      omega (arith, length-append (bytes ", ") (drop 2 rest), position_inside)
