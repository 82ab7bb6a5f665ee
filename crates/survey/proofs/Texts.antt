-- The lines of a text by their places, in the order of this page: a line from a place within it
-- on; why a line is refused; the lines of a text, first and rest; the lines from a place on are the
-- line there and the lines from the next place on, and there are none at the end of the text only;
-- a line that is lent by itself.
-- Document 01, "The text program".
use mathlib.Core.Path.{◌≡◌, refl, sym, ap, ◌∙◌}
use mathlib.Core.Logic.{◌≢◌, ◌⊎◌, inl, inr, ⊎_elim}
use mathlib.Core.Bool.{true, false}
use mathlib.Core.List.{List, [], ◌∷◌}
use Prim.Native.Nat.{ℕ, suc, ◌+◌, ◌-◌, ◌≤◌, ◌<◌}
use native.Mathlib.Omega.{arith}
use borrow.Author.Tests.{eq-eqb, ne_eqb, lt-ltb, le-ltb, leb-true, leb-false}
use lib.ListN.{length, get_or, drop, length-drop, drop_of_length-le}
use lib.Seq.{drop-cons, drop-drop}
use Rattle.std.specs.Prelude.{ℤ}
use Rattle.std.specs.declared.option.Option.{Option}
use Rattle.std.specs.declared.option.Option.TheVariants.{Some}
use Rattle.std.specs.declared.result.Result.TheVariants.{Err}
use Rattle.std.specs.declared.option.Option.TheVariants.{None}
use Rattle.finite.specs.Tests.{same_or_not}
use Rattle.finite.specs.Bounded.{lt_or_ge}
use Rattle.finite.specs.Lists.{before, beyond}
use Rattle.model.specs.declared.Refusal.{Refusal}
use Rattle.model.specs.Refusals.{unless}
use Rattle.model.specs.Spelling.{line_feed, space}
use Rattle.model.specs.Text.{in_first_line, is_number, digits, line_read, lines, one_line}
use Rattle.survey.specs.Numbers.{named, number_read}
use Rattle.survey.specs.Places.{at_end, line_at, line_bytes, line_end, next_line}
use Rattle.survey.proofs.Separators.{before_short, before_drop, beyond_part, before_found, before_other, beyond_found, beyond_other, line_is}

-- from a place within a line on, the line ends where it ends, and the same line is next
module _ (text : List ℕ) (at k : ℕ) (inside : k ≤ length (line_bytes text at)) where
  pub bytes_within : line_bytes text (at + k) ≡ drop k (line_bytes text at)
  unfolding line_bytes
  bytes_within =
      rw (← drop-drop k at text) (before_drop line_feed (drop at text) k inside)

  end_within : line_end text (at + k) ≡ line_end text at
  unfolding line_end
  end_within =
      omega (arith, ap length bytes_within ∙ length-drop k (line_bytes text at))

  pub next_within : next_line text (at + k) ≡ next_line text at
  unfolding next_line
  next_within = rw end_within

pub blank_refused : line_read [] ≡ Err Refusal.BadLine
unfolding line_read unless before beyond is_number digits
blank_refused = refl

-- a line is refused as one that is not in form
pub line_at_refused : (text : List ℕ) (at : ℕ) (r : Refusal) → line_at text at ≡ Err r →
    r ≡ Refusal.BadLine
unfolding line_at named
line_at_refused text at r e =
    let s = line_bytes text at in
    go (number_read (before space s)) (number_read (beyond space s)) (sym (line_is s) ∙ e)
  where
    go : (x y : Option ℤ) → named x y ≡ Err r → r ≡ Refusal.BadLine
    go (Some x) (Some y) e =
        absurd (let z : ◌≡◌ {A = ℕ} 0 1 = cc in omega arith)
    go (Some x) None e = cc
    go None y e = cc

-- ---- the lines of a text

-- a byte before the lines of t goes into the first of them
first_byte : (b : ℕ) (t : List ℕ) → (in_first_line b (lines t) ≡ (b ∷ before line_feed t) ∷ lines
    (beyond line_feed t)) →
    lines (b ∷ t) ≡ before line_feed (b ∷ t) ∷ lines (beyond line_feed (b ∷ t))
unfolding lines
first_byte b t e =
    ⊎_elim
    (λ (f : line_feed ≡ b).
    rw (eq-eqb b line_feed (sym f), before_found line_feed b t f, beyond_found line_feed b t f))
    (λ (n : line_feed ≡ b → ⊥).
    rw (
      ne_eqb b line_feed (λ f. n (sym f)),
      before_other line_feed b t n,
      beyond_other line_feed
          b t n,
    ) e)
    (same_or_not line_feed b)

pub lines_some : (b : ℕ) (s : List ℕ) →
    lines (b ∷ s) ≡ before line_feed (b ∷ s) ∷ lines (beyond line_feed (b ∷ s))
unfolding lines in_first_line before beyond
lines_some b [] = first_byte b [] refl
lines_some b (c ∷ t) = first_byte b (c ∷ t) (ap (in_first_line b) (lines_some c t))

-- ---- by places

module _ (text : List ℕ) (at : ℕ) where
  pub lines_end : length text ≤ at → lines (drop at text) ≡ []
  unfolding lines
  lines_end h = let none : drop at text ≡ [] = drop_of_length-le text h in rw none

  -- the next place, with a feed and without one
  next_cases : ((next_line text at ≡ line_end text at + 1) × (line_end text at < length text))
      ⊎ ((next_line text at ≡ line_end text at) × (length text ≤ line_end text at))
  unfolding next_line
  next_cases =
      ⊎_elim
      (λ (h : line_end text at < length text). inl (
        rw (lt-ltb (line_end text at) (length text)
            h),
        h,
      ))
      (λ (h : length text ≤ line_end text at). inr (
        rw (le-ltb (line_end text at) (length text)
            h),
        h,
      ))
      (lt_or_ge (line_end text at) (length text))

  beyond_next : beyond line_feed (drop at text) ≡ drop (next_line text at) text
  unfolding line_end line_bytes
  beyond_next =
      beyond_part line_feed (drop at text) ∙ drop-drop (suc (length (line_bytes text at))) at text ∙
      ⊎_elim
      (λ w.
      let e : at + suc (length (line_bytes text at)) ≡ next_line text at = omega (arith, w.0) in
      ap (λ (k : ℕ). drop k text) e)
      (λ w.
      let far : length text ≤ at + suc (length (line_bytes text at)) = omega (arith, w.1) in
      let past : length text ≤ next_line text at = omega (arith, w.0, w.1) in
      drop_of_length-le text far ∙ sym (drop_of_length-le text past))
      next_cases

  pub lines_from : at < length text →
      lines (drop at text) ≡ line_bytes text at ∷ lines (drop (next_line text at) text)
  unfolding line_bytes
  lines_from h =
      let some = drop-cons text at 0 h in
      ap lines some ∙ lines_some (get_or text at 0) (drop (suc at) text) ∙
      ap (λ (l : List ℕ). before line_feed l ∷ lines (beyond line_feed l)) (sym some) ∙
      ap (λ (l : List ℕ). before line_feed (drop at text) ∷ lines l) beyond_next

  -- a line that is there brings the place further, and not past the end
  pub next_further : at < length text → (at < next_line text at) × (next_line text at ≤ length text)
  unfolding line_end line_bytes
  next_further h =
      let short = before_short line_feed (drop at text) in
      ⊎_elim
      (λ w. (omega (arith, w.0), omega (arith, w.0, w.1)))
      (λ w. (omega (arith, w.0, w.1), omega (arith, w.0, w.1, short, length-drop at text)))
      next_cases

-- the test of the end says which of the two it is
module _ (text : List ℕ) (at : ℕ) where
  pub none_left : at_end text at ≡ true → lines (drop at text) ≡ []
  unfolding at_end
  none_left e = lines_end text at (leb-true (length text) at e)

  pub one_left : at_end text at ≡ false →
      lines (drop at text) ≡ line_bytes text at ∷ lines (drop (next_line text at) text)
  unfolding at_end
  one_left e = lines_from text at (leb-false (length text) at e)

-- a reader that has come to the end of the text stays there
pub end_stays : (text : List ℕ) (at : ℕ) → at_end text at ≡ true → next_line text at ≡ at
unfolding at_end next_line line_end line_bytes before
end_stays text at e =
    let past = leb-true (length text) at e in
    let none : drop at text ≡ [] = drop_of_length-le text past in
    rw (none, le-ltb (at + 0) (length text) (omega arith)) (omega arith)

pub next_nearer : (text : List ℕ) (at : ℕ) → at_end text at ≡ false →
    length text - next_line text at < length text - at
unfolding at_end
next_nearer text at e =
    let on = next_further text at (leb-false (length text) at e) in
    omega (arith, on.0, on.1)

-- a line that is lent by itself is the line at the first place, where no other follows
module _ (s : List ℕ) where
  -- nothing is lent
  lent_none : length s ≤ 0 → lines s ≡ []
  lent_none h = lines_end s 0 h

  pub lent_line : next_line s 0 ≡ length s → line_at s 0 ≡ line_read (one_line (lines s))
  unfolding line_at line_bytes before one_line
  lent_line e =
      ⊎_elim
      (λ (h : 0 < length s).
      let last : lines (drop (next_line s 0) s) ≡ [] = lines_end s (next_line s 0) (omega arith) in
      sym (ap (λ (ls : List (List ℕ)). line_read (one_line ls))
      (lines_from s 0 h ∙ ap (λ (ls : List (List ℕ)). line_bytes s 0 ∷ ls) last)))
      (λ (h : length s ≤ 0).
      let none : drop 0 s ≡ [] = drop_of_length-le s h in
      ap (λ (l : List ℕ). line_read (before line_feed l)) none
      ∙ sym (ap (λ (ls : List (List ℕ)). line_read (one_line ls)) (lent_none h)))
      (lt_or_ge 0 (length s))

  pub lent_lines : next_line s 0 ≢ length s →
      Err Refusal.BadLine ≡ line_read (one_line (lines s))
  unfolding one_line
  lent_lines n =
      sym blank_refused
      ∙ ⊎_elim
      (λ (h : 0 < length s).
      let most = (next_further s 0 h).1 in
      let more : next_line s 0 < length s =
      ⊎_elim (λ l. l) (λ (l : length s ≤ next_line s 0). absurd (n (omega arith)))
      (lt_or_ge (next_line s 0) (length s)) in
      sym (ap (λ (ls : List (List ℕ)). line_read (one_line ls))
      (lines_from s 0 h ∙ ap (λ (ls : List (List ℕ)). line_bytes s 0 ∷ ls)
      (lines_from s (next_line s 0) more))))
      (λ (h : length s ≤ 0).
      sym (ap (λ (ls : List (List ℕ)). line_read (one_line ls)) (lent_none h)))
      (lt_or_ge 0 (length s))
