-- The number at the front of a list, in the order of this page: the front is a part of the list; it
-- ends where a number ends that something else follows; what is read of the front, for the list
-- itself and for what stands before its first space; a line by its front.
use mathlib.Core.Path.{◌≡◌, refl, sym, ap, ap₂, ◌∙◌}
use mathlib.Core.Logic.{◌≢◌, ◌⊎◌, ⊎_elim}
use mathlib.Core.Bool.{true, false, not, cond, ◌&&◌}
use mathlib.Core.List.{List, [], ◌∷◌, ◌++◌, append-nil}
use Prim.Native.Nat.{ℕ, suc, ◌+◌, ◌≤◌, ◌<◌}
use native.Mathlib.Numerals.{add-one}
use native.Mathlib.Nat.{min-le_right}
use native.Mathlib.Omega.{arith}
use borrow.Author.Tests.{eq-eqb, ne_eqb}
use lib.Dec.{T, T_not, eqb}
use lib.IntN.{ℤ}
use lib.ListN.{length, get_or, take, drop, take-append-drop, drop_of_length-le, length-take, get_or-eq_default}
use lib.Seq.{drop-cons, take-length}
use Rattle.std.specs.declared.option.Option.{Option}
use Rattle.std.specs.declared.option.Option.TheVariants.{Some}
use Rattle.std.specs.declared.result.Result.TheVariants.{Err}
use Rattle.std.specs.declared.option.Option.TheVariants.{None}
use Rattle.finite.specs.Tests.{and_left, and_right, decide, is_true, is_false, of_true, same_or_not}
use Rattle.finite.specs.Bounded.{lt_or_ge}
use Rattle.finite.specs.Lists.{all_in, before, beyond}
use Rattle.model.specs.declared.Refusal.{Refusal}
use Rattle.model.specs.Spelling.{line_feed, minus, space}
use Rattle.model.specs.Text.{digits, front, has_minus, is_digit, is_number, leading_digits, line_read, magnitude, number_value}
use Rattle.survey.specs.declared.numbers.Front.{Front}
use Rattle.survey.specs.Numbers.{front_number, is_magnitude, named, number_read}
use Rattle.survey.proofs.Digits.{some_same, digit_or_not, digit_small, leading_more, leading_none, magnitude_digits}
use Rattle.survey.proofs.Signs.{number_is}
use Rattle.survey.proofs.Separators.{before_found, before_other, before_part, before_ends, beyond_part, line_is}

-- ---- the front as a part

leading_part : (s : List ℕ) → leading_digits s ≡ take (length (leading_digits s)) s
unfolding leading_digits
leading_part [] = refl
leading_part (b ∷ s) =
    ⊎_elim
    (λ (e : is_digit b ≡ true).
    rw (leading_more b s e) (ap (λ (l : List ℕ). b ∷ l) (leading_part s)))
    (λ (e : is_digit b ≡ false). rw (leading_none b s e))
    (digit_or_not b)

-- the first byte is a minus, or not
module _ (b : ℕ) (s : List ℕ) where
  front_minus : b ≡ minus → front (b ∷ s) ≡ b ∷ leading_digits s
  unfolding front
  front_minus e = rw (eq-eqb b minus e)

  front_digit : b ≢ minus → front (b ∷ s) ≡ leading_digits (b ∷ s)
  unfolding front
  front_digit n = rw (ne_eqb b minus n)

pub front_part : (s : List ℕ) → front s ≡ take (length (front s)) s
unfolding front
front_part [] = refl
front_part (b ∷ s) =
    ⊎_elim
    (λ (e : b ≡ minus). rw (front_minus b s e) (ap (λ (l : List ℕ). b ∷ l) (leading_part s)))
    (λ (n : b ≢ minus). rw (front_digit b s n) (leading_part (b ∷ s)))
    (same_or_not b minus)

pub front_short : (s : List ℕ) → length (front s) ≤ length s
front_short s =
    let n = length (front s) in
    omega (arith, ap length (front_part s) ∙ length-take n s, min-le_right n (length s))

-- a line feed is no part of it, so the front of a line is that of the text from there on
leading_before : (s : List ℕ) → leading_digits (before line_feed s) ≡ leading_digits s
unfolding leading_digits before is_digit
leading_before [] = refl
leading_before (b ∷ s) =
    ⊎_elim
    (λ (e : line_feed ≡ b). rw (before_found line_feed b s e, ← e))
    (λ (n : line_feed ≡ b → ⊥).
    rw (before_other line_feed b s n)
    (⊎_elim
    (λ (e : is_digit b ≡ true).
    rw (leading_more b (before line_feed s) e, leading_more b s e)
    (ap (λ (l : List ℕ). b ∷ l) (leading_before s)))
    (λ (e : is_digit b ≡ false). rw (leading_none b (before line_feed s) e, leading_none b s e))
    (digit_or_not b)))
    (same_or_not line_feed b)

front_none : front [] ≡ leading_digits []
unfolding front leading_digits
front_none = refl

front_before : (s : List ℕ) → front (before line_feed s) ≡ front s
unfolding front before
front_before [] = refl
front_before (b ∷ s) =
    ⊎_elim
    (λ (m : b ≡ minus).
    let other : line_feed ≢ b = λ f. omega arith in
    rw (before_other line_feed b s other, front_minus b (before line_feed s) m, front_minus b s m)
    (ap (λ (l : List ℕ). b ∷ l) (leading_before s)))
    (λ (n : b ≢ minus). rw (front_digit b s n) (go n))
    (same_or_not b minus)
  where
    go : b ≢ minus → front (before line_feed (b ∷ s)) ≡ leading_digits (b ∷ s)
    go n =
        ⊎_elim
        (λ (e : line_feed ≡ b).
        let none = before_found line_feed b s e in
        ap front none ∙ front_none ∙ sym (ap leading_digits none) ∙ leading_before (b ∷ s))
        (λ (o : line_feed ≡ b → ⊥).
        rw (
          ← leading_before (b ∷ s),
          before_other line_feed b s o,
          front_digit b (before line_feed s) n,
        ))
        (same_or_not line_feed b)

pub front_number_before : (s : List ℕ) → front_number (before line_feed s) ≡ front_number s
unfolding front_number
front_number_before s =
    ap
    (λ (f : List ℕ). cond (is_number f) (Some (record { value = number_value f; end = length f })) None)
    (front_before s)

-- past the end of a list there is none
pub past_end : (s : List ℕ) (at : ℕ) → (length s < at) ⊎ (length s < length s) → length s ≤ at
past_end s at e = ⊎_elim (λ h. omega arith) (λ h. absurd (omega arith)) e

pub front_past : (s : List ℕ) (at : ℕ) → length s ≤ at → None ≡ front_number (drop at s)
unfolding front_number front is_number digits
front_past s at h = let none : drop at s ≡ [] = drop_of_length-le s h in rw none

-- ---- a number that is followed by something else

leading_cut : (d t : List ℕ) → T (all_in is_digit d) → leading_digits t ≡ [] →
    leading_digits (d ++ t) ≡ d
unfolding leading_digits all_in
leading_cut [] t h e = e
leading_cut (b ∷ d) t h e =
    rw (is_true (is_digit b) (and_left (is_digit b) (all_in is_digit d) h))
    (ap (λ (l : List ℕ). b ∷ l) (leading_cut d t (and_right (is_digit b) (all_in is_digit d) h) e))

pub front_cut : (p t : List ℕ) → T (all_in is_digit (digits p)) → front t ≡ [] → leading_digits t ≡ [] →
    front (p ++ t) ≡ p
unfolding digits
front_cut [] t h e f = e
front_cut (b ∷ p) t h e f =
    ⊎_elim
    (λ (m : b ≡ minus).
    rw (front_minus b (p ++ t) m)
    (ap (λ (l : List ℕ). b ∷ l) (leading_cut p t (rw (eq-eqb b minus m) at h) f)))
    (λ (n : b ≢ minus).
    rw (front_digit b (p ++ t) n) (leading_cut (b ∷ p) t (rw (ne_eqb b minus n) at h) f))
    (same_or_not b minus)

pub number_digits : (p : List ℕ) → T (is_number p) → T (all_in is_digit (digits p))
number_digits p t =
    (magnitude_digits (digits p)
    (and_left (is_magnitude (digits p)) (not (has_minus p && eqb (magnitude p) 0))
    (rw number_is at t))
    ).each

-- nothing follows it
pub whole_front : (s : List ℕ) → T (is_number s) → front s ≡ s
unfolding front leading_digits
whole_front s t = rw append-nil at (front_cut s [] (number_digits s t) refl refl)

-- what follows the part before the first space is a space, or nothing
module _ (s : List ℕ) where
  abbrev first : List ℕ
  first = before space s

  rest_none : (front (drop (length first) s) ≡ []) × (leading_digits (drop (length first) s) ≡ [])
  unfolding front leading_digits is_digit
  rest_none =
      ⊎_elim
      (λ (h : length first < length s).
      let starts : drop (length first) s ≡ space ∷ drop (suc (length first)) s =
      drop-cons s (length first) 0 h
      ∙ ap (λ (b : ℕ). b ∷ drop (suc (length first)) s) (before_ends space s h) in
      (ap front starts, ap leading_digits starts))
      (λ (h : length s ≤ length first).
      let none : drop (length first) s ≡ [] = drop_of_length-le s h in
      (ap front none, ap leading_digits none))
      (lt_or_ge (length first) (length s))

  first_front : T (is_number first) → front s ≡ first
  first_front t =
      let split : s ≡ first ++ drop (length first) s =
      sym (take-append-drop (length first) s)
      ∙ ap (λ (l : List ℕ). l ++ drop (length first) s) (sym (before_part space s)) in
      ap front split
      ∙ front_cut first (drop (length first) s) (number_digits first t) rest_none.0
      rest_none.1

-- ---- a front that a space follows

leading_space : (s : List ℕ) → get_or s (length (leading_digits s)) 0 ≡ space →
    before space s ≡ leading_digits s
unfolding leading_digits before
leading_space [] e = refl
leading_space (b ∷ s) e =
    ⊎_elim
    (λ (f : is_digit b ≡ true).
    let more = leading_more b s f in
    let other : space ≢ b = λ m. omega (arith, (digit_small b (of_true (is_digit b) f)).0) in
    rw (more, before_other space b s other)
    (ap (λ (l : List ℕ). b ∷ l) (leading_space s (rw more at e))))
    (λ (f : is_digit b ≡ false).
    let none = leading_none b s f in rw none (before_found space b s (sym (rw none at e))))
    (digit_or_not b)

front_space : (s : List ℕ) → get_or s (length (front s)) 0 ≡ space → before space s ≡ front s
unfolding front before
front_space [] e = refl
front_space (b ∷ s) e =
    ⊎_elim
    (λ (m : b ≡ minus).
    let more = front_minus b s m in
    let other : space ≢ b = λ f. omega arith in
    rw (more, before_other space b s other)
    (ap (λ (l : List ℕ). b ∷ l) (leading_space s (rw more at e))))
    (λ (n : b ≢ minus).
    let same = front_digit b s n in rw same (leading_space (b ∷ s) (rw same at e)))
    (same_or_not b minus)

-- ---- what is read

unread : (p : List ℕ) → (T (is_number p) → ⊥) → number_read p ≡ None
unfolding number_read
unread p n = rw (is_false (is_number p) n)

-- the front is a number z that ends at n
pub record Leads (s : List ℕ) (z : ℤ) (n : ℕ) : Type 0 where
  pub passes : T (is_number (front s))
  pub value : z ≡ number_value (front s)
  pub ends : n ≡ length (front s)

module _ (s : List ℕ) where
  has_front : T (is_number (front s)) →
      front_number s ≡ Some (record { value = number_value (front s); end = length (front s) })
  unfolding front_number
  has_front t = rw (is_true (is_number (front s)) t)

  no_front : (T (is_number (front s)) → ⊥) → front_number s ≡ None
  unfolding front_number
  no_front n = rw (is_false (is_number (front s)) n)

  pub leads : {z : ℤ} {n : ℕ} → front_number s ≡ Some (record { value = z; end = n }) → Leads s z n
  leads {z} {n} e =
      ⊎_elim
      (λ (t : T (is_number (front s))).
      let has = has_front t in
      let same = some_same _ _ (sym e ∙ has) in
      record { passes = t; value = ap (λ (f : Front). f.value) same; ends = ap (λ (f : Front). f.end) same })
      (λ (t : T (not (is_number (front s)))).
      let has = no_front (T_not (is_number (front s)) t) in
      let never : ◌≡◌ {A = ℕ} 0 1 = cc in absurd (omega arith))
      (decide (is_number (front s)))

  -- a part p of the list that is a number only where it is the front
  module _ (p : List ℕ) (only : T (is_number p) → front s ≡ p) where
    pub read_none : front_number s ≡ None → number_read p ≡ None
    read_none e =
        unread p (λ t.
        let has = has_front (rw (only t) t) in
        let never : ◌≡◌ {A = ℕ} 0 1 = cc in omega arith)

    read_other : (front s ≡ p → ⊥) → number_read p ≡ None
    read_other n = unread p (λ t. n (only t))

    read_front : {z : ℤ} {n : ℕ} → Leads s z n → front s ≡ p → number_read p ≡ Some z
    unfolding number_read
    read_front w e = rw (← e, is_true (is_number (front s)) w.passes, w.value)

  -- the front is the list itself just where it ends where the list ends
  module _ {z : ℤ} {n : ℕ} (w : Leads s z n) where
    pub read_whole : n ≡ length s → number_read s ≡ Some z
    read_whole e =
        let ends : length (front s) ≡ length s = sym w.ends ∙ e in
        read_front s (whole_front s) w
        (front_part s ∙ ap (λ (k : ℕ). take k s) ends ∙ take-length s)

    pub read_part : n ≢ length s → number_read s ≡ None
    read_part l = read_other s (whole_front s) (λ e. l (w.ends ∙ ap length e))

-- ---- a line

number_none : number_read [] ≡ None
unfolding number_read is_number digits
number_none = refl

module _ (s : List ℕ) where
  bad_first : number_read (before space s) ≡ None →
      line_read s ≡ Err Refusal.BadLine
  unfolding named
  bad_first e = line_is s ∙ ap (λ (x : Option ℤ). named x (number_read (beyond space s))) e

  -- the front is no number
  pub line_bad : front_number s ≡ None → line_read s ≡ Err Refusal.BadLine
  line_bad e = bad_first (read_none s (before space s) (first_front s) e)

  module _ {z : ℤ} {n : ℕ} (w : Leads s z n) where
    -- no space follows the front
    pub line_unspaced : get_or s n 0 ≢ space → line_read s ≡ Err Refusal.BadLine
    unfolding named
    line_unspaced h =
        ⊎_elim
        (λ (t : T (is_number (before space s))).
        let same : front s ≡ before space s = first_front s t in
        let ends : n ≡ length (before space s) = w.ends ∙ ap length same in
        let past : length s ≤ suc (length (before space s)) =
        ⊎_elim
        (λ (l : length (before space s) < length s).
        absurd (h (ap (λ (k : ℕ). get_or s k 0) ends ∙ before_ends space s l)))
        (λ (l : length s ≤ length (before space s)). omega arith)
        (lt_or_ge (length (before space s)) (length s)) in
        let none : beyond space s ≡ [] = beyond_part space s ∙ drop_of_length-le s past in
        line_is s
        ∙ ap₂ named (read_front s (before space s) (first_front s) w same)
        (ap number_read none ∙ number_none))
        (λ (t : T (not (is_number (before space s)))).
        bad_first (unread (before space s) (T_not (is_number (before space s)) t)))
        (decide (is_number (before space s)))

    -- a space follows the front
    module _ (h : get_or s n 0 ≡ space) where
      pub space_inside : n < length s
      space_inside =
          ⊎_elim
          (λ (l : n < length s). l)
          (λ (l : length s ≤ n). absurd (omega (arith, h, get_or-eq_default s 0 l)))
          (lt_or_ge n (length s))

      is_first : front s ≡ before space s
      is_first = sym (front_space s (rw w.ends at h))

      is_rest : drop (n + 1) s ≡ beyond space s
      is_rest =
          let ends : n + 1 ≡ suc (length (before space s)) =
          rw add-one (ap suc (w.ends ∙ ap length is_first)) in
          ap (λ (k : ℕ). drop k s) ends ∙ sym (beyond_part space s)

      pub line_spaced : named (Some z) (number_read (drop (n + 1) s)) ≡ line_read s
      line_spaced =
          ap₂ named (sym (read_front s (before space s) (first_front s) w is_first))
          (ap number_read is_rest)
          ∙ sym (line_is s)
