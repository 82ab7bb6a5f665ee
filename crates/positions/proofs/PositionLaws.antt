-- Positions, in the order of this page: a position that stands at the front of a text is what the
-- text begins with; a position that was written is read; then positions one after another, read
-- and written.
use mathlib.Core.Path.{◌≡◌, refl, sym, ap, ap₂, ◌∙◌}
use mathlib.Core.Logic.{⊎_elim}
use mathlib.Core.Bool.{Bool, true, false, not, ◌&&◌}
use mathlib.Core.List.{List, [], ◌∷◌, ◌++◌, append_assoc}
use mathlib.Core.Option.{Option, none, some}
use Prim.Native.Nat.{ℕ, zero, suc, ◌^◌, ◌≤◌, ◌<◌}
use native.Mathlib.Omega.{arith}
use lib.Dec.{T, T_not, ltb, eqb, ltb→lt, eqb→eq}
use lib.IntN.{ℤ, nat_abs}
use lib.ListN.{length, get_or, drop, take-append-drop, get_or-eq_default}
use lib.Seq.{drop-cons, drop-append_seam, get_or-append_seam}
use Rattle.finite.specs.Tests.{and_left, and_right, and_both, decide, is_true, is_false, equal_by}
use Rattle.finite.specs.Bounded.{lt_or_ge}
use Rattle.finite.specs.Lists.{all_in}
use Rattle.model.specs.declared.Point.{Point}
use Rattle.model.specs.Plane.{at}
use Rattle.model.specs.Spelling.{bytes, space, spelt}
use Rattle.model.specs.Text.{digit_limit, is_digit, is_number, number_value, front, leading_digits}
use Rattle.survey.proofs.Fronts.{front_cut, front_part, number_digits}
use Rattle.printing.proofs.RoundTrip.{spelt_read, read_spelt}
use Rattle.model.specs.Outlines.{after_position, is_position, is_word, joined, point_text, position, positions, second, starts_with, with_first}
use Rattle.positions.proofs.WordLaws.{word_then, starts_by, word_whole, whole_by}

-- a point whose coordinates a number can have
unfoldable pub few_digits : Point → Bool
few_digits p = ltb (nat_abs p.x) (10 ^ digit_limit) && ltb (nat_abs p.y) (10 ^ digit_limit)

-- ---- one position, read

-- the front and what follows it make up the list
front_then : (s : List ℕ) → s ≡ front s ++ drop (length (front s)) s
front_then s =
    sym (take-append-drop (length (front s)) s)
    ∙ ap (λ (l : List ℕ). l ++ drop (length (front s)) s) (sym (front_part s))

-- a byte that is not 0 stands within the list
byte_then : (s : List ℕ) (n b : ℕ) → get_or s n 0 ≡ b → 1 ≤ b → drop n s ≡ b ∷ drop (suc n) s
byte_then s n b e h =
    ⊎_elim
    (λ (l : n < length s). drop-cons s n 0 l ∙ ap (λ (c : ℕ). c ∷ drop (suc n) s) e)
    (λ (l : length s ≤ n). absurd (omega (arith, get_or-eq_default s 0 l)))
    (lt_or_ge n (length s))

-- what the test of a position says
pub record Position (s : List ℕ) : Type 0 where
  pub first_number : T (is_number (front s))
  pub spaced : get_or s (length (front s)) 0 ≡ space
  pub second_number : T (is_number (front (second s)))

pub has_position : (s : List ℕ) → T (is_position s) → Position s
unfolding is_position
has_position s t =
    let one = is_number (front s) in
    let gap = eqb (get_or s (length (front s)) 0) space in
    let two = is_number (front (second s)) in
    record {
      first_number = and_left one gap (and_left (one && gap) two t);
      spaced = eqb→eq (get_or s (length (front s)) 0) space (and_right one gap (and_left (one && gap) two t));
      second_number = and_right (one && gap) two t;
    }

-- the text is what is written for the point, and the rest
pub position_then : (s : List ℕ) → T (is_position s) → s ≡ point_text (position s) ++ after_position s
unfolding point_text position after_position second
position_then s t =
    let w = has_position s t in
    let f = front s in
    let n = length (front s) in
    let r = drop (suc n) s in
    let gap : drop n s ≡ space ∷ r = byte_then s n space w.spaced (omega arith) in
    let one : spelt (number_value f) ≡ f = read_spelt f w.first_number in
    let two : spelt (number_value (front r)) ≡ front r = read_spelt (front r) w.second_number in
    rw (one, two, append_assoc)
    (front_then s ∙ ap (λ (l : List ℕ). f ++ l) gap ∙ ap (λ (l : List ℕ). f ++ space ∷ l) (front_then r))

-- ---- one position, written

-- what no number goes on with: no digit, no minus
pub record Ends (t : List ℕ) : Type 0 where
  pub no_front : front t ≡ []
  pub no_digits : leading_digits t ≡ []

pub space_ends : (t : List ℕ) → Ends (space ∷ t)
unfolding front leading_digits is_digit
space_ends t = record { no_front = refl; no_digits = refl }

number_then : (z : ℤ) (t : List ℕ) → nat_abs z < 10 ^ digit_limit → Ends t → front (spelt z ++ t) ≡ spelt z
number_then z t h e =
    front_cut (spelt z) t (number_digits (spelt z) (spelt_read z h).in_form) e.no_front e.no_digits

past_byte : (a : List ℕ) (b : ℕ) (s : List ℕ) → drop (suc (length a)) (a ++ b ∷ s) ≡ s
past_byte [] b s = refl
past_byte (c ∷ a) b s = past_byte a b s

-- the first position of a text is p, and t is what follows it
pub record Reads (s : List ℕ) (p : Point) (t : List ℕ) : Type 0 where
  pub passes : T (is_position s)
  pub point : position s ≡ p
  pub rest : after_position s ≡ t

module _ (p : Point) (t : List ℕ) (few : T (few_digits p)) (e : Ends t) where
  abbrev text : List ℕ
  text = point_text p ++ t

  few_x : nat_abs p.x < 10 ^ digit_limit
  unfolding few_digits
  few_x =
      ltb→lt (nat_abs p.x) (10 ^ digit_limit)
      (and_left (ltb (nat_abs p.x) (10 ^ digit_limit)) (ltb (nat_abs p.y) (10 ^ digit_limit)) few)

  few_y : nat_abs p.y < 10 ^ digit_limit
  unfolding few_digits
  few_y =
      ltb→lt (nat_abs p.y) (10 ^ digit_limit)
      (and_right (ltb (nat_abs p.x) (10 ^ digit_limit)) (ltb (nat_abs p.y) (10 ^ digit_limit)) few)

  splits : text ≡ spelt p.x ++ space ∷ (spelt p.y ++ t)
  unfolding point_text
  splits = append_assoc (spelt p.x) (space ∷ spelt p.y) t

  first_is : front text ≡ spelt p.x
  first_is = ap front splits ∙ number_then p.x (space ∷ (spelt p.y ++ t)) few_x (space_ends _)

  gap_is : get_or text (length (front text)) 0 ≡ space
  gap_is = rw (first_is, splits) (get_or-append_seam (spelt p.x) space _ 0)

  second_is : second text ≡ spelt p.y ++ t
  unfolding second
  second_is = rw (first_is, splits) (past_byte (spelt p.x) space (spelt p.y ++ t))

  other_is : front (second text) ≡ spelt p.y
  other_is = ap front second_is ∙ number_then p.y t few_y e

  pub reads : Reads text p t
  unfolding is_position position after_position
  reads =
      let one = spelt_read p.x few_x in
      let two = spelt_read p.y few_y in
      let gap = eqb (get_or text (length (front text)) 0) space in
      record {
        passes =
            and_both (is_number (front text) && gap) (is_number (front (second text)))
            (and_both (is_number (front text)) gap (rw first_is one.in_form)
            (equal_by (get_or text (length (front text)) 0) space gap_is))
            (rw other_is two.in_form);
        point =
            ap₂ at (ap number_value first_is ∙ one.value) (ap number_value other_is ∙ two.value);
        rest = rw (other_is, second_is) (drop-append_seam (spelt p.y) t);
      }

-- ---- positions one after another

-- what may close them: no number goes on with it, and it is no comma and space
pub record Closes (closing : List ℕ) : Type 0 where
  pub ends : Ends closing
  pub apart : starts_with (bytes ", ") closing ≡ false

comma_ends : (t : List ℕ) → Ends (bytes ", " ++ t)
unfolding front leading_digits is_digit bytes
comma_ends t = record { no_front = refl; no_digits = refl }

-- the cases of the definition
module _ (k : ℕ) (closing s : List ℕ) (t : T (is_position s)) where
  abbrev rest_of : List ℕ
  rest_of = after_position s

  pub one_more : T (starts_with (bytes ", ") rest_of) →
      positions (suc k) closing s ≡ with_first (position s) (positions k closing (drop 2 rest_of))
  unfolding positions
  one_more c = rw (is_true (is_position s) t, is_true (starts_with (bytes ", ") rest_of) c)

  pub the_last : starts_with (bytes ", ") rest_of ≡ false → T (is_word closing rest_of) →
      positions (suc k) closing s ≡ some (position s ∷ [])
  unfolding positions
  the_last c w = rw (is_true (is_position s) t, c, is_true (is_word closing rest_of) w)

  pub no_last : starts_with (bytes ", ") rest_of ≡ false → is_word closing rest_of ≡ false →
      positions (suc k) closing s ≡ none
  unfolding positions
  no_last c w = rw (is_true (is_position s) t, c, w)

pub no_position : (k : ℕ) (closing s : List ℕ) → is_position s ≡ false → positions (suc k) closing s ≡ none
unfolding positions
no_position k closing s e = rw e

-- what is written is read
pub joined_read : (k : ℕ) (closing : List ℕ) (p : Point) (s : List Point) → Closes closing →
    T (all_in few_digits (p ∷ s)) → length s < k → positions k closing (joined p s ++ closing) ≡ some (p ∷ s)
unfolding joined all_in with_first bytes
joined_read zero closing p s c f h = absurd (omega arith)
joined_read (suc k) closing p [] c f h =
    let w = reads p closing (and_left (few_digits p) true f) c.ends in
    the_last k closing (point_text p ++ closing) w.passes (rw w.rest c.apart)
    (rw w.rest (whole_by closing))
    ∙ ap (λ (q : Point). some (q ∷ [])) w.point
joined_read (suc k) closing p (q ∷ s) c f h =
    let tail : List ℕ = bytes ", " ++ (joined q s ++ closing) in
    let w = reads p tail (and_left (few_digits p) (all_in few_digits (q ∷ s)) f) (comma_ends (joined q s ++ closing)) in
    let more = joined_read k closing q s c (and_right (few_digits p) (all_in few_digits (q ∷ s)) f) (omega arith) in
    let splits : joined p (q ∷ s) ++ closing ≡ point_text p ++ tail = simp append_assoc in
    ap (positions (suc k) closing) splits
    ∙ one_more k closing (point_text p ++ tail) w.passes (rw w.rest (starts_by (bytes ", ") (joined q s ++ closing)))
    ∙ ap₂ with_first w.point (ap (λ (r : List ℕ). positions k closing (drop 2 r)) w.rest ∙ more)

-- what is read is written
pub record Spelt (closing t : List ℕ) (ps : List Point) : Type 0 where
  pub first : Point
  pub others : List Point
  pub all : ps ≡ first ∷ others
  pub text : t ≡ joined first others ++ closing

pub none_some : {ps : List Point} → none ≡ some ps → ⊥
none_some e = let never : ◌≡◌ {A = ℕ} 0 1 = cc in omega arith

first_some : (p : Point) (m : Option (List Point)) (ps : List Point) → with_first p m ≡ some ps →
    (qs : List Point) × (m ≡ some qs) × (ps ≡ p ∷ qs)
unfolding with_first
first_some p none ps e = absurd (none_some e)
first_some p (some qs) ps e = (qs, refl, cc)

module _ (closing t : List ℕ) (u : T (is_position t)) where
  spelt_last : T (is_word closing (after_position t)) → Spelt closing t (position t ∷ [])
  unfolding joined
  spelt_last v =
      record {
        first = position t;
        others = [];
        all = refl;
        text =
            position_then t u
            ∙ ap (λ (r : List ℕ). point_text (position t) ++ r) (word_whole closing (after_position t) v);
      }

  spelt_more : T (starts_with (bytes ", ") (after_position t)) → (qs : List Point) →
      Spelt closing (drop 2 (after_position t)) qs → Spelt closing t (position t ∷ qs)
  unfolding joined bytes
  spelt_more c qs w =
      record {
        first = position t;
        others = w.first ∷ w.others;
        all = ap (λ (s : List Point). position t ∷ s) w.all;
        text =
            position_then t u
            ∙ ap (λ (r : List ℕ). point_text (position t) ++ r)
            (word_then (bytes ", ") (after_position t) c ∙ ap (λ (r : List ℕ). bytes ", " ++ r) w.text)
            ∙ simp append_assoc;
      }

pub fails : (b : Bool) → T (not b) → b ≡ false
fails b t = is_false b (T_not b t)

pub read_joined : (k : ℕ) (closing t : List ℕ) (ps : List Point) → positions k closing t ≡ some ps → Spelt closing t ps
unfolding positions
read_joined zero closing t ps e = absurd (none_some e)
read_joined (suc k) closing t ps e =
    let comma = starts_with (bytes ", ") (after_position t) in
    let closed = is_word closing (after_position t) in
    ⊎_elim
    (λ (u : T (is_position t)).
    ⊎_elim
    (λ (c : T comma).
    let i = first_some (position t) (positions k closing (drop 2 (after_position t))) ps
    (sym (one_more k closing t u c) ∙ e) in
    rw i.2 (spelt_more closing t u c i.0 (read_joined k closing (drop 2 (after_position t)) i.0 i.1)))
    (λ (c : T (not comma)).
    ⊎_elim
    (λ (v : T closed).
    let whole : some (position t ∷ []) ≡ some ps = sym (the_last k closing t u (fails comma c) v) ∙ e in
    let all : ps ≡ position t ∷ [] = cc in
    rw all (spelt_last closing t u v))
    (λ (v : T (not closed)).
    absurd (none_some (sym (no_last k closing t u (fails comma c) (fails closed v)) ∙ e)))
    (decide closed))
    (decide comma))
    (λ (u : T (not (is_position t))).
    absurd (none_some (sym (no_position k closing t (fails (is_position t) u)) ∙ e)))
    (decide (is_position t))
