-- What is read has few digits, in the order of this page: a number; a position; positions; corners.
-- So a text is in form just where it is written for some corners of few digits: `in_form_if`,
-- `in_form_only`. Then: corners in range have few digits, and how long a text is.
use mathlib.Core.Path.{◌≡◌, refl, sym, ap, subst, ◌∙◌}
use mathlib.Core.Logic.{⊎_elim}
use mathlib.Core.Bool.{Bool, true, false, not, cond, ◌&&◌}
use mathlib.Core.List.{List, [], ◌∷◌, ◌++◌}
use mathlib.Core.Option.{Option, none, some}
use Prim.Native.Nat.{ℕ, zero, suc, ◌+◌, ◌-◌, ◌*◌, ◌^◌, ◌≤◌, ◌<◌}
use native.Mathlib.Omega.{arith}
use lib.Dec.{T, T_not, eqb, leb, ltb, leb→le, ltb→lt, lt→ltb}
use lib.IntN.{ℤ, pos, negsuc, neg_ℤ, nat_abs}
use lib.ListN.{length, get_or, take, drop, length-append}
use lib.Signed.{le_z}
use Rattle.finite.specs.Tests.{and_left, and_right, and_both, decide, is_true, is_false}
use Rattle.finite.specs.Lists.{all_in}
use Rattle.model.specs.declared.Point.{Point}
use Rattle.model.specs.Plane.{coordinate_in_range, coordinate_limit, in_range, origin, same_point}
use Rattle.model.specs.Spelling.{bytes, minus, space, spelt}
use Rattle.model.specs.Text.{digit_limit, digits, has_minus, is_number, magnitude, number_value, value_after, front}
use Rattle.survey.specs.Numbers.{is_magnitude}
use Rattle.survey.proofs.Digits.{below_limit, magnitude_digits}
use Rattle.printing.proofs.RoundTrip.{spelt_read}
use Rattle.survey.proofs.Signs.{number_is, value_small}
use Rattle.model.specs.Outlines.{after_position, corners_in, exactly, is_position, is_word, positions_in, outline_text, joined, point_text, position, positions, ring_of, second, starts_with, with_first}
use Rattle.positions.proofs.PositionLaws.{few_digits, has_position}
use Rattle.polygons.proofs.RoundTrip.{few_snoc, text_read, read_text}

-- ---- numbers

negated_abs : (m : ℕ) → nat_abs (neg_ℤ (pos m)) ≡ m
negated_abs zero = refl
negated_abs (suc m) = refl

number_small : (s : List ℕ) → T (is_number s) → nat_abs (number_value s) < 10 ^ digit_limit
unfolding number_value magnitude
number_small s t =
    let whole : T (is_magnitude (digits s)) =
    and_left (is_magnitude (digits s)) (not (has_minus s && eqb (magnitude s) 0)) (subst T (number_is s) t) in
    let w = magnitude_digits (digits s) whole in
    let small : value_after 0 (digits s) < 10 ^ digit_limit =
    below_limit digit_limit (value_small 0 0 (digits s) (omega arith) w.each) (omega (arith, w.few)) in
    ⊎_elim
    (λ (h : T (has_minus s)). rw (is_true (has_minus s) h, negated_abs) small)
    (λ (h : T (not (has_minus s))). rw (is_false (has_minus s) (T_not (has_minus s) h)) small)
    (decide (has_minus s))

position_few : (s : List ℕ) → T (is_position s) → T (few_digits (position s))
unfolding few_digits position
position_few s t =
    let w = has_position s t in
    let x : ℕ = nat_abs (number_value (front s)) in
    let y : ℕ = nat_abs (number_value (front (second s))) in
    and_both (ltb x (10 ^ digit_limit)) (ltb y (10 ^ digit_limit))
    (lt→ltb x (10 ^ digit_limit) (number_small (front s) w.first_number))
    (lt→ltb y (10 ^ digit_limit) (number_small (front (second s)) w.second_number))

-- ---- lists that are read

-- all points have few digits, where there is a list
unfoldable Few : Option (List Point) → Type 0
Few none = Unit {0}
Few (some ps) = T (all_in few_digits ps)

few_cond : (b : Bool) (m n : Option (List Point)) → (T b → Few m) → Few n → Few (cond b m n)
few_cond true m n f g = f tt
few_cond false m n f g = g

few_first : (p : Point) (m : Option (List Point)) → T (few_digits p) → Few m → Few (with_first p m)
unfolding Few with_first all_in
few_first p none t f = tt
few_first p (some ps) t f = and_both (few_digits p) (all_in few_digits ps) t f

positions_few : (k : ℕ) (closing s : List ℕ) → Few (positions k closing s)
unfolding Few positions all_in
positions_few zero closing s = tt
positions_few (suc k) closing s =
    let rest = after_position s in
    few_cond (is_position s) _ none
    (λ t.
    few_cond (starts_with (bytes ", ") rest) _ _
    (λ c. few_first (position s) (positions k closing (drop 2 rest)) (position_few s t) (positions_few k closing (drop 2 rest)))
    (few_cond (is_word closing rest) (some (position s ∷ [])) none
    (λ c. and_both (few_digits (position s)) true (position_few s t) tt) tt))
    tt

exactly_few : (n : ℕ) (m : Option (List Point)) → Few m → Few (exactly n m)
unfolding Few exactly
exactly_few n none f = tt
exactly_few n (some ps) f = few_cond (eqb (length ps) n) (some ps) none (λ t. f) tt

take_few : (n : ℕ) (ps : List Point) → T (all_in few_digits ps) → T (all_in few_digits (take n ps))
unfolding all_in
take_few zero ps f = tt
take_few (suc n) [] f = tt
take_few (suc n) (p ∷ ps) f =
    and_both (few_digits p) (all_in few_digits (take n ps)) (and_left (few_digits p) (all_in few_digits ps) f)
    (take_few n ps (and_right (few_digits p) (all_in few_digits ps) f))

ring_few : (m : Option (List Point)) → Few m → Few (ring_of m)
unfolding Few ring_of
ring_few none f = tt
ring_few (some ps) f =
    few_cond (leb 3 (length ps - 1) && same_point (get_or ps 0 origin) (get_or ps (length ps - 1) origin))
    (some (take (length ps - 1) ps)) none (λ t. take_few (length ps - 1) ps f) tt

corners_few : (t : List ℕ) → Few (corners_in t)
unfolding Few corners_in positions_in all_in
corners_few t =
    few_cond (is_word (bytes "POLYGON EMPTY") t) (some []) _ (λ h. tt)
    (few_cond (starts_with (bytes "POINT (") t) _ _ (λ h. exactly_few 1 _ (positions_few _ (bytes ")") _))
    (few_cond (starts_with (bytes "LINESTRING (") t) _ _ (λ h. exactly_few 2 _ (positions_few _ (bytes ")") _))
    (few_cond (starts_with (bytes "POLYGON ((") t) _ none (λ h. ring_few _ (positions_few _ (bytes "))") _)) tt)))

-- ---- in form just where it is written

pub record Written (t : List ℕ) (cs : List Point) : Type 0 where
  pub few : T (all_in few_digits cs)
  pub text : outline_text cs ≡ t

pub in_form_only : (t : List ℕ) (cs : List Point) → corners_in t ≡ some cs → Written t cs
unfolding Few
in_form_only t cs e = record { few = subst Few e (corners_few t); text = read_text t cs e }

pub in_form_if : (t : List ℕ) (cs : List Point) → Written t cs → corners_in t ≡ some cs
in_form_if t cs w = ap corners_in (sym w.text) ∙ text_read cs w.few

-- ---- corners in range

coordinate_few : (z : ℤ) → T (coordinate_in_range z) → nat_abs z < 10 ^ digit_limit
unfolding coordinate_in_range
coordinate_few (pos n) t =
    let low : Bool = le_z (neg_ℤ (pos coordinate_limit)) (pos n) in
    let high : n ≤ coordinate_limit = leb→le n coordinate_limit (and_right low (le_z (pos n) (pos coordinate_limit)) t) in
    omega arith
coordinate_few (negsuc n) t =
    let high : Bool = le_z (negsuc n) (pos coordinate_limit) in
    let low : n ≤ coordinate_limit - 1 =
    leb→le n (coordinate_limit - 1) (and_left (le_z (neg_ℤ (pos coordinate_limit)) (negsuc n)) high t) in
    omega arith

pub range_few : (p : Point) → T (in_range p) → T (few_digits p)
unfolding in_range few_digits
range_few p t =
    let x : Bool = coordinate_in_range p.x in
    let y : Bool = coordinate_in_range p.y in
    and_both (ltb (nat_abs p.x) (10 ^ digit_limit)) (ltb (nat_abs p.y) (10 ^ digit_limit))
    (lt→ltb (nat_abs p.x) (10 ^ digit_limit) (coordinate_few p.x (and_left x y t)))
    (lt→ltb (nat_abs p.y) (10 ^ digit_limit) (coordinate_few p.y (and_right x y t)))

-- ---- how long a text is

digits_long : (s : List ℕ) → length s ≤ suc (length (digits s))
unfolding digits
digits_long [] = omega arith
digits_long (b ∷ s) =
    ⊎_elim
    (λ (h : T (eqb b minus)). rw (is_true (eqb b minus) h) (omega arith))
    (λ (h : T (not (eqb b minus))). rw (is_false (eqb b minus) (T_not (eqb b minus) h)) (omega arith))
    (decide (eqb b minus))

spelt_short : (z : ℤ) → nat_abs z < 10 ^ digit_limit → length (spelt z) ≤ suc digit_limit
spelt_short z h =
    let s : List ℕ = spelt z in
    let w = magnitude_digits (digits s)
    (and_left (is_magnitude (digits s)) (not (has_minus s && eqb (magnitude s) 0))
    (subst T (number_is s) (spelt_read z h).in_form)) in
    omega (arith, w.few, digits_long s)

point_short : (p : Point) → T (few_digits p) → length (point_text p) ≤ 2 * digit_limit + 3
unfolding few_digits point_text
point_short p t =
    let x : Bool = ltb (nat_abs p.x) (10 ^ digit_limit) in
    let y : Bool = ltb (nat_abs p.y) (10 ^ digit_limit) in
    omega (
      arith,
      length-append (spelt p.x) (space ∷ spelt p.y),
      spelt_short p.x (ltb→lt (nat_abs p.x) (10 ^ digit_limit) (and_left x y t)),
      spelt_short p.y (ltb→lt (nat_abs p.y) (10 ^ digit_limit) (and_right x y t)),
    )

joined_short : (p : Point) (s : List Point) → T (all_in few_digits (p ∷ s)) →
    length (joined p s) ≤ length s * (2 * digit_limit + 5) + (2 * digit_limit + 3)
unfolding joined all_in bytes
joined_short p [] f = omega (arith, point_short p (and_left (few_digits p) true f))
joined_short p (q ∷ s) f =
    omega (
      arith,
      point_short p (and_left (few_digits p) (all_in few_digits (q ∷ s)) f),
      joined_short q s (and_right (few_digits p) (all_in few_digits (q ∷ s)) f),
      length-append (point_text p ++ bytes ", ") (joined q s),
      length-append (point_text p) (bytes ", "),
    )

-- 513 × (2 × digit-limit + 3) + 1,036 bytes for 512 corners
pub text_short : (cs : List Point) → T (all_in few_digits cs) →
    length (outline_text cs) ≤ length cs * (2 * digit_limit + 5) + (2 * digit_limit + 15)
unfolding outline_text bytes all_in
text_short [] f = omega arith
text_short (p ∷ []) f =
    omega (
      arith,
      joined_short p [] f,
      length-append (bytes "POINT (" ++ joined p []) (bytes ")"),
      length-append (bytes "POINT (") (joined p []),
    )
text_short (p ∷ q ∷ []) f =
    omega (
      arith,
      joined_short p (q ∷ []) f,
      length-append (bytes "LINESTRING (" ++ joined p (q ∷ [])) (bytes ")"),
      length-append (bytes "LINESTRING (") (joined p (q ∷ [])),
    )
text_short (p ∷ q ∷ r ∷ s) f =
    let others : List Point = q ∷ r ∷ s ++ p ∷ [] in
    omega (
      arith,
      joined_short p others (few_snoc (p ∷ q ∷ r ∷ s) p f (and_left (few_digits p) (all_in few_digits (q ∷ r ∷ s)) f)),
      length-append (bytes "POLYGON ((" ++ joined p others) (bytes "))"),
      length-append (bytes "POLYGON ((") (joined p others),
      length-append (q ∷ r ∷ s) (p ∷ []),
    )
