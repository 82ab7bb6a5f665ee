-- A word at the front of a text, in the order of this page: what the test says of the text, and
-- that it passes where the word was put; the same for a whole text; the test place by place.
use mathlib.Core.Path.{◌≡◌, refl, sym, ap, ◌∙◌}
use mathlib.Core.Bool.{Bool, ◌&&◌}
use mathlib.Core.List.{List, [], ◌∷◌, ◌++◌, append-nil}
use Prim.Native.Nat.{ℕ, ◌≤◌}
use native.Mathlib.Omega.{arith}
use lib.Dec.{T, T_not, eqb, eqb→eq, eqb_refl}
use lib.ListN.{length, drop, drop_of_length-le, length-append}
use Rattle.finite.specs.Tests.{and_left, and_right, and_both, is_true, is_false, not_not, same_test}
use lib.Pointwise.{pointwise}
use Rattle.std.specs.Cmp.Lexicographic.{same_text, other_text}
use Rattle.std.specs.List as L
use Rattle.model.specs.Outlines.{starts_with, is_word}

pub word_then : (w t : List ℕ) → T (starts_with w t) → t ≡ w ++ drop (length w) t
unfolding starts_with
word_then [] t h = refl
word_then (b ∷ w) [] h = absurd h
word_then (b ∷ w) (c ∷ t) h =
    let same : b ≡ c = eqb→eq b c (and_left (eqb b c) (starts_with w t) h) in
    let on : t ≡ w ++ drop (length w) t = word_then w t (and_right (eqb b c) (starts_with w t) h) in
    cc

pub starts_by : (w t : List ℕ) → T (starts_with w (w ++ t))
unfolding starts_with
starts_by [] t = tt
starts_by (b ∷ w) t = and_both (eqb b b) (starts_with w (w ++ t)) (eqb_refl b) (starts_by w t)

pub word_whole : (w t : List ℕ) → T (is_word w t) → t ≡ w
unfolding is_word
word_whole w t h =
    let long : length w ≡ length t =
    eqb→eq (length w) (length t) (and_right (starts_with w t) (eqb (length w) (length t)) h) in
    let none : drop (length w) t ≡ [] = drop_of_length-le t {i = length w} (omega arith) in
    word_then w t (and_left (starts_with w t) (eqb (length w) (length t)) h)
    ∙ ap (λ (s : List ℕ). w ++ s) none ∙ append-nil w

pub whole_by : (w : List ℕ) → T (is_word w w)
unfolding is_word
whole_by w =
    and_both (starts_with w w) (eqb (length w) (length w)) (rw append-nil at (starts_by w []))
    (eqb_refl (length w))

-- ---- as the library compares

pub word_tested : (w t : List ℕ) → L.starts_with eqb t w ≡ starts_with w t
unfolding starts_with
word_tested [] t = refl
word_tested (b ∷ w) [] = refl
word_tested (b ∷ w) (c ∷ t) = ap (λ (r : Bool). eqb b c && r) (word_tested w t)

pub text_tested : (w t : List ℕ) → pointwise eqb t w ≡ is_word w t
text_tested w t =
    let same = pointwise eqb t w in
    same_test same (is_word w t)
    (λ (h : T same).
    let e : t ≡ w = same_text t w (sym (is_true same h)) in rw e (whole_by w))
    (λ (h : T (is_word w t)).
    not_not same (λ n. other_text t w (sym (is_false same (T_not same n))) (word_whole w t h)))

-- the word takes no more bytes than there are
pub word_inside : (w t : List ℕ) → T (starts_with w t) → length w ≤ length t
word_inside w t h = omega (arith, ap length (word_then w t h), length-append w (drop (length w) t))
