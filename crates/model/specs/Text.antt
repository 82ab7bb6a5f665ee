-- Survey texts, in the order of this page: a number; what the bytes of a line name, which stand
-- without its line feed; the lines of a text; a line that is lent by itself.
-- Document 01, "The text program": "A line is two numbers with one space between and a line feed;
-- the last feed may be missing, and nothing follows it."; document 02, request 105.
use Rattle.std.specs.Prelude.{Bool, not, cond, ◌&&◌, ◌||◌, List, [], ◌∷◌, ℕ, ◌+◌, ◌-◌, ◌*◌, leb, eqb, ℤ, pos, neg_ℤ, length, get_or}
use Rattle.std.specs.declared.result.Result.{Result}
use Rattle.finite.specs.Lists.{all_in, before, beyond}
use Rattle.model.specs.declared.Refusal.{Refusal}
use Rattle.model.specs.declared.Point.{Point}
use Rattle.model.specs.Refusals.{◌when◌}
use Rattle.model.specs.Answers.{Call, answer_of, line_answer}
use Rattle.model.specs.Spelling.{line_feed, space, minus, digit_zero}

-- "text numbers to 10 digits"
abbrev pub digit_limit : ℕ
digit_limit = 10

unfoldable pub is_digit : ℕ → Bool
is_digit b = leb digit_zero b && leb b (digit_zero + 9)

unfoldable pub has_minus : List ℕ → Bool
has_minus s = eqb (get_or s 0 0) minus

-- what stands after the optional minus
unfoldable pub digits : List ℕ → List ℕ
digits [] = []
digits (b ∷ s) = cond (eqb b minus) s (b ∷ s)

-- the number that digits stand for, after those that stand for n
unfoldable pub value_after : ℕ → List ℕ → ℕ
value_after n [] = n
value_after n (b ∷ s) = value_after (n * 10 + (b - digit_zero)) s

unfoldable pub magnitude : List ℕ → ℕ
magnitude s = value_after 0 (digits s)

-- "A number is an optional minus and 1 to .. digits, no leading zero save 0 itself, no -0."
unfoldable pub is_number : List ℕ → Bool
is_number s =
    leb 1 (length (digits s)) && leb (length (digits s)) digit_limit && all_in is_digit (digits s)
    && (not (eqb (get_or (digits s) 0 0) digit_zero) || eqb (length (digits s)) 1)
    && not (has_minus s && eqb (magnitude s) 0)

unfoldable pub number_value : List ℕ → ℤ
number_value s = cond (has_minus s) (neg_ℤ (pos (magnitude s))) (pos (magnitude s))

-- the digits at the front of a list, as many as there are; the optional minus and the digits there
unfoldable pub leading_digits : List ℕ → List ℕ
leading_digits [] = []
leading_digits (b ∷ s) = cond (is_digit b) (b ∷ leading_digits s) []

unfoldable pub front : List ℕ → List ℕ
front [] = []
front (b ∷ s) = cond (eqb b minus) (b ∷ leading_digits s) (leading_digits (b ∷ s))

-- "two numbers with one space between": the point that they name, or number 8
abbrev pub bytes_call : List ℕ → Call Point
bytes_call s =
    let first = before space s in
    let second = beyond space s in
    record {
      meaning = line_answer;
      rules = (Refusal.BadLine when not (is_number first && is_number second)) ∷ [];
      value = record { x = number_value first; y = number_value second };
    }

unfoldable pub line_read : List ℕ → Result Point Refusal
line_read s = answer_of (bytes_call s)

-- the lines with b before the first of them
unfoldable pub in_first_line : ℕ → List (List ℕ) → List (List ℕ)
in_first_line b [] = (b ∷ []) ∷ []
in_first_line b (l ∷ ls) = (b ∷ l) ∷ ls

-- "and a line feed; the last feed may be missing, and nothing follows it"
unfoldable pub lines : List ℕ → List (List ℕ)
lines [] = []
lines (b ∷ s) = cond (eqb b line_feed) ([] ∷ lines s) (in_first_line b (lines s))

-- the bytes of the one line; those of none or of several are no line, and stand as a blank one
unfoldable pub one_line : List (List ℕ) → List ℕ
one_line [] = []
one_line (l ∷ []) = l
one_line (l ∷ k ∷ ls) = []

-- a line that is lent by itself is a text of one line, so one feed may end it
abbrev pub line_call : List ℕ → Call Point
line_call s = bytes_call (one_line (lines s))
