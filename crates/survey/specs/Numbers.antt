-- What a spelling stands for, in the order of this page: digits without a sign; a number at the
-- front of a list; a number that is a whole list; two numbers. Document 01, "The text program": "A
-- number is an optional minus and 1 to .. digits, no leading zero save 0 itself, no -0."
use Rattle.std.specs.Prelude.{Bool, not, cond, ◌&&◌, ◌||◌, List, ℕ, leb, eqb, ℤ, length, get_or}
use Rattle.std.specs.declared.option.Option.{Option}
use Rattle.std.specs.declared.option.Option.TheVariants.{Some, None}
use Rattle.std.specs.declared.result.Result.{Result}
use Rattle.std.specs.declared.result.Result.TheVariants.{Ok, Err}
use Rattle.finite.specs.Lists.{all_in}
use Rattle.model.specs.declared.Point.{Point}
use Rattle.model.specs.declared.Refusal.{Refusal}
use Rattle.model.specs.Spelling.{digit_zero}
use Rattle.model.specs.Text.{digit_limit, is_digit, value_after, is_number, number_value, leading_digits, front}
use Rattle.survey.specs.declared.numbers.Front.{Front}
use Rattle.survey.specs.declared.numbers.Magnitude.{Magnitude}

-- "no leading zero save 0 itself"
unfoldable pub no_leading_zero : List ℕ → Bool
no_leading_zero d = not (eqb (get_or d 0 0) digit_zero) || eqb (length d) 1

-- "1 to .. digits, no leading zero save 0 itself"
unfoldable pub is_magnitude : List ℕ → Bool
is_magnitude d =
    leb 1 (length d) && leb (length d) digit_limit && all_in is_digit d && no_leading_zero d

-- what the digits at the front of a list stand for, and how many they are
unfoldable pub magnitude_read : List ℕ → Option Magnitude
magnitude_read s =
    let d = leading_digits s in
    cond (is_magnitude d) (Some (record { value = value_after 0 d; count = length d })) None

-- the number at the front of a list, and the place after it
unfoldable pub front_number : List ℕ → Option Front
front_number s =
    let f = front s in cond (is_number f) (Some (record { value = number_value f; end = length f })) None

-- what a list of bytes stands for: the number that it spells, or none
unfoldable pub number_read : List ℕ → Option ℤ
number_read s = cond (is_number s) (Some (number_value s)) None

-- the point of two numbers, or number 8
unfoldable pub named : Option ℤ → Option ℤ → Result Point Refusal
named (Some x) (Some y) = Ok (record { x = x; y = y })
named (Some x) None = Err Refusal.BadLine
named None y = Err Refusal.BadLine
