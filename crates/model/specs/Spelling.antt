-- How words and numbers are spelt in bytes, in the order of this page: the bytes of a text that is
-- written out; a whole number in decimal, as document 01, "The text program", has it.
use Rattle.std.specs.Prelude.{cond, List, [], ◌∷◌, ◌++◌, ℕ, zero, suc, ◌+◌, ◌/◌, ◌%◌, ltb, ℤ, pos, negsuc}
use Prim.Native.Char.{code}
use Prim.Native.String.{String, [] as empty_text, ◌∷◌ as ◌then◌}

-- the bytes of an ASCII text
unfoldable pub bytes : String → List ℕ
bytes empty_text = []
bytes (c then s) = code c ∷ bytes s

-- the bytes that the forms name
abbrev pub line_feed : ℕ
line_feed = 10

abbrev pub space : ℕ
space = 32

abbrev pub minus : ℕ
minus = 45

abbrev pub digit_zero : ℕ
digit_zero = 48

-- n in decimal, of at most k digits
unfoldable pub decimal : ℕ → ℕ → List ℕ
decimal zero n = []
decimal (suc k) n =
    let front = decimal k (n / 10) in
    cond (ltb n 10) ((digit_zero + n) ∷ []) (front ++ (digit_zero + n % 10) ∷ [])

-- a whole number below 10^20, with a minus where it is negative
unfoldable pub spelt : ℤ → List ℕ
spelt (pos n) = decimal 20 n
spelt (negsuc n) = minus ∷ decimal 20 (suc n)
