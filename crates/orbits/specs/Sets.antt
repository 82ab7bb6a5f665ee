-- A set of darts as sixteen words with its size, in the order of this page: the set of the darts
-- that pass a test; the set of none; membership; a set with one dart more.
-- Document 01: "An orbit is given as sixteen 64-bit words, bit j of word w standing for dart
-- 64 × w + j, with the number of its darts."
use Rattle.std.specs.Prelude.{Bool, not, cond, ◌&&◌, ℕ, zero, suc, ◌+◌, ◌*◌, ◌/◌, ◌%◌, ◌^◌, eqb, ltb, get_or, set, replicate}
use Rattle.finite.specs.Bounded.{one_if, count, table}
use Rattle.orbits.specs.declared.DartSet.{DartSet}

-- darts are numbered 0 to 1,023
abbrev pub dart_limit : ℕ
dart_limit = 1024

-- the number whose bit j is set just where p passes at j, for j below n
unfoldable pub bits : ℕ → (ℕ → Bool) → ℕ
unfolding one_if
bits zero p = 0
bits (suc n) p = one_if (p 0) + 2 * bits n (λ j. p (suc j))

-- the set of the darts at which p passes
unfoldable pub set_of : (ℕ → Bool) → DartSet
unfolding table bits count
set_of p =
    record { words = table 16 (λ w. bits 64 (λ j. p (64 * w + j))); size = count dart_limit p }

-- the set of no dart
abbrev pub no_darts : DartSet
no_darts = record { words = replicate 16 0; size = 0 }

-- d is a member: bit d % 64 of word d / 64 is set. No number from 1,024 on is one.
unfoldable pub has : DartSet → ℕ → Bool
has s d = ltb d dart_limit && eqb (get_or s.words (d / 64) 0 / 2 ^ (d % 64) % 2) 1

-- the set with the bit of a dart that is no member set, and a size one larger. A size that is no
-- number of darts, of a set that no call made, stays: nothing can wrap.
unfoldable pub with_bit : DartSet → ℕ → DartSet
with_bit s d =
    record {
      words = set s.words (d / 64) (get_or s.words (d / 64) 0 + 2 ^ (d % 64));
      size = cond (ltb s.size dart_limit) (s.size + 1) s.size;
    }

-- the set with one dart more: the same set where d is a member, or no dart
unfoldable pub with_dart : DartSet → ℕ → DartSet
unfolding has with_bit
with_dart s d = let more = with_bit s d in cond (ltb d dart_limit && not (has s d)) more s
