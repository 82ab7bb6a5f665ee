-- The printed lines of answers, in the order of this page: what the line of each answer is; how
-- many bytes it takes at most; the line of an arrival in the report.
use mathlib.Core.Path.{◌≡◌, refl, ap, ◌∙◌}
use mathlib.Core.List.{List, [], ◌∷◌, ◌++◌}
use Prim.Native.Nat.{ℕ, ◌+◌, ◌*◌, ◌≤◌}
use native.Mathlib.Omega.{arith}
use lib.IntN.{pos}
use lib.ListN.{length, length-append}
use Rattle.std.specs.declared.result.Result.{Result}
use Rattle.std.specs.declared.result.Result.TheVariants.{Ok, Err}
use Rattle.model.specs.declared.Arrival.{Arrival}
use Rattle.model.specs.declared.Refusal.{Refusal}
use Rattle.model.specs.Spelling.{bytes, line_feed, space, spelt}
use Rattle.model.specs.Refusals.{number}
use Rattle.model.specs.Answers.{refused, arrival_answer}
use Rattle.model.specs.Report.{printed}
use Rattle.printing.specs.Printing.{answer_line, arrival_line, values_spaced}
use Rattle.printing.proofs.Decimals.{spelt_length}
use Rattle.printing.proofs.Values.{spaced_length}

pub line_length : (word values : List ℕ) →
    length (answer_line word values) ≡ length word + length (values_spaced values) + 1
unfolding answer_line
line_length word values =
    length-append (word ++ values_spaced values) (line_feed ∷ []) ∙
    ap (λ (n : ℕ). n + 1) (length-append word (values_spaced values))

-- ---- each answer's line

pub refused_line : (r : Refusal) → printed (refused r) ≡ answer_line (bytes "refused") (number r
    ∷ [])
unfolding printed answer_line
refused_line r = refl

-- where n was found for the number
pub refused_as : (r : Refusal) (n : ℕ) → n ≡ number r →
    printed (refused r) ≡ answer_line (bytes "refused") (n ∷ [])
refused_as r n e = rw e (refused_line r)

-- of a point that is accepted, whose arrival was found, or refused
module _ {answer : Result Arrival Refusal} where
  pub first_as : {a : Arrival} → answer ≡ Ok a → a ≡ Arrival.First →
      printed (arrival_answer answer) ≡ answer_line (bytes "first") []
  unfolding printed answer_line arrival_answer
  first_as e f = rw (e, f)

  pub second_as : {a : Arrival} → answer ≡ Ok a → a ≡ Arrival.Second →
      printed (arrival_answer answer) ≡ answer_line (bytes "second") []
  unfolding printed answer_line arrival_answer
  second_as e f = rw (e, f)

  pub inside_as : {a : Arrival} → answer ≡ Ok a → a ≡ Arrival.Inside →
      printed (arrival_answer answer) ≡ answer_line (bytes "inside") []
  unfolding printed answer_line arrival_answer
  inside_as e f = rw (e, f)

  pub outside_as : {a : Arrival} {l r v : ℕ} → answer ≡ Ok a → a ≡ Arrival.Outside l r v →
      printed (arrival_answer answer) ≡ answer_line (bytes "outside") (l ∷ r ∷ v ∷ [])
  unfolding printed answer_line arrival_answer
  outside_as e f = rw (e, f)

  pub refused_answer : {r : Refusal} → answer ≡ Err r →
      printed (arrival_answer answer) ≡ printed (refused r)
  unfolding arrival_answer
  refused_answer e = rw e

-- ---- how long they are

line_most : (word values : List ℕ) → length (answer_line word values) ≤ length word + 21 * length
    values + 1
line_most word values = omega (arith, line_length word values, spaced_length values)

pub refused_most : (r : Refusal) → length (printed (refused r)) ≤ 72
unfolding bytes
refused_most r = omega (
  arith,
  ap length (refused_line r),
  line_most (bytes "refused") (number r
      ∷ []),
)

pub arrival_most : (a : Result Arrival Refusal) → length (printed (arrival_answer a)) ≤ 72
unfolding bytes
arrival_most (Ok Arrival.First) =
    omega (arith, ap length (first_as refl refl), line_most (bytes "first") [])
arrival_most (Ok Arrival.Second) =
    omega (arith, ap length (second_as refl refl), line_most (bytes "second") [])
arrival_most (Ok Arrival.Inside) =
    omega (arith, ap length (inside_as refl refl), line_most (bytes "inside") [])
arrival_most (Ok (Arrival.Outside l r v)) =
    omega (
      arith,
      ap length (outside_as {l = l} {r = r} {v = v} refl refl),
      line_most (bytes "outside") (l ∷ r ∷ v ∷ []),
    )
arrival_most (Err r) = omega (arith, ap length (refused_answer {r = r} refl), refused_most r)

module _ (n : ℕ) (a : Result Arrival Refusal) where
  pub arrival_line_length :
      length (arrival_line n a) ≡ length (spelt (pos n)) + 1 + length (printed (arrival_answer a))
  unfolding arrival_line
  arrival_line_length =
      omega (arith, length-append (spelt (pos n)) (space ∷ printed (arrival_answer a)))

  pub arrival_line_most : length (arrival_line n a) ≤ 93
  arrival_line_most = omega (arith, arrival_line_length, spelt_length n, arrival_most a)
