-- How long a report is at most, in the order of this page: a number and its digits; values; the
-- line of an answer; the corners and the counts; the lines of a text; the report: never more than
-- 16 bytes for each byte of the text and 4,096 more. A blank line, which is one byte, prints a
-- number of five digits, `refused 8` and two bytes more: 16; any other line is two bytes, and prints
-- 26 at most.
use mathlib.Core.Path.{◌≡◌, refl, ap}
use mathlib.Core.Logic.{◌≢◌, ⊎_elim}
use mathlib.Core.Bool.{Bool, true, false, cond}
use mathlib.Core.List.{List, [], ◌∷◌, ◌++◌}
use Prim.Native.Nat.{ℕ, zero, suc, ◌+◌, ◌*◌, ◌^◌, ◌≤◌, ◌<◌}
use native.Mathlib.Omega.{arith}
use borrow.Author.Tests.{ltb-false}
use lib.Dec.{T, ltb, eqb}
use lib.IntN.{pos}
use lib.ListN.{length, length-append}
use Rattle.std.specs.declared.result.Result.{Result}
use Rattle.std.specs.declared.result.Result.TheVariants.{Err}
use Rattle.finite.specs.Tests.{same_or_not}
use Rattle.finite.specs.Bounded.{lt_or_ge}
use Rattle.finite.specs.Counting.{count_small}
use Rattle.finite.specs.Lists.{elem}
use Rattle.finite.specs.ListLaws.{elem_head, elem_tail, elem_one}
use Rattle.finite.specs.Distinct.{length_distinct}
use Rattle.model.specs.declared.Refusal.{Refusal}
use Rattle.model.specs.declared.Map.{Map}
use Rattle.model.specs.declared.Arrival.{Arrival}
use Rattle.model.specs.declared.Point.{Point}
use Rattle.model.specs.declared.Offered.{Offered}
use Rattle.model.specs.Spelling.{bytes, line_feed, spelt}
use Rattle.model.specs.Refusals.{number}
use Rattle.model.specs.Answers as answers
use Rattle.model.specs.Answers.{arrival_answer, arrival_of}
use Rattle.model.specs.Offers.{map_after}
use Rattle.model.specs.Maps.{point_limit, empty_map}
use Rattle.model.specs.Shape.{Shaped}
use Rattle.model.specs.Sound.{sound}
use Rattle.model.specs.Outline.{corners}
use Rattle.model.specs.Reading.{counts}
use Rattle.model.specs.Text.{line_read, in_first_line, lines}
use Rattle.model.specs.Report.{text_limit, spaced, printed, offer_line, closing, arrivals, report}
use Rattle.model.proofs.Answers.{number_most}
use Rattle.survey.proofs.Texts.{blank_refused}
use Rattle.printing.specs.Printing.{answer_line, arrival_line, values_spaced}
use Rattle.printing.proofs.Decimals.{length_one, length_between}
use Rattle.printing.proofs.Values.{spaced_length}
use Rattle.printing.proofs.Printed.{line_length, first_as, second_as, inside_as, outside_as, refused_line, refused_answer, refused_most, arrival_line_length}
use Rattle.printing.proofs.Reports.{closing_lines}
use Rattle.hull.proofs.Sound.{sound_shaped, sound_grows, empty_is_sound}
use Rattle.corners.proofs.Corners.{corners_circuit, one_listed, none_listed}
use Rattle.lines.specs.Packing as packing
use Rattle.lines.specs.Packing.{Packable}
use Rattle.lines.specs.Lines.{counts_values}
use Rattle.deciding.proofs.Verdicts.{Decides, taken, refused, line_decides, arrive_packable}

-- ---- numbers

-- so many digits at most, told by a power of ten
spelt_most : (k n : ℕ) → n < 10 ^ suc k → n < 2 ^ 64 → length (spelt (pos n)) ≤ suc k
spelt_most zero n h fits = omega (arith, length_one n h)
spelt_most (suc k) n h fits =
    ⊎_elim
    (λ (l : n < 10 ^ suc k). omega (arith, spelt_most k n l fits))
    (λ (l : 10 ^ suc k ≤ n). omega (arith, length_between (suc k) n l h fits))
    (lt_or_ge n (10 ^ suc k))

-- ---- values of three digits

spaced_one : (v : ℕ) (values : List ℕ) → v < 1000 →
    length (values_spaced (v ∷ values)) ≤ 4 + length (values_spaced values)
unfolding spaced
spaced_one v values h =
    omega (
      arith,
      spelt_most 2 v h (omega arith),
      length-append (spelt (pos v)) (values_spaced values),
    )

spaced_most : (values : List ℕ) → ((a : ℕ) → T (elem a values) → a < point_limit) →
    length (values_spaced values) ≤ 4 * length values
unfolding spaced
spaced_most [] below = omega arith
spaced_most (v ∷ values) below =
    let l = below v (elem_head v values) in
    omega (
      arith,
      spaced_one v values (omega arith),
      spaced_most values (λ a h. below a (elem_tail a v values h)),
    )

-- ---- the line of an answer

refused_answer_most : (r : Refusal) → length (printed (arrival_answer (Err r))) ≤ 20
unfolding bytes
refused_answer_most r =
    omega (
      arith,
      ap length (refused_answer {r = r} refl),
      ap length (refused_line r),
      line_length (bytes "refused") (number r ∷ []),
      spaced_one (number r) [] (omega (arith, number_most r)),
      spaced_length [],
    )

answer_most : {a : Result Arrival Refusal} → Packable a → length (printed (arrival_answer a)) ≤ 20
unfolding bytes
answer_most packing.first =
    omega (arith, ap length (first_as refl refl), line_length (bytes "first") [], spaced_length [])
answer_most packing.second =
    omega (arith, ap length (second_as refl refl), line_length (bytes "second") [], spaced_length [])
answer_most packing.inside =
    omega (arith, ap length (inside_as refl refl), line_length (bytes "inside") [], spaced_length [])
answer_most (packing.outside {l} {r} {v} small) =
    omega (
      arith,
      ap length (outside_as {l = l} {r = r} {v = v} refl refl),
      line_length (bytes "outside") (l ∷ r ∷ v ∷ []),
      spaced_one l (r ∷ v ∷ []) (omega (arith, small.left_below)),
      spaced_one r (v ∷ []) (omega (arith, small.right_below)),
      spaced_one v [] (omega (arith, small.visible_most)),
      spaced_length [],
    )
answer_most (packing.refused {r} o) = refused_answer_most r

blank_most : length (printed (arrival_answer (Err Refusal.BadLine))) ≤ 10
unfolding bytes number spaced
blank_most =
    omega (
      arith,
      ap length (refused_answer {r = Refusal.BadLine} refl),
      ap length (refused_line Refusal.BadLine),
      line_length (bytes "refused") (8 ∷ []),
      length-append (spelt (pos 8)) [],
      length_one 8 (omega arith),
    )

-- what a line comes to on a sound map
offered_small : (m : Map) → T (sound m) → (line : Result Point Refusal) →
    (length (printed (arrival_answer (arrival_of (offer_line m line)))) ≤ 20)
    × T (sound (map_after m (offer_line m line)))
unfolding arrival_of map_after
offered_small m s line = go (line_decides m s line)
  where
    go : {o : Result Offered Refusal} → Decides m line o →
        (length (printed (arrival_answer (arrival_of o))) ≤ 20) × T (sound (map_after m o))
    go (taken named a) = (answer_most (arrive_packable a), sound_grows s a)
    go (refused {r}) = (refused_answer_most r, s)

-- its line takes 16 bytes at most for each byte of it and its feed
line_most : (m : Map) → T (sound m) → (n : ℕ) → n < text_limit → (l : List ℕ) →
    length (arrival_line n (arrival_of (offer_line m (line_read l)))) ≤ 16 * (length l + 1)
unfolding offer_line arrival_of
line_most m s n h [] =
    rw blank_refused
    (omega (
      arith,
      arrival_line_length n (Err Refusal.BadLine),
      spelt_most 4 n (omega arith) (omega arith),
      blank_most,
    ))
line_most m s n h (b ∷ l) =
    let a = arrival_of (offer_line m (line_read (b ∷ l))) in
    omega (
      arith,
      arrival_line_length n a,
      spelt_most 4 n (omega arith) (omega arith),
      (offered_small m s (line_read (b ∷ l))).0,
    )

-- ---- the corners and the counts

-- as many numbers as there may be points, each of a point
record Numbers (s : List ℕ) : Type 0 where
  few : length s ≤ point_limit
  below : (a : ℕ) → T (elem a s) → a < point_limit

corners_small : {m : Map} → Shaped m → Numbers (corners m)
unfolding elem
corners_small {m} s =
    ⊎_elim
    (λ (l : m.count < 2).
    ⊎_elim
    (λ (e : m.count ≡ 0).
    rw (none_listed m e) (record { few = omega arith; below = λ a h. absurd h }))
    (λ (n : m.count ≢ 0).
    rw (one_listed m (omega arith))
    (record { few = omega arith; below = λ a h. omega (arith, elem_one a 0 h) }))
    (same_or_not m.count 0))
    (λ (l : 2 ≤ m.count).
    let c = corners_circuit s l in
    record {
      few =
          omega (
            arith,
            length_distinct m.count (corners m) c.all_distinct c.below,
            count_small m.count (λ k. elem k (corners m)),
            s.links.fits,
          );
      below = λ a h. omega (arith, c.below a h, s.links.fits);
    })
    (lt_or_ge m.count 2)

closing_most : {m : Map} → Shaped m → length (closing m) ≤ 2_168
unfolding bytes
closing_most {m} s =
    let listed = corners_small s in
    omega (
      arith,
      ap length (closing_lines m),
      length-append (answer_line (bytes "corners") (corners m))
          (answer_line (bytes "counts") (counts_values (counts m))),
      line_length (bytes "corners") (corners m),
      spaced_most (corners m) listed.below,
      listed.few,
      line_length (bytes "counts") (counts_values (counts m)),
      spaced_length (counts_values (counts m)),
    )

-- ---- the lines of a text

-- the bytes of lines, each with its feed
unfoldable spent : List (List ℕ) → ℕ
spent [] = 0
spent (l ∷ ls) = length l + 1 + spent ls

-- there are no more lines than bytes, and only the last feed may be missing
record Few (ls : List (List ℕ)) (n : ℕ) : Type 0 where
  number_most : length ls ≤ n
  spent_most : spent ls ≤ n + 1

lines_few : (text : List ℕ) → Few (lines text) (length text)
unfolding lines in_first_line spent
lines_few [] = record { number_most = omega arith; spent_most = omega arith }
lines_few (b ∷ s) = go (eqb b line_feed) (lines s) (lines_few s)
  where
    go : (feed : Bool) (ls : List (List ℕ)) → Few ls (length s) →
        Few (cond feed ([] ∷ ls) (in_first_line b ls)) (suc (length s))
    go true ls f =
        record {
          number_most = omega (arith, f.number_most);
          spent_most = omega (arith, f.spent_most);
        }
    go false [] f = record { number_most = omega arith; spent_most = omega arith }
    go false (l ∷ ls) f =
        record {
          number_most = omega (arith, f.number_most);
          spent_most = omega (arith, f.spent_most);
        }

arrivals_more : (m : Map) (n : ℕ) (l : List ℕ) (ls : List (List ℕ)) →
    let o = offer_line m (line_read l) in
    length (arrivals m n (l ∷ ls))
    ≡ length (arrival_line n (arrival_of o)) + length (arrivals (map_after m o) (suc n) ls)
unfolding arrivals arrival_line
arrivals_more m n l ls =
    let o = offer_line m (line_read l) in
    length-append (arrival_line n (arrival_of o)) (arrivals (map_after m o) (suc n) ls)

arrivals_most : (m : Map) → T (sound m) → (n : ℕ) (ls : List (List ℕ)) →
    n + length ls ≤ text_limit → length (arrivals m n ls) ≤ 16 * spent ls + 2_168
unfolding arrivals spent
arrivals_most m s n [] few = omega (arith, closing_most (sound_shaped m s))
arrivals_most m s n (l ∷ ls) few =
    omega (
      arith,
      arrivals_more m n l ls,
      line_most m s n (omega arith) l,
      arrivals_most (map_after m (offer_line m (line_read l))) (offered_small m s (line_read l)).1 (suc n) ls
          (omega arith),
    )

-- ---- the report

pub report_most : (text : List ℕ) → length (report text) ≤ 16 * length text + 4_096
unfolding report bytes
report_most text = go (ltb text_limit (length text)) refl
  where
    go : (long : Bool) → ltb text_limit (length text) ≡ long →
        length (bytes "OUTLINE 1\n"
        ++ cond long (printed (answers.refused Refusal.LongText)) (arrivals empty_map 0 (lines text)))
        ≤ 16 * length text + 4_096
    go true e = omega (arith, refused_most Refusal.LongText)
    go false e =
        let f = lines_few text in
        omega (
          arith,
          arrivals_most empty_map empty_is_sound 0 (lines text)
              (omega (arith, f.number_most, ltb-false text_limit (length text) e)),
          f.spent_most,
        )
