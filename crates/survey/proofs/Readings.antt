-- A line read within its text, number by number, in the order of this page: the front of what
-- stands from a place on is the front of the line there; the first number, with a space after it
-- and without one; the second number, with the end of the text or the line feed after it, or
-- something else. Document 01, "The text program": "two numbers with one space between and a line
-- feed; the last feed may be missing".
use mathlib.Core.Path.{◌≡◌, sym, ap, ◌∙◌}
use mathlib.Core.Logic.{◌≢◌}
use mathlib.Core.List.{List}
use Prim.Native.Nat.{ℕ, ◌+◌, ◌≤◌, ◌<◌}
use native.Mathlib.Omega.{arith}
use borrow.Author.Tests.{lt-ltb, le-ltb}
use lib.IntN.{ℤ}
use lib.ListN.{length, get_or, drop, length-drop}
use lib.Seq.{get_or-drop}
use Rattle.std.specs.declared.option.Option.TheVariants.{Some}
use Rattle.std.specs.declared.result.Result.{Result}
use Rattle.std.specs.declared.result.Result.TheVariants.{Ok, Err}
use Rattle.std.specs.declared.option.Option.TheVariants.{None}
use Rattle.model.specs.declared.Point.{Point}
use Rattle.model.specs.declared.Refusal.{Refusal}
use Rattle.model.specs.Spelling.{line_feed, space}
use Rattle.survey.specs.declared.lines.Read.{Read}
use Rattle.survey.specs.Numbers.{front_number, named, number_read}
use Rattle.survey.specs.Places.{line_bytes, line_end, next_line, line_at, found_at, read_at}
use Rattle.survey.proofs.Separators.{before_short, before_at, ends_at_end, ends_found, ends_later, ends_not}
use Rattle.survey.proofs.Fronts.{Leads, leads, front_short, front_number_before, whole_front, read_none, read_whole, read_part}
use Rattle.survey.proofs.Fronts.{line_bad, line_unspaced, line_spaced, space_inside}
use Rattle.survey.proofs.Texts.{bytes_within, next_within}

module _ (text : List ℕ) (at : ℕ) where
  front_here : front_number (line_bytes text at) ≡ front_number (drop at text)
  unfolding line_bytes
  front_here = front_number_before (drop at text)

  -- what is read after a first number x
  abbrev second_read : ℤ → Read
  second_read x = found_at (named (Some x) (number_read (line_bytes text at))) text at

  -- ---- no number stands there

  module _ (none : front_number (drop at text) ≡ None) where
    pub first_none : found_at (Err Refusal.BadLine) text at ≡ read_at text at
    unfolding line_at
    first_none =
        ap (λ (l : Result Point Refusal). found_at l text at)
        (sym (line_bad (line_bytes text at) (front_here ∙ none)))

    pub second_none : (x : ℤ) → found_at (Err Refusal.BadLine) text at ≡ second_read x
    unfolding named
    second_none x =
        let l = line_bytes text at in rw (read_none l l (whole_front l) (front_here ∙ none))

  -- ---- a number stands there, and ends n bytes on

  module _ {z : ℤ} {n : ℕ} (some : front_number (drop at text) ≡ Some (record { value = z; end = n })) where
    number_there : Leads (line_bytes text at) z n
    number_there = leads (line_bytes text at) (front_here ∙ some)

    within : n ≤ length (line_bytes text at)
    within = omega (arith, number_there.ends, front_short (line_bytes text at))

    pub not_past : n ≤ length (drop at text)
    unfolding line_bytes
    not_past = omega (arith, within, before_short line_feed (drop at text))

    byte_after : get_or text (at + n) 0 ≡ get_or (drop at text) n 0
    byte_after = sym (get_or-drop at text n 0)

    -- a line that is not in form, read up to there
    pub refused_there : found_at (Err Refusal.BadLine) text (at + n)
        ≡ found_at (Err Refusal.BadLine) text at
    refused_there =
        ap (λ (k : ℕ). record { line = Err Refusal.BadLine; next = k })
        (next_within text at n within)

    -- ---- it is the first

    pub first_unspaced : get_or text (at + n) 0 ≢ space →
        found_at (Err Refusal.BadLine) text (at + n) ≡ read_at text at
    unfolding line_at line_bytes
    first_unspaced other =
        refused_there
        ∙ ap (λ (l : Result Point Refusal). found_at l text at)
        (sym (line_unspaced (line_bytes text at) number_there (λ e.
        other (byte_after
        ∙ sym (before_at line_feed (drop at text) n
        (space_inside (line_bytes text at) number_there e))
        ∙ e))))

    module _ (is_space : get_or text (at + n) 0 ≡ space) where
      inside : n < length (line_bytes text at)
      unfolding line_bytes
      inside =
          let b = sym byte_after ∙ is_space in
          ends_not line_feed (drop at text) n within (λ e. omega arith) (λ e. omega arith)

      pub space_there : at + n < length text
      unfolding line_bytes
      space_there =
          omega (arith, inside, before_short line_feed (drop at text), length-drop at text)

      byte_there : get_or (line_bytes text at) n 0 ≡ get_or text (at + n) 0
      unfolding line_bytes
      byte_there = before_at line_feed (drop at text) n inside ∙ sym byte_after

      pub first_spaced : found_at
          (named (Some z) (number_read (line_bytes text (at + n + 1)))) text (at + n + 1)
          ≡ read_at text at
      unfolding line_at
      first_spaced =
          let on : at + n + 1 ≡ at + (n + 1) = omega arith in
          let small : n + 1 ≤ length (line_bytes text at) = omega (arith, inside) in
          let spaced : get_or (line_bytes text at) n 0 ≡ space =
          byte_there ∙ is_space in
          rw (on, bytes_within text at (n + 1) small, next_within text at (n + 1) small)
          (ap (λ (l : Result Point Refusal). found_at l text at)
          (line_spaced (line_bytes text at) number_there spaced))

    -- ---- it is the second, after a first number x

    ends_line : n ≡ length (line_bytes text at) → line_end text at ≡ at + n
    unfolding line_end
    ends_line e = omega arith

    second_whole : (x : ℤ) {next : ℕ} → n ≡ length (line_bytes text at) →
        next ≡ next_line text at →
        record { line = Ok (record { x = x; y = z }); next = next } ≡ second_read x
    unfolding named
    second_whole x ends on = rw (read_whole (line_bytes text at) number_there ends, on)

    pub second_last : (x : ℤ) → length text ≤ at + n →
        record { line = Ok (record { x = x; y = z }); next = at + n } ≡ second_read x
    unfolding next_line line_bytes
    second_last x past =
        let ends : n ≡ length (line_bytes text at) =
        ends_at_end line_feed (drop at text) n within (omega (arith, length-drop at text)) in
        let stop = ends_line ends in
        second_whole x ends (rw (stop, le-ltb (at + n) (length text) past))

    module _ (x : ℤ) (more : at + n < length text) where
      pub second_fed : get_or text (at + n) 0 ≡ line_feed →
          record { line = Ok (record { x = x; y = z }); next = at + n + 1 } ≡ second_read x
      unfolding next_line line_bytes
      second_fed feed =
          let ends : n ≡ length (line_bytes text at) =
          ends_found line_feed (drop at text) n within (sym byte_after ∙ feed) in
          let stop = ends_line ends in
          second_whole x ends (rw (stop, lt-ltb (at + n) (length text) more))

      pub second_followed : get_or text (at + n) 0 ≢ line_feed →
          found_at (Err Refusal.BadLine) text (at + n) ≡ second_read x
      unfolding named line_bytes
      second_followed other =
          let rest : number_read (line_bytes text at) ≡ None =
          read_part (line_bytes text at) number_there
          (ends_later line_feed (drop at text) n within (omega (arith, length-drop at text))
          (λ e. other (byte_after ∙ e))) in
          refused_there ∙ rw rest
