-- The printed lines of a report, in the order of this page: each by its position; how long one is
-- at most; those from a position on, and one more; two pieces are one; all of them are the report.
-- Document 01, "The text program".
use mathlib.Core.Path.{◌≡◌, refl, sym, ap, ◌∙◌}
use mathlib.Core.Logic.{◌≢◌}
use mathlib.Core.Bool.{Bool, true, false, cond}
use mathlib.Core.List.{List, [], ◌++◌, flatten, append_assoc, append-nil}
use Prim.Native.Nat.{ℕ, zero, suc, ◌+◌, ◌-◌, ◌*◌, ◌≤◌, ◌<◌}
use native.Mathlib.Nat.{add-zero, add-suc, add_assoc}
use native.Mathlib.Omega.{arith}
use borrow.Author.Tests.{lt-ltb, le-ltb, eq-eqb, ne_eqb}
use lib.Dec.{ltb, eqb}
use lib.ListN.{length, get_or, length-append}
use Rattle.std.specs.declared.option.Option.{Option}
use Rattle.std.specs.declared.option.Option.TheVariants.{Some, None}
use Rattle.finite.specs.Bounded.{table, table_onto}
use Rattle.model.specs.declared.Refusal.{Refusal}
use Rattle.model.specs.declared.Counts.{Counts}
use Rattle.model.specs.Spelling.{bytes}
use Rattle.model.specs.Maps.{point_limit}
use Rattle.model.specs.Answers.{refused}
use Rattle.model.specs.Report.{printed}
use Rattle.printing.specs.Printing.{answer_line, values_spaced}
use Rattle.printing.proofs.Values.{spaced_length}
use Rattle.printing.proofs.Printed.{line_length, refused_most, arrival_line_most}
use Rattle.lines.specs.declared.positions.Ends.{Ends}
use Rattle.lines.specs.Packing.{unpacked}
use Rattle.lines.specs.Lines.{title, answer_at, answer_lines, counts_values, line_after, report_line}
use Rattle.lines.specs.Lines.{lines_from, line_count}
use Rattle.finite.specs.Bounded.{flatten_more}

-- as many bytes as a printed line takes at most
abbrev pub line_most : ℕ
line_most = 10_760

module _ (answers corners : List ℕ) (ends : Option Ends) where
  -- ---- by position

  module _ (j : ℕ) where
    pub title_is : j ≡ 0 → title ≡ report_line answers corners ends j
    unfolding report_line
    title_is e = rw (eq-eqb j 0 e)

    module _ (later : j ≢ 0) where
      pub long_is : ends ≡ None → printed (refused Refusal.LongText) ≡ report_line answers corners ends j
      unfolding report_line line_after
      long_is e = rw (ne_eqb j 0 later, e)

      module _ {e : Ends} (short : ends ≡ Some e) where
        pub answer_is : j - 1 < e.lines → answer_at answers (j - 1) ≡ report_line answers corners ends j
        unfolding report_line line_after
        answer_is h = rw (ne_eqb j 0 later, short, lt-ltb (j - 1) e.lines h)

        module _ (past : e.lines ≤ j - 1) where
          pub corners_is : j - 1 ≡ e.lines →
              answer_line (bytes "corners") corners ≡ report_line answers corners ends j
          unfolding report_line line_after
          corners_is l =
              rw (ne_eqb j 0 later, short, le-ltb (j - 1) e.lines past, eq-eqb (j - 1) e.lines l)

          pub counts_is : j - 1 ≢ e.lines →
              answer_line (bytes "counts") (counts_values e.counts)
              ≡ report_line answers corners ends j
          unfolding report_line line_after
          counts_is n =
              rw (ne_eqb j 0 later, short, le-ltb (j - 1) e.lines past, ne_eqb (j - 1) e.lines n)

  -- ---- how long a line is

  pub corners_length : (r : ℕ) → r ≡ length (values_spaced corners) →
      8 + r ≡ length (answer_line (bytes "corners") corners)
  unfolding bytes
  corners_length r e = omega (arith, line_length (bytes "corners") corners)

  pub counts_length : (c : Counts) (r : ℕ) → r ≡ length (values_spaced (counts_values c)) →
      7 + r ≡ length (answer_line (bytes "counts") (counts_values c))
  unfolding bytes
  counts_length c r e = omega (arith, line_length (bytes "counts") (counts_values c))

  corners_most : length corners ≤ point_limit →
      length (answer_line (bytes "corners") corners) ≤ line_most
  unfolding bytes
  corners_most few = omega (arith, line_length (bytes "corners") corners, spaced_length corners)

  counts_most : (c : Counts) → length (answer_line (bytes "counts") (counts_values c)) ≤ line_most
  unfolding bytes
  counts_most c =
      omega (arith, line_length (bytes "counts") (counts_values c), spaced_length (counts_values c))

  line_after_most : length corners ≤ point_limit → (o : Option Ends) (i : ℕ) →
      length (line_after answers corners o i) ≤ line_most
  unfolding line_after
  line_after_most few None i = omega (arith, refused_most Refusal.LongText)
  line_after_most few (Some e) i = go (ltb i e.lines) (eqb i e.lines)
    where
      go : (b c : Bool) →
          length (cond b (answer_at answers i)
          (cond c (answer_line (bytes "corners") corners)
          (answer_line (bytes "counts") (counts_values e.counts)))) ≤ line_most
      go true c = omega (arith, arrival_line_most i (unpacked (get_or answers i 0)))
      go false true = corners_most few
      go false false = counts_most e.counts

  pub report_line_most : length corners ≤ point_limit → (j : ℕ) →
      length (report_line answers corners ends j) ≤ line_most
  unfolding report_line bytes
  report_line_most few j = go (eqb j 0)
    where
      go : (b : Bool) → length (cond b title (line_after answers corners ends (j - 1))) ≤ line_most
      go true = omega arith
      go false = line_after_most few ends (j - 1)

  -- ---- lines from a position on

  pub lines_none : (j : ℕ) → lines_from answers corners ends j 0 ≡ []
  unfolding lines_from flatten table table_onto
  lines_none j = refl

  pub lines_more : (j k : ℕ) →
      lines_from answers corners ends j (suc k)
      ≡ lines_from answers corners ends j k ++ report_line answers corners ends (j + k)
  unfolding lines_from
  lines_more j k = flatten_more k (λ i. report_line answers corners ends (j + i))

  pub lines_most : length corners ≤ point_limit → (k : ℕ) →
      length (lines_from answers corners ends 0 k) ≤ line_most * k
  lines_most few zero = omega (arith, ap length (lines_none 0))
  lines_most few (suc k) =
      omega (
        arith,
        ap length (lines_more 0 k),
        length-append (lines_from answers corners ends 0 k)
            (report_line answers corners ends (0 + k)),
        lines_most few k,
        report_line_most few (0 + k),
      )

  -- two pieces, the second from where the first ends
  pub lines_joined : (i j k : ℕ) →
      lines_from answers corners ends i j ++ lines_from answers corners ends (i + j) k
      ≡ lines_from answers corners ends i (j + k)
  lines_joined i j zero =
      ap (λ (l : List ℕ). lines_from answers corners ends i j ++ l) (lines_none (i + j))
      ∙ append-nil _
      ∙ ap (lines_from answers corners ends i) (sym (add-zero j))
  lines_joined i j (suc k) =
      ap (λ (l : List ℕ). lines_from answers corners ends i j ++ l) (lines_more (i + j) k)
      ∙ sym (append_assoc (lines_from answers corners ends i j)
      (lines_from answers corners ends (i + j) k) _)
      ∙ (λ t. lines_joined i j k t ++ report_line answers corners ends (add_assoc i j k t))
      ∙ sym (lines_more i (j + k))
      ∙ ap (lines_from answers corners ends i) (sym (add-suc j k))

  -- ---- the whole report

  module _ {e : Ends} (short : ends ≡ Some e) where
    answer_next : (k : ℕ) → k < e.lines →
        answer_at answers k ≡ report_line answers corners ends (0 + suc k)
    answer_next k h =
        let same : suc k - 1 ≡ k = omega arith in
        let i : suc k ≡ 0 + suc k = omega arith in
        ap (answer_at answers) (sym same) ∙ answer_is (suc k) (λ z. omega arith) short (omega arith)
        ∙ ap (report_line answers corners ends) i

    count_short : line_count ends ≡ suc (suc (suc e.lines))
    unfolding line_count
    count_short = rw short (omega arith)

    -- the first line and the answers before line k
    lines_to : (k : ℕ) → k ≤ e.lines →
        lines_from answers corners ends 0 (suc k) ≡ title ++ answer_lines answers k
    unfolding answer_lines flatten table table_onto
    lines_to zero h =
        lines_more 0 0 ∙ ap (λ (l : List ℕ). l ++ report_line answers corners ends 0) (lines_none 0)
        ∙ sym (title_is 0 refl) ∙ sym (append-nil title)
    lines_to (suc k) h =
        lines_more 0 (suc k)
        ∙ (λ t. lines_to k (omega arith) t ++ sym (answer_next k (omega arith)) t)
        ∙ append_assoc title (answer_lines answers k) (answer_at answers k)
        ∙ ap (λ (l : List ℕ). title ++ l) (sym (flatten_more k (answer_at answers)))

    pub report_short :
        lines_from answers corners ends 0 (line_count ends)
        ≡ title ++ (answer_lines answers e.lines ++
        (answer_line (bytes "corners") corners
        ++ answer_line (bytes "counts") (counts_values e.counts)))
    report_short =
        let n = e.lines in
        ap (lines_from answers corners ends 0) count_short
        ∙ lines_more 0 (suc (suc n))
        ∙ (λ t. (lines_more 0 (suc n)
        ∙ (λ u. lines_to n (omega arith) u
        ++ sym (corners_is (0 + suc n) (λ z. omega arith) short (omega arith) (omega arith)) u)) t
        ++ sym (counts_is (0 + suc (suc n)) (λ z. omega arith) short (omega arith)
        (λ z. omega arith)) t)
        ∙ append_assoc (title ++ answer_lines answers n) (answer_line (bytes "corners") corners) _
        ∙ append_assoc title (answer_lines answers n) _

  count_long : ends ≡ None → line_count ends ≡ 2
  unfolding line_count
  count_long long = rw long

  pub report_long : ends ≡ None →
      lines_from answers corners ends 0 (line_count ends)
      ≡ title ++ printed (refused Refusal.LongText)
  report_long long =
      ap (lines_from answers corners ends 0) (count_long long)
      ∙ lines_more 0 1
      ∙ (λ t. (lines_more 0 0
      ∙ ap (λ (l : List ℕ). l ++ report_line answers corners ends 0) (lines_none 0)
      ∙ sym (title_is 0 refl)) t
      ++ sym (long_is (0 + 1) (λ z. omega arith) long) t)
