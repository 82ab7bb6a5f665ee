-- What is decided is the report, in the order of this page: of a text that is too long; of any
-- other; a list with room for the report gets all of it; a piece goes further until the last;
-- pieces put together, from position 0 to the end, are the report. Document 01, "The text program".
use mathlib.Core.Path.{◌≡◌, refl, sym, ap, ◌∙◌}
use mathlib.Core.Logic.{◌≢◌, ⊎_elim}
use mathlib.Core.Bool.{Bool, true, false, cond}
use mathlib.Core.List.{List, ◌++◌}
use Prim.Native.Nat.{ℕ, suc, ◌+◌, ◌-◌, ◌≤◌, ◌<◌}
use native.Mathlib.Omega.{arith}
use lib.Dec.{ltb}
use lib.ListN.{length, take, length-append, length-take}
use lib.Seq.{take_at}
use Rattle.std.specs.declared.option.Option.{Option}
use Rattle.std.specs.declared.option.Option.TheVariants.{Some, None}
use Rattle.finite.specs.Tests.{same_or_not}
use Rattle.finite.specs.Bounded.{lt_or_ge}
use Rattle.finite.specs.Overwriting.{over, over_at, over_front}
use Rattle.model.specs.declared.Refusal.{Refusal}
use Rattle.model.specs.declared.Counts.{Counts}
use Rattle.model.specs.declared.Map.{Map}
use Rattle.model.specs.Maps.{point_limit, empty_map}
use Rattle.model.specs.Answers.{refused}
use Rattle.model.specs.Reading.{counts}
use Rattle.model.specs.Text.{lines}
use Rattle.model.specs.Report.{text_limit, printed, arrivals, report}
use Rattle.corners.specs.declared.listing.CornerList.{CornerList}
use Rattle.corners.specs.Listing.{ListsCorners, listed}
use Rattle.printing.proofs.Overwriting.{wrote_length}
use Rattle.printing.proofs.Reports.{closing_lines}
use Rattle.reports.specs.declared.Summary.{Summary}
use Rattle.lines.specs.declared.positions.Ends.{Ends}
use Rattle.lines.specs.declared.positions.Piece.{Piece}
use Rattle.lines.specs.Lines.{title, report_line, lines_from, line_count}
use Rattle.reports.specs.Summaries.{corners_in, report_of, Fits, Decides}
use Rattle.lines.specs.Printing.{PutLines}
use Rattle.reports.specs.Pieces.{WroteLines, line_limit, Pieces, begun, continued}
use Rattle.deciding.specs.Deciding.{Surveys}
use Rattle.lines.proofs.ReportLines.{report_line_most, lines_more, lines_none, lines_joined, report_short, report_long}

-- ---- a text that is too long

pub decides_long : {text answers : List ℕ} {d : Summary} → ltb text_limit (length text) ≡ true →
    d.ends ≡ None → length answers ≡ text_limit → Fits d → Decides text answers d
unfolding report report_of
decides_long {text} {answers} {d} h long whole fits =
    record {
      whole = whole;
      fits = fits;
      is_report =
          report_long answers (corners_in d) d.ends long
          ∙ ap (λ (b : Bool). title
          ++ cond b (printed (refused Refusal.LongText)) (arrivals empty_map 0 (lines text)))
          (sym h);
    }

-- ---- any other text

module _ {text answers : List ℕ} {m : Map} {n : ℕ} {list : CornerList} {c : Counts}
    (surveys : Surveys text m answers n) (lists : ListsCorners m list) (numbers : c ≡ counts m)
    (short : ltb text_limit (length text) ≡ false) where
  abbrev decided : Summary
  decided = record { corners = list; ends = Some (record { lines = n; counts = c }) }

  pub decides_short : Decides text answers decided
  unfolding report report_of
  decides_short =
      record {
        whole = surveys.whole;
        fits =
            record {
              corners_whole = lists.whole;
              corners_fit = lists.fits;
              lines_fit = surveys.lines_fit;
            };
        is_report =
            report_short answers (listed list) decided.ends refl
            ∙ ap (λ (l : List ℕ). title ++ l)
            (rw (lists.members, numbers, ← closing_lines m) surveys.together)
            ∙ ap (λ (b : Bool). title
            ++ cond b (printed (refused Refusal.LongText)) (arrivals empty_map 0 (lines text)))
            (sym short);
      }

-- ---- writing all of it

module _ {answers corners : List ℕ} {ends : Option Ends} {lent after : List ℕ} {r : Piece}
    (p : PutLines answers corners ends 0 lent after r)
    (room : length (lines_from answers corners ends 0 (line_count ends)) ≤ length lent) where
  -- with room for all of it nothing is left
  nothing_left : r.next ≡ line_count ends
  nothing_left =
      ⊎_elim
      (λ (h : r.next < line_count ends).
      let k = line_count ends - suc r.next in
      let e : suc r.next + k ≡ line_count ends = omega arith in
      let z : r.next - 0 ≡ r.next = omega arith in
      let i : 0 + r.next ≡ r.next = omega arith in
      absurd
      (omega (
        arith,
        p.full h,
        p.wrote.ends,
        ap (λ (j : ℕ). length (lines_from answers corners ends 0 j)) z,
        ap (λ (j : ℕ). length (report_line answers corners ends j)) i,
        ap length (lines_more answers corners ends 0 r.next),
        length-append (lines_from answers corners ends 0 r.next)
            (report_line answers corners ends (0 + r.next)),
        ap (λ (j : ℕ). length (lines_from answers corners ends 0 j)) e,
        ap length (lines_joined answers corners ends 0 (suc r.next) k),
        length-append (lines_from answers corners ends 0 (suc r.next))
            (lines_from answers corners ends (0 + suc r.next) k),
      )))
      (λ (h : line_count ends ≤ r.next). omega (arith, p.whole (omega arith)))
      (lt_or_ge r.next (line_count ends))

  pub all_written : after ≡ over (lines_from answers corners ends 0 (line_count ends)) lent
  all_written =
      let e : r.next - 0 ≡ line_count ends = omega (arith, nothing_left) in
      rw e at p.wrote.holds
      ∙ over_front lent (lines_from answers corners ends 0 (line_count ends))

-- ---- what was decided, lent as lists

module _ {d : Summary} (f : Fits d) where
  listed_length : d.corners.count ≡ length (corners_in d)
  listed_length =
      omega (arith, length-take d.corners.count d.corners.points, f.corners_whole, f.corners_fit)

  pub corners_few : length (corners_in d) ≤ point_limit
  corners_few = omega (arith, listed_length, f.corners_fit)

-- ---- piece by piece

module _ (answers : List ℕ) (d : Summary) {from : ℕ} {lent after : List ℕ} {r : Piece}
    (p : WroteLines answers d from lent after r) where
  abbrev piece : ℕ → List ℕ
  piece k = lines_from answers (corners_in d) d.ends from k

  -- the list is as long as before
  pub piece_whole : length after ≡ length lent
  piece_whole = wrote_length p.wrote (record { room = omega (arith, p.wrote.ends, p.inside) })

  -- a piece that has bytes goes further
  pub piece_further : r.length ≢ 0 → from < r.next
  piece_further n =
      ⊎_elim
      (λ (l : from < r.next). l)
      (λ (l : r.next ≤ from).
      let e : r.next - from ≡ 0 = omega arith in
      absurd
      (n (omega (
        arith,
        p.wrote.ends,
        ap (λ (k : ℕ). length (piece k)) e,
        ap length (lines_none answers (corners_in d) d.ends from),
      ))))
      (lt_or_ge from r.next)

  -- and one that has none is the last, where the list has room for any one line
  pub piece_last : Fits d → line_limit ≤ length lent → from ≤ line_count d.ends → r.length ≡ 0 →
      r.next ≡ line_count d.ends
  piece_last f room h none =
      ⊎_elim
      (λ (l : r.next < line_count d.ends).
      absurd
      (omega (
        arith,
        p.full l,
        report_line_most answers (corners_in d) d.ends (corners_few f) r.next,
      )))
      (λ (l : line_count d.ends ≤ r.next). omega (arith, p.whole h))
      (lt_or_ge r.next (line_count d.ends))

  -- so a list with room for any one line always advances
  pub piece_advances : Fits d → line_limit ≤ length lent → from < line_count d.ends → from < r.next
  piece_advances f room h =
      ⊎_elim
      (λ (e : r.length ≡ 0). omega (arith, piece_last f room (omega arith) e))
      piece_further
      (same_or_not r.length 0)

  -- its bytes
  piece_bytes : take r.length after ≡ piece (r.next - from)
  unfolding over_at
  piece_bytes =
      let e : r.length ≡ length (piece (r.next - from)) = omega (arith, p.wrote.ends) in
      ap (take r.length) p.wrote.holds
      ∙ take_at (piece (r.next - from)) _ r.length (sym e)

pub pieces_are : {answers : List ℕ} {d : Summary} {j : ℕ} {s : List ℕ} → Pieces answers d j s →
    s ≡ lines_from answers (corners_in d) d.ends 0 j
pieces_are {answers} {d} begun = sym (lines_none answers (corners_in d) d.ends 0)
pieces_are {answers} {d} (continued {from = from} {r = r} before p) =
    let e : from + (r.next - from) ≡ r.next = omega (arith, p.further) in
    let z : from ≡ 0 + from = omega arith in
    (λ t. pieces_are before t ++ piece_bytes answers d p t)
    ∙ ap (λ (i : ℕ). lines_from answers (corners_in d) d.ends 0 from
    ++ lines_from answers (corners_in d) d.ends i (r.next - from)) z
    ∙ lines_joined answers (corners_in d) d.ends 0 from (r.next - from)
    ∙ ap (lines_from answers (corners_in d) d.ends 0) e

-- the pieces from position 0 to the end are the report on the text
pub pieces_are_the_report : {text answers : List ℕ} {d : Summary} {s : List ℕ} →
    Decides text answers d → Pieces answers d (line_count d.ends) s → s ≡ report text
unfolding report_of
pieces_are_the_report decides pieces = pieces_are pieces ∙ decides.is_report
