-- The loop that prints pieces, in the order of this page: where it begins; a piece that has bytes is
-- not the last, and one that has none is; the report on a text.
use mathlib.Core.Path.{◌≡◌, ◌∙◌}
use mathlib.Core.Logic.{◌≢◌}
use mathlib.Core.List.{List, []}
use Prim.Native.Nat.{ℕ, ◌≤◌, ◌<◌}
use native.Mathlib.Omega.{arith}
use lib.ListN.{length}
use Rattle.std.specs.declared.result.Result.{Result}
use Rattle.std.specs.declared.result.Result.TheVariants.{Ok, Err}
use Rattle.std.specs.Result.{IsErr, OnOk}
use Rattle.reports.specs.declared.Summary.{Summary}
use Rattle.lines.specs.declared.positions.Piece.{Piece}
use Rattle.lines.specs.Lines.{line_count}
use Rattle.reports.specs.Summaries.{Fits, Decides}
use Rattle.reports.specs.Pieces.{WroteLines, Pieces, begun, continued}
use Rattle.reports.proofs.Wholes.{piece_whole, piece_last, piece_further, pieces_are_the_report}
use Rattle.model.specs.Report.{report}
use Rattle.outline.specs.Printing.{PrintsLines, PrintsReport}

-- as many bytes as the buffer of `print_lines` has
abbrev pub buffer_length : ℕ
buffer_length = 65_536

-- before each piece: the pieces so far, and a whole buffer
pub record Printing (answers : List ℕ) (d : Summary) (buffer : List ℕ) (from : ℕ) : Type 0 where
  pub bytes : List ℕ
  pub pieces : Pieces answers d from bytes
  pub inside : from ≤ line_count d.ends
  pub long : length buffer ≡ buffer_length

pub none_printed : (answers : List ℕ) (d : Summary) {buffer : List ℕ} →
    buffer_length ≡ length buffer → Printing answers d buffer 0
none_printed answers d e =
    record { bytes = []; pieces = begun; inside = omega arith; long = omega arith }

module _ {answers : List ℕ} {d : Summary} {buffer after : List ℕ} {from : ℕ} {r : Piece}
    (p : Printing answers d buffer from)
    (w : WroteLines answers d from buffer after r) where
  pub buffer_whole : length after ≡ buffer_length
  buffer_whole = piece_whole answers d w ∙ p.long

  pub one_printed : Printing answers d after r.next
  one_printed =
      record {
        bytes = _;
        pieces = continued p.pieces w;
        inside = w.whole p.inside;
        long = buffer_whole;
      }

  pub goes_further : r.length ≢ 0 → (from < r.next) × (r.next ≤ line_count d.ends)
  goes_further some = (piece_further answers d w some, one_printed.inside)

  -- a piece that has no bytes is the last
  pub all_printed : {A E : Type 0} (a : A) → Fits d → r.length ≡ 0 →
      PrintsLines {E = E} answers d r.next (Ok a)
  all_printed a f none =
      record {
        bytes = one_printed.bytes;
        pieces = one_printed.pieces;
        whole = piece_last answers d w f (omega (arith, p.long)) p.inside none;
      }

-- nothing is said of the end where a call failed
failed : {A E : Type 0} (P : Type 0) (r : Result A E) → IsErr r → OnOk r P
failed P (Ok a) e = absurd (let z : ◌≡◌ {A = ℕ} 0 1 = cc in omega arith)
failed P (Err x) e = tt

-- a piece that cannot be written is not counted
pub print_failed : {A E : Type 0} {answers : List ℕ} {d : Summary} {buffer : List ℕ} {from : ℕ} →
    Printing answers d buffer from → (r : Result A E) → IsErr r → PrintsLines answers d from r
print_failed {d = d} {from = from} p r e =
    record {
      bytes = p.bytes;
      pieces = p.pieces;
      whole = failed (from ≡ line_count d.ends) r e;
    }

-- pieces to the end are the report
pub report_printed : {A E : Type 0} {text answers : List ℕ} {d : Summary} {next : ℕ} {r : Result A E} →
    Decides text answers d → PrintsLines answers d next r → PrintsReport text next r
report_printed {A} {E} {text} {answers} {d} {next} {r} decides p =
    record {
      answers = answers;
      decided = d;
      prints = p;
      is_report = go r p.whole;
    }
  where
    go : (r : Result A E) → OnOk r (next ≡ line_count d.ends) → OnOk r (p.bytes ≡ report text)
    go (Ok a) e = pieces_are_the_report decides (rw e at p.pieces)
    go (Err x) e = tt
