-- The report's map is that of the list of offers that its lines make, and its arrivals are those of
-- the history, in the order of this page: one line more; all lines; the report. So demand 3 speaks
-- of every report.
use mathlib.Core.Path.{◌≡◌, refl, sym, ap, ◌∙◌}
use mathlib.Core.Bool.{Bool, cond}
use mathlib.Core.List.{List, [], ◌∷◌, ◌++◌, append_assoc, append-nil, map-append}
use Prim.Native.Nat.{ℕ, suc}
use borrow.Author.Tests.{le-ltb}
use lib.ListN.{length}
use Rattle.std.specs.declared.result.Result.{Result}
use Rattle.std.specs.declared.result.Result.TheVariants.{Ok, Err}
use Rattle.model.specs.declared.Refusal.{Refusal}
use Rattle.model.specs.declared.Point.{Point}
use Rattle.model.specs.declared.Map.{Map}
use Rattle.model.specs.declared.Arrival.{Arrival}
use Rattle.model.specs.declared.Offered.{Offered}
use Rattle.model.specs.Maps.{empty_map}
use Rattle.model.specs.Answers.{refused, arrival_of}
use Rattle.model.specs.Offers as offers
use Rattle.model.specs.Offers.{offer}
use Rattle.model.specs.History.{Entry, Run, extended_by, extended, run_from, run}
use Rattle.model.specs.Text.{line_read, lines}
use Rattle.model.specs.Report.{text_limit, printed, offer_line, closing, arrivals, report}
use Rattle.hull.proofs.History.{always_balanced}
use Rattle.printing.specs.Printing.{arrival_line}
use Rattle.lines.specs.Lines.{title}
use Rattle.reports.specs.Histories.{with_named, points_named, answers_on, map_after, numbered, accepted_in, arrivals_of, ReportsHistory}

-- a list of offers that came to the map m, with these answers more
record Follows (r : Run) (m : Map) (answers : List (Result Arrival Refusal)) (after : Run) : Type 0 where
  same_map : after.map ≡ m
  same_arrivals : arrivals_of after.history ≡ arrivals_of r.history ++ accepted_in answers

-- ---- one line more

-- the map of a run goes on as the offer gives it
pub extended_map : (r : Run) (p : Point) → (extended r p).map ≡ offers.map_after r.map (offer r.map p)
unfolding extended extended_by offers.map_after
extended_map r p = go (offer r.map p)
  where
    go : (o : Result Offered Refusal) → (extended_by r p o).map ≡ offers.map_after r.map o
    go (Ok o) = refl
    go (Err x) = refl

one_arrival : (r : Run) (p : Point) (later : List (Result Arrival Refusal)) →
    arrivals_of (extended r p).history ++ accepted_in later
    ≡ arrivals_of r.history ++ accepted_in (arrival_of (offer r.map p) ∷ later)
unfolding extended extended_by accepted_in arrival_of
one_arrival r p later = go (offer r.map p)
  where
    go : (o : Result Offered Refusal) →
        arrivals_of (extended_by r p o).history ++ accepted_in later
        ≡ arrivals_of r.history ++ accepted_in (arrival_of o ∷ later)
    go (Ok o) =
        let entry : Entry = record { before = r.map; offered = p; arrival = o.arrival } in
        ap (λ (l : List Arrival). l ++ accepted_in later)
        (map-append (λ (e : Entry). e.arrival) r.history (entry ∷ []))
        ∙ append_assoc (arrivals_of r.history) (o.arrival ∷ []) (accepted_in later)
    go (Err x) = refl

-- ---- all lines

follows : (r : Run) (ls : List (List ℕ)) →
    Follows r (map_after r.map ls) (answers_on r.map ls) (run_from r (points_named ls))
unfolding run_from points_named map_after answers_on accepted_in offer_line arrival_of offers.map_after
follows r [] =
    record { same_map = refl; same_arrivals = sym (append-nil (arrivals_of r.history)) }
follows r (l ∷ ls) = go (line_read l) (λ q. follows q ls)
  where
    go : (line : Result Point Refusal) →
        ((q : Run) →
        Follows q (map_after q.map ls) (answers_on q.map ls)
        (run_from q (points_named ls))) →
        Follows r (map_after (offers.map_after r.map (offer_line r.map line)) ls)
        (arrival_of (offer_line r.map line) ∷ answers_on (offers.map_after r.map (offer_line r.map line)) ls)
        (run_from r (with_named line (points_named ls)))
    go (Ok p) rest =
        let f = rest (extended r p) in
        let m = extended_map r p in
        record {
          same_map = f.same_map ∙ ap (λ (n : Map). map_after n ls) m;
          same_arrivals =
              f.same_arrivals
              ∙ ap (λ (n : Map). arrivals_of (extended r p).history ++ accepted_in (answers_on n ls)) m
              ∙ one_arrival r p (answers_on (offers.map_after r.map (offer r.map p)) ls);
        }
    go (Err x) rest =
        let f = rest r in
        record { same_map = f.same_map; same_arrivals = f.same_arrivals }

from_start : (ls : List (List ℕ)) →
    Follows (record { map = empty_map; history = [] }) (map_after empty_map ls)
    (answers_on empty_map ls)
    (run (points_named ls))
unfolding run
from_start ls = follows (record { map = empty_map; history = [] }) ls

-- ---- the report

arrivals_numbered : (m : Map) (n : ℕ) (ls : List (List ℕ)) →
    arrivals m n ls ≡ numbered n (answers_on m ls) ++ closing (map_after m ls)
unfolding arrivals arrival_line numbered answers_on map_after
arrivals_numbered m n [] = refl
arrivals_numbered m n (l ∷ ls) =
    let o = offer_line m (line_read l) in
    let after = offers.map_after m o in
    ap (λ (s : List ℕ). arrival_line n (arrival_of o) ++ s) (arrivals_numbered after (suc n) ls)
    ∙ sym (append_assoc (arrival_line n (arrival_of o)) (numbered (suc n) (answers_on after ls)) _)

pub reports_history : (text : List ℕ) → ReportsHistory text
unfolding report
reports_history text =
    let f = from_start (lines text) in
    record {
      is_report = λ short.
          ap (λ (b : Bool). title
          ++ cond b (printed (refused Refusal.LongText)) (arrivals empty_map 0 (lines text)))
          (le-ltb text_limit (length text) short)
          ∙ ap (λ (s : List ℕ). title ++ s)
          (arrivals_numbered empty_map 0 (lines text)
          ∙ ap (λ (m : Map). numbered 0 (answers_on empty_map (lines text)) ++ closing m)
          (sym f.same_map));
      same_arrivals = sym f.same_arrivals;
      balanced = always_balanced (points_named (lines text));
    }
