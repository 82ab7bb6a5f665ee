-- The loops over the printed lines of a report, in the order of this page: the loop that adds up
-- their lengths; the loop that writes as many of them as a list holds. Each has its invariant, with
-- the laws of its start, of one line more and of its end.
use mathlib.Core.Path.{◌≡◌, refl, sym, ap, ◌∙◌}
use mathlib.Core.List.{List, ◌++◌}
use mathlib.Core.Logic.{⊎_elim}
use Prim.Native.Nat.{ℕ, suc, max, ◌+◌, ◌-◌, ◌*◌, ◌≤◌, ◌<◌}
use native.Mathlib.Omega.{arith}
use lib.ListN.{length, length-append}
use Rattle.std.specs.declared.option.Option.{Option}
use Rattle.std.specs.declared.option.Option.TheVariants.{Some, None}
use Rattle.finite.specs.Bounded.{lt_or_ge}
use Rattle.model.specs.Maps.{point_limit}
use Rattle.model.specs.Report.{text_limit}
use Rattle.printing.specs.Writing.{Room, PutAt}
use Rattle.printing.proofs.Overwriting.{wrote_none, wrote_as, wrote_then, wrote_length}
use Rattle.lines.specs.declared.positions.Ends.{Ends}
use Rattle.lines.specs.Lines.{report_line, lines_from, line_count}
use Rattle.lines.specs.Printing.{Printable, PutLines}
use Rattle.lines.proofs.ReportLines.{line_most, lines_none, lines_more, lines_most}

-- ---- the loop that adds up their lengths

-- no report has more lines than this
pub count_most : (ends : Option Ends) → Printable ends → line_count ends ≤ text_limit + 3
unfolding line_count
count_most None p = omega arith
count_most (Some e) p = omega (arith, p.lines_fit)

pub record Totalled (answers corners : List ℕ) (ends : Option Ends) (total j : ℕ) : Type 0 where
  pub is_length : total ≡ length (lines_from answers corners ends 0 j)
  pub in_order : j ≤ line_count ends

module _ (answers corners : List ℕ) (ends : Option Ends) where
  pub none_totalled : Totalled answers corners ends 0 0
  none_totalled =
      record {
        is_length = sym (ap length (lines_none answers corners ends 0));
        in_order =
            omega arith;
      }

  module _ {total j : ℕ} (t : Totalled answers corners ends total j) (h : j < line_count ends)
      (r : ℕ) (e : r ≡ length (report_line answers corners ends j)) where
    pub one_totalled : Totalled answers corners ends (total + r) (j + 1)
    one_totalled =
        let i : 0 + j ≡ j = omega arith in
        let s : j + 1 ≡ suc j = omega arith in
        record {
          is_length =
              omega (
                arith,
                ap (λ (k : ℕ). length (lines_from answers corners ends 0 k)) s,
                ap length (lines_more answers corners ends 0 j),
                length-append (lines_from answers corners ends 0 j)
                    (report_line answers corners ends (0 + j)),
                ap (λ (k : ℕ). length (report_line answers corners ends k)) i,
                t.is_length,
              );
          in_order = omega arith;
        }

    pub total_most : length corners ≤ point_limit → Printable ends →
        total + r ≤ line_most * (text_limit + 3)
    total_most few p =
        omega (
          arith,
          one_totalled.is_length,
          lines_most answers corners ends few (j + 1),
          count_most ends p,
        )

pub totalled_all : {answers corners : List ℕ} {ends : Option Ends} {total j count : ℕ} →
    Totalled answers corners ends total j → count ≡ line_count ends → count ≤ j →
    total ≡ length (lines_from answers corners ends 0 (line_count ends))
totalled_all {answers} {corners} {ends} {j = j} t c h =
    let e : j ≡ line_count ends = omega (arith, t.in_order) in
    t.is_length ∙ ap (λ (k : ℕ). length (lines_from answers corners ends 0 k)) e

-- ---- the loop that writes them

pub record Putting (answers corners : List ℕ) (ends : Option Ends) (from : ℕ) (lent now : List ℕ)
    (next end : ℕ) : Type 0 where
  pub wrote : PutAt lent 0 (lines_from answers corners ends from (next - from)) now end
  pub further : from ≤ next
  pub inside : end ≤ length lent
  pub long : length now ≡ length lent
  pub whole : from ≤ line_count ends → next ≤ line_count ends
  pub past : line_count ends < from → next ≡ from

module _ (answers corners : List ℕ) (ends : Option Ends) (from : ℕ) (lent : List ℕ) where
  pub none_put : Putting answers corners ends from lent lent from 0
  none_put =
      let e : from - from ≡ 0 = omega arith in
      record {
        wrote =
            wrote_as
            (ap (lines_from answers corners ends from) e ∙ lines_none answers corners ends from)
            (wrote_none lent 0);
        further = omega arith;
        inside = omega arith;
        long = refl;
        whole = λ h. h;
        past = λ h. refl;
      }

  module _ {now : List ℕ} {next end : ℕ}
      (p : Putting answers corners ends from lent now next end) where
    module _ (r : ℕ) (e : r ≡ length (report_line answers corners ends next)) where
      -- the line does not fit
      pub put_full : length now - end < r →
          PutLines answers corners ends from lent now (record { next = next; length = end })
      put_full h =
          record {
            wrote = p.wrote;
            further = p.further;
            inside = p.inside;
            whole = p.whole;
            full = λ l. omega (arith, p.long, p.inside);
          }

      module _ (fits : r ≤ length now - end) where
        pub put_room : Room now end (report_line answers corners ends next)
        put_room = record { room = omega (arith, p.long, p.inside) }

        one_more : lines_from answers corners ends from (next + 1 - from)
            ≡ lines_from answers corners ends from (next - from)
            ++ report_line answers corners ends next
        one_more =
            let s : next + 1 - from ≡ suc (next - from) = omega (arith, p.further) in
            let i : from + (next - from) ≡ next = omega (arith, p.further) in
            ap (lines_from answers corners ends from) s
            ∙ lines_more answers corners ends from (next - from)
            ∙ ap (λ (k : ℕ). lines_from answers corners ends from (next - from)
            ++ report_line answers corners ends k) i

        room_both : Room lent 0
            (lines_from answers corners ends from (next - from)
            ++ report_line answers corners ends next)
        room_both =
            record {
              room =
                  omega (
                    arith,
                    length-append (lines_from answers corners ends from (next - from))
                        (report_line answers corners ends next),
                    p.wrote.ends,
                    p.long,
                    p.inside,
                  );
            }

        pub put_next : {after : List ℕ} {end' : ℕ} → next < line_count ends →
            PutAt now end (report_line answers corners ends next) after end' →
            Putting answers corners ends from lent after (next + 1) end'
        put_next h w =
            let both = wrote_then p.wrote room_both w in
            record {
              wrote = wrote_as one_more both;
              further = omega (arith, p.further);
              inside = omega (arith, both.ends, room_both.room);
              long = wrote_length both room_both;
              whole = λ l. omega arith;
              past = λ l. absurd (omega (arith, p.further));
            }

    -- no line is left
    come_to : line_count ends ≤ next → next ≡ max (line_count ends) from
    come_to h =
        ⊎_elim
        (λ (l : line_count ends < from). omega (arith, p.past l))
        (λ (l : from ≤ line_count ends). omega (arith, p.whole l))
        (lt_or_ge (line_count ends) from)

    pub put_all : {last : ℕ} → line_count ends ≤ next → last ≡ max (line_count ends) from →
        PutLines answers corners ends from lent now (record { next = last; length = end })
    put_all h e =
        rw (e, ← come_to h)
        (record {
          wrote = p.wrote;
          further = p.further;
          inside = p.inside;
          whole = p.whole;
          full = λ l. absurd (omega arith);
        })
