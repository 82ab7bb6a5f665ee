-- A reader takes the line at its place and moves on, or has come to the end of the text and stays.
use Rattle.std.proofs.Common.{ap, sym, ◌∙◌, ℕ}
use Rattle.survey.proofs.Texts.{end_stays, next_nearer}
use Rattle.survey.proofs.reader.ReaderIterator.next.Goals as goal

pub returns-then-at_end-clause-steps : goal.returns-then-at_end-clause-steps
returns-then-at_end-clause-steps c =
    let r = c.args.self.now in
    let ended = sym c.at_end.ensures ∙ c.if-at_end.true in
    (rw ended, ap (λ (at : ℕ). record { text = r.text; at = at }) (sym (end_stays r.text.now r.at ended)))

pub returns-else-at_end-clause-steps : goal.returns-else-at_end-clause-steps
returns-else-at_end-clause-steps c =
    let r = c.args.self.now in
    (rw (sym c.at_end.ensures ∙ c.if-at_end.false, c.next_line.ensures.line), c.next_line.ensures.reader)

pub returns-else-at_end-clause-goes : goal.returns-else-at_end-clause-goes
returns-else-at_end-clause-goes c =
    let r = c.args.self.now in
    let nearer = next_nearer r.text.now r.at (sym c.at_end.ensures ∙ c.if-at_end.false) in
    record {
      on = λ finite. (tt, tt, rw c.next_line.ensures.reader nearer);
      keeps = tt;
      rests = λ finite. tt;
    }
