-- `reports::decide` meets its contract: a text that is too long is not read, and any other is
-- decided line by line.
use mathlib.Core.Path.{refl, sym, ◌∙◌}
use native.Mathlib.Omega.{arith}
use borrow.Author.Tests.{ltb-false}
use Rattle.reports.proofs.Wholes.{decides_long, decides_short}
use Rattle.reports.proofs.decide.Goals as goal

pub returns-then-is_too_long : goal.returns-then-is_too_long
returns-then-is_too_long c =
    decides_long (sym c.is_too_long.ensures ∙ c.if-is_too_long.true) refl c.requires
    (record { corners_whole = refl; corners_fit = omega arith; lines_fit = tt })

pub decide_lines-lines-requires : goal.decide_lines-lines-requires
decide_lines-lines-requires c =
    record {
      short = ltb-false _ _ (sym c.is_too_long.ensures ∙ c.if-is_too_long.false);
      whole = c.requires;
    }

pub returns : goal.returns
returns c =
    decides_short c.decide_lines-lines.ensures c.corners_of-corners.ensures
    c.counts_of-counts.ensures (sym c.is_too_long.ensures ∙ c.if-is_too_long.false)
