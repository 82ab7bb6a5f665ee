-- `listings::lowest_is_first` meets its contract: the first is compared with the others.
use Rattle.std.proofs.Common.{sym, ◌∙◌, ap}
use Rattle.model.specs.Outlines.{lowest_is_first}
use Rattle.listings.proofs.Listed.{lowest_of, lowest_none}
use Rattle.listings.proofs.lowest_is_first.Goals as goal

pub returns-in-Some : goal.returns-in-Some
returns-in-Some c =
    c.is_lowest.ensures ∙ lowest_of c.in-Some.first.now c.in-Some.others.now
    ∙ ap lowest_is_first (sym c.in-Some.ensures.cases.0)

pub returns-in-None : goal.returns-in-None
returns-in-None c = sym (lowest_none c.args.corners.now c.in-None.ensures.cases)
