-- `reports::decide_lines` meets its contract: from the empty map on, with no hash set.
use Rattle.deciding.proofs.Decisions.{nothing_decided}
use Rattle.reports.proofs.decide_lines.Goals as goal

pub survey-lines-requires : goal.survey-lines-requires
survey-lines-requires c =
    rw (c.empty_map-map.ensures, c.empty-hashes.ensures) (nothing_decided _ _ c.requires)
