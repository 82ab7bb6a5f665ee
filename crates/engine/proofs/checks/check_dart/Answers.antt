-- `engine::checks::check_dart` meets its contract: one rule after the other.
use mathlib.Core.Path.{ap}
use mathlib.Core.Bool.{not}
use Rattle.deciding.proofs.Verdicts.{passed_up}
use Rattle.engine.proofs.Rules.{tested, first_refuses, first_serves}
use Rattle.engine.proofs.Entries.{rule_found, rule_passed}
use Rattle.engine.proofs.checks.check_dart.Goals as goal

pub returns-in_err-sound : goal.returns-in_err-sound
returns-in_err-sound c =
    rw (passed_up _ _ c.from_residual.ensures.1) (first_refuses _ _ _ _ c.in_err-sound.ensures)

pub returns-then-not-is_present : goal.returns-then-not-is_present
returns-then-not-is_present c =
    first_serves _ _ _ _ c.in_ok-sound.ensures.1
    (rule_found _ (tested c.is_present.ensures (ap not c.if-not-is_present.true)))

pub returns : goal.returns
returns c = (
  c.in_ok-sound.ensures.0,
  first_serves _ _ _ _ c.in_ok-sound.ensures.1
      (rule_passed _ (tested c.is_present.ensures (ap not c.if-not-is_present.false))),
)
