-- `engine::files::save` meets its contract: the map is checked, then the room, and then its bytes
-- are written.
use mathlib.Core.Path.{ap, ◌∙◌}
use native.Mathlib.Omega.{arith}
use Rattle.finite.specs.Overwriting.{over}
use Rattle.model.specs.declared.Map.{Map}
use Rattle.model.specs.Saved.{saved}
use Rattle.saved.proofs.Places.{length_saved}
use Rattle.deciding.proofs.Verdicts.{passed_up}
use Rattle.engine.proofs.Rules.{checked_map}
use Rattle.engine.proofs.Entries.{rule_refused, short_refused, result_written}
use Rattle.engine.proofs.files.save.Goals as goal

pub returns-in_err-sound : goal.returns-in_err-sound
returns-in_err-sound c =
    rw (passed_up _ _ c.from_residual.ensures.1) (rule_refused c.in_err-sound.ensures)

pub saved_length-length-requires : goal.saved_length-length-requires
saved_length-length-requires c = (checked_map _ c.in_ok-sound.ensures.1).links.fits

pub returns-then-lent-length : goal.returns-then-lent-length
returns-then-lent-length c =
    short_refused c.in_ok-sound.ensures.1
    (omega (arith, length_saved c.args.map.now, c.saved_length-length.ensures, c.if-lent-length.true))

pub returns : goal.returns
returns c =
    result_written c.in_ok-sound.ensures.1
    (omega (arith, length_saved c.args.map.now, c.saved_length-length.ensures))
    (omega (arith, length_saved c.args.map.now, c.saved_length-length.ensures, c.if-lent-length.false))
    (c.write_map.ensures
    ∙ ap (λ (m : Map). over (saved m) c.args.lent.now) c.in_ok-sound.ensures.0)
