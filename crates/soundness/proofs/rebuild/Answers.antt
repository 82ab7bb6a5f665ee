-- `soundness::rebuild` meets its contract: the map is built in the empty one.
use mathlib.Core.Path.{sym, ap, ◌∙◌}
use Rattle.std.specs.Prelude.{Option}
use Rattle.soundness.specs.Rebuilding.{rebuilt_in}
use Rattle.soundness.proofs.rebuild.Goals as goal

pub rebuild_in-requires : goal.rebuild_in-requires
rebuild_in-requires c = c.empty_map-map.ensures

pub returns-in_err-rebuild_in : goal.returns-in_err-rebuild_in
returns-in_err-rebuild_in c =
    c.from_residual.ensures
    ∙ sym (ap (λ (o : Option Unit). rebuilt_in o c.rebuild_in.new.map) c.in_err-rebuild_in.was)
    ∙ c.rebuild_in.ensures

pub returns : goal.returns
returns c =
    sym (ap (λ (o : Option Unit). rebuilt_in o c.rebuild_in.new.map) c.in_ok-rebuild_in.was) ∙ c.rebuild_in.ensures
