-- `orbits::steps::walk` meets its contract: a walk begins with an edge step, all its moves left.
use mathlib.Core.Path.{ap, ◌∙◌}
use Rattle.orbits.specs.declared.Walker.{Walker}
use Rattle.orbits.specs.Links.{link_of}
use Rattle.orbits.specs.Walks.{edge_step, walk}
use Rattle.orbits.proofs.steps.walk.Goals as goal

pub returns : goal.returns
unfolding walk
returns c = let s = c.args in
    c.edge_step.ensures
    ∙ ap (λ (w : Walker). edge_step (link_of s.f.now) (link_of s.g.now) s.d s.n w.dart 0)
    c.starting_at.ensures
