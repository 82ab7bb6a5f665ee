-- `orbits::part` meets its contract: the visit begins with no dart, so its queue holds just what is
-- reached.
use mathlib.Core.Path.{◌∙◌}
use Rattle.orbits.specs.Links.{link_of}
use Rattle.orbits.proofs.Parts.{closed_none, visited_set}
use Rattle.orbits.proofs.part.Goals as goal

pub visit-requires : goal.visit-requires
visit-requires c = record {
  within = c.requires;
  closed = closed_none c.empty-queue.result c.empty-queue.ensures (link_of c.args.f.now) (link_of c.args.g.now);
}

pub returns : goal.returns
returns c = c.darts.ensures ∙ visited_set c.empty-queue.ensures c.requires c.visit.ensures
