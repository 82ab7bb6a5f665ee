-- `linking::put_between` meets its contract: what its calls ensure makes it up.
use Rattle.model.specs.Maps.{edge_link}
use Rattle.model.specs.Arrival.{with_point, spliced}
use Rattle.linking.proofs.put_between.Goals as goal

pub returns : goal.returns
unfolding spliced with_point edge_link
returns c = rw (c.put_point.ensures, c.freeing-note.ensures, c.splice.ensures.0, c.splice.ensures.1)
