-- `printing::writing::put_byte` meets its contract: it is one store.
use Rattle.printing.proofs.Overwriting.{wrote_byte}
use Rattle.printing.proofs.writing.put_byte.Goals as goal

pub returns : goal.returns
returns c = wrote_byte c.requires
