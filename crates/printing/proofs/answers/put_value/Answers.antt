-- `printing::answers::put_value` meets its contract: a space, then the digits.
use Rattle.printing.proofs.Overwriting.{wrote_then}
use Rattle.printing.proofs.answers.put_value.Goals as goal

pub returns : goal.returns
returns c = wrote_then c.put_byte-digits.ensures c.requires c.put_natural.ensures
