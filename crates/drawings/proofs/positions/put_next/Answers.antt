-- `drawings::positions::put_next` meets its contract: a comma, a space and a position.
use Rattle.model.specs.Spelling.{bytes}
use Rattle.printing.proofs.Overwriting.{wrote_then}
use Rattle.drawings.specs.Positions.{next_text}
use Rattle.drawings.proofs.positions.put_next.Goals as goal

pub returns : goal.returns
unfolding next_text bytes
returns c = wrote_then c.put_word-position.ensures c.requires c.put_position.ensures
