-- `engine::texts::read_line` meets its contract.
use mathlib.Core.Path.{refl}
use Rattle.model.specs.Answers.{line_answer}
use Rattle.model.specs.Text.{line_call, line_read}
use Rattle.model.proofs.Answers.{answered}
use Rattle.engine.proofs.texts.read_line.Goals as goal

pub returns : goal.returns
unfolding line_read line_answer
returns c = answered (line_call _) (λ x. refl) c.read_line.ensures
