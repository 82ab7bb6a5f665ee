use Rattle.std.proofs.Common.{◌∙◌}
use Rattle.positions.proofs.WordLaws.{text_tested}
use Rattle.positions.proofs.words.is_word.Goals as goal

pub returns : goal.returns
returns c = c.eq.ensures ∙ text_tested c.args.word.now c.args.text.now
