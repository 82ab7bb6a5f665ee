use Rattle.std.proofs.Common.{◌∙◌}
use Rattle.positions.proofs.WordLaws.{word_tested}
use Rattle.positions.proofs.words.starts_with.Goals as goal

pub returns : goal.returns
returns c = c.starts_with.ensures.value ∙ word_tested c.args.word.now c.args.text.now
