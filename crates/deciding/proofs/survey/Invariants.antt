-- The loop of `deciding::survey`: the lines before the reader's place are decided.
use mathlib.Core.Path.{◌≡◌}
use Rattle.deciding.specs.Deciding.{Surveying}
use Rattle.deciding.proofs.survey.Given as goal

abbrev pub invariant-loop-line : goal.invariant-loop-line
invariant-loop-line l =
    (l.line-iterator.text.now ≡ l.fn.text)
    × Surveying l.fn.text l.map l.hashes l.answers l.lines l.line-iterator.at
