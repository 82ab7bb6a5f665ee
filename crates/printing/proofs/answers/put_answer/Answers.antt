-- `printing::answers::put_answer` meets its contract: the word, its values, then a line feed.
use Rattle.printing.specs.Writing.{PutAt}
use mathlib.Core.List.{[], ◌∷◌, ◌++◌}
use Rattle.model.specs.Spelling.{line_feed}
use Rattle.printing.specs.Printing.{answer_line, values_spaced}
use Rattle.printing.proofs.Overwriting.{room_first, room_second, wrote_then}
use Rattle.printing.proofs.answers.put_answer.Goals as goal
use Rattle.printing.proofs.answers.put_answer.Goals.{After-put_values-after_values}

pub put_word-after_word-requires : goal.put_word-after_word-requires
unfolding answer_line
put_word-after_word-requires c = room_first c.args.word.now (values_spaced c.args.values.now)
    (room_first (c.args.word.now ++ values_spaced c.args.values.now) (line_feed ∷
    []) c.requires)

pub put_values-after_values-requires : goal.put_values-after_values-requires
unfolding answer_line
put_values-after_values-requires c = room_second c.put_word-after_word.ensures _
    (room_first (c.args.word.now ++ values_spaced c.args.values.now) (line_feed ∷
    []) c.requires)

-- the word and its values
both : (c : After-put_values-after_values) →
    PutAt c.args.lent.now c.args.at (c.args.word.now ++ values_spaced
    c.args.values.now)
    c.put_values-after_values.new.lent c.put_values-after_values.result
unfolding answer_line
both c =
    wrote_then c.put_word-after_word.ensures
    (room_first (c.args.word.now ++ values_spaced c.args.values.now) (line_feed ∷
    []) c.requires)
    c.put_values-after_values.ensures

pub put_byte-requires : goal.put_byte-requires
unfolding answer_line
put_byte-requires c =
    room_second (both (goal.at.put_byte-requires c).After-put_values-after_values) (line_feed ∷ [])
    c.requires

pub returns : goal.returns
unfolding answer_line
returns c = wrote_then (both (goal.at.returns c).After-put_values-after_values) c.requires c.put_byte.ensures
