-- `printing::answers::put_arrival` meets its contract: the number, a space, then the answer's line.
use mathlib.Core.List.{[], ◌∷◌}
use lib.IntN.{pos}
use Rattle.model.specs.Spelling.{space, spelt}
use Rattle.model.specs.Answers.{arrival_answer}
use Rattle.model.specs.Report.{printed}
use Rattle.printing.specs.Printing.{arrival_line}
use Rattle.printing.specs.Writing.{Room}
use Rattle.printing.proofs.Overwriting.{room_first, room_second, wrote_then}
use Rattle.printing.proofs.answers.put_arrival.Goals as goal
use Rattle.printing.proofs.answers.put_arrival.Goals.{After-put_natural-after_number}

pub put_natural-after_number-requires : goal.put_natural-after_number-requires
unfolding arrival_line
put_natural-after_number-requires c =
    room_first (spelt (pos c.args.line)) (space ∷ printed (arrival_answer c.args.answer)) c.requires

-- room after the number
rest_room : (c : After-put_natural-after_number) →
    Room c.put_natural-after_number.new.lent c.put_natural-after_number.result
    (space ∷ printed (arrival_answer c.args.answer))
unfolding arrival_line
rest_room c = room_second c.put_natural-after_number.ensures _ c.requires

pub put_byte-after_space-requires : goal.put_byte-after_space-requires
put_byte-after_space-requires c =
    room_first (space ∷ []) _ (rest_room (goal.at.put_byte-after_space-requires
    c).After-put_natural-after_number)

pub put_arrival_answer-requires : goal.put_arrival_answer-requires
put_arrival_answer-requires c =
    room_second c.put_byte-after_space.ensures _ (rest_room
    (goal.at.put_arrival_answer-requires c).After-put_natural-after_number)

pub returns : goal.returns
unfolding arrival_line
returns c = wrote_then c.put_natural-after_number.ensures c.requires
    (wrote_then c.put_byte-after_space.ensures (rest_room (goal.at.returns c).After-put_natural-after_number)
    c.put_arrival_answer.ensures)
