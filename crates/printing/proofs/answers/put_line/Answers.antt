-- `printing::answers::put_line` meets its contract: the word, then a line feed.
use mathlib.Core.Path.{◌≡◌, ap}
use mathlib.Core.List.{List, ◌++◌, append-nil, [], ◌∷◌}
use Prim.Native.Nat.{ℕ}
use Rattle.printing.proofs.Overwriting.{room_as, wrote_as, room_first, room_second, wrote_then}
use Rattle.model.specs.Spelling.{line_feed}
use Rattle.model.specs.Report.{spaced}
use Rattle.printing.specs.Printing.{answer_line}
use Rattle.printing.proofs.answers.put_line.Goals as goal

line_is : (word : List ℕ) → answer_line word [] ≡ word ++ line_feed ∷ []
unfolding answer_line spaced
line_is word = ap (λ (s : List ℕ). s ++ line_feed ∷ []) (append-nil word)

pub put_word-after_word-requires : goal.put_word-after_word-requires
put_word-after_word-requires c =
    room_first c.args.word.now (line_feed ∷ []) (room_as (line_is c.args.word.now) c.requires)

pub put_byte-requires : goal.put_byte-requires
put_byte-requires c =
    room_second c.put_word-after_word.ensures (line_feed ∷ [])
    (room_as (line_is c.args.word.now) c.requires)

pub returns : goal.returns
returns c = let whole = line_is c.args.word.now in
    wrote_as whole (wrote_then c.put_word-after_word.ensures (room_as whole c.requires) c.put_byte.ensures)
