-- `drawings::positions::put_position` meets its contract: a number, a space and a number.
use mathlib.Core.Path.{◌≡◌}
use mir.Syntax.{w64}
use mir.Val.{to_z, of_z}
use borrow.Author.Rules.{rules}
use Rattle.model.specs.Outlines.{point_text}
use Rattle.printing.proofs.Overwriting.{room_second, wrote_then}
use Rattle.drawings.proofs.positions.put_position.Goals as goal

pub returns : goal.returns
unfolding point_text
returns c =
    let x : to_z w64 (of_z w64 c.args.p.x) ≡ c.args.p.x = search rules in
    let y : to_z w64 (of_z w64 c.args.p.y) ≡ c.args.p.y = search rules in
    let first = rw x at c.put_number-x_end.ensures in
    wrote_then first c.requires
    (wrote_then c.put_byte-y_start.ensures (room_second first _ c.requires) (rw y at c.put_number.ensures))
